-- Lemmas about tests of the first characters of a text. The tests decide what lexeme may begin the text.
use Rattle.rl_syntax.proofs.Common.{◌≡◌, ℕ, suc, zero, ◌⊎◌, inl, inr, Bool, true, false, not, ◌&&◌, ◌||◌, ◌==◌, cond, List, [], ◌∷◌, ◌++◌, drop, replicate, refl, sym, ◌∙◌, ap, and_parts, codes, is_ascii_digit, and_from, or_left, or_right}
use Rattle.rl_syntax.specs.Texts.{is_underscore, first_passes, begins, is_run_part, is_start, begins_char}
use Rattle.rl_lexer.specs.Lexemes.{BeginsHashedQuote, LiteralPrefix, NoPrefix, BytePrefix, CPrefix, prefix_text, BeginsRaw, begins_prefixed_quote, begins_raw_identifier, BeginsOtherwise, LexedSign, NoLexedSign, LexedPlus, LexedMinus, lexed_sign_text, LexedExponent, NoLexedExponent, LexedPower, lexed_exponent_text, IsLexedExponent, BeginsLexedExponent}
use Rattle.rl_lexer.specs.Cuts.{begins_lifetime, BeginsQuote}
use Rattle.rl_lexer.specs.Mirrors.LexemeAt.{hashes, begins_hashed_quote, begins_raw_after, begins_raw, begins_quote, begins_otherwise, after_sign, begins_exponent, after_lexed_exponent}
use Rattle.rl_syntax.specs.Classes.{is_hash, after_run}
use Rattle.rl_syntax.proofs.Basics.{false_unless}
use Rattle.rl_lexer.proofs.Pieces.{is_equal}
use Rattle.rl_lexer.proofs.HashLemmas.{hashes_first, hashes_past}
use Rattle.rl_lexer.proofs.LexemeRows.{not_true, underscores_past, digits_past, sign_past, power_text}

or_cases : (a b : Bool) → (a || b) ≡ true → (a ≡ true) ⊎ (b ≡ true)
or_cases true b h = inl refl
or_cases false b h = inr h

-- If a text begins with the character `k`, the text is `k`, followed by the text without its first character.
pub prefixed : (k : ℕ) (t : List ℕ) → begins_char k t ≡ true → t ≡ k ∷ drop 1 t
prefixed k [] h = absurd (cc)
prefixed k (c ∷ t) h = ap (λ x. x ∷ t) (is_equal c k h)

-- If a text begins with the characters `k` and `l`, the text is `k` and `l`, followed by some text.
two : (k l : ℕ) (t : List ℕ) → begins (k ∷ l ∷ []) t ≡ true → (u : List ℕ) × (t ≡ k ∷ l ∷ u)
two k l [] h = absurd (cc)
two k l (c ∷ []) h = let q : false ≡ true = (and_parts (c == k) false h).1 in absurd (cc)
two k l (c ∷ d ∷ u) h =
    let p = and_parts (c == k) (d == l && true) h in
    let q = and_parts (d == l) true p.1 in
    (u, ap (λ x. x ∷ d ∷ u) (is_equal c k p.0) ∙ ap (λ x. k ∷ x ∷ u) (is_equal d l q.0))

-- ---- hashes and a quote

pub opens_found : (t : List ℕ) → (begins_char 34 (after_run is_hash t)) ≡ true → t ≡ replicate (hashes t) 35
    ++ 34 ∷ drop 1 (after_run is_hash t)
opens_found t h = hashes_first t ∙ ap (λ s. replicate (hashes t) 35 ++ s)
    (prefixed 34 (after_run is_hash t) h)

pub raw_opens_here : (n : ℕ) (u : List ℕ) → begins_hashed_quote (replicate n 35 ++ 34 ∷ u) ≡ true
raw_opens_here n u = ap (λ s. begins_char 34 s) (hashes_past n u)

hashed_here : (t : List ℕ) → BeginsHashedQuote t → begins_hashed_quote t ≡ true
hashed_here t b = ap begins_hashed_quote b.text_is ∙ raw_opens_here b.hashes b.rest

hashed_begins : (t : List ℕ) → begins_hashed_quote t ≡ true → BeginsHashedQuote t
hashed_begins t h = record {
  hashes = hashes t;
  rest = drop 1 (after_run is_hash t);
  text_is = opens_found t h;
}

-- ---- raw literals

raw_here_by : (p : LiteralPrefix) (u : List ℕ) → begins_hashed_quote u ≡ true → begins_raw (prefix_text p ++ (114 ∷ u))
    ≡ true
raw_here_by NoPrefix u h = or_left _ _ h
raw_here_by BytePrefix u h = h
raw_here_by CPrefix u h = h

raw_here : (t : List ℕ) → BeginsRaw t → begins_raw t ≡ true
raw_here t b = ap begins_raw b.text_is ∙ raw_here_by b.prefix b.rest (hashed_here b.rest b.opens)

raw_by : (p : LiteralPrefix) (t u : List ℕ) → t ≡ prefix_text p ++ (114 ∷ u) → begins_hashed_quote u ≡ true
    → BeginsRaw t
raw_by p t u same h = record { prefix = p; rest = u; opens = hashed_begins u h; text_is = same }

raw_begins : (t : List ℕ) → begins_raw t ≡ true → BeginsRaw t
raw_begins [] h = absurd (cc)
raw_begins (c ∷ cs) h =
    elim (or_cases (c == 114 && begins_hashed_quote cs) (begins_raw_after cs (c == 98 || c == 99)) h) [
      | inl a ↦ let p = and_parts (c == 114) (begins_hashed_quote cs) a in raw_by NoPrefix (c ∷ cs) cs
          (ap (λ x. x ∷ cs) (is_equal c 114 p.0)) p.1
      | inr a ↦ following cs a
    ]
  where
    following : (cs : List ℕ) → begins_raw_after cs (c == 98 || c == 99) ≡ true → BeginsRaw (c ∷ cs)
    following [] h = absurd (cc)
    following (d ∷ ds) h =
        let p = and_parts ((c == 98 || c == 99) && d == 114) (begins_hashed_quote ds) h in
        let q = and_parts (c == 98 || c == 99) (d == 114) p.0 in
        let d_is : d ≡ 114 = is_equal d 114 q.1 in
        elim (or_cases (c == 98) (c == 99) q.0) [
          | inl b ↦ raw_by BytePrefix (c ∷ d ∷ ds) ds (ap (λ x. x ∷ d ∷ ds) (is_equal c 98 b)
              ∙ ap (λ x. 98 ∷ x ∷ ds) d_is) p.1
          | inr b ↦ raw_by CPrefix (c ∷ d ∷ ds) ds (ap (λ x. x ∷ d ∷ ds) (is_equal c 99 b) ∙ ap (λ x. 99 ∷ x ∷ ds) d_is)
              p.1
        ]

-- ---- exponents

pub underscores_found : (t : List ℕ) → (n : ℕ) × (t ≡ replicate n 95 ++ after_run is_underscore t)
underscores_found [] = (zero, refl)
underscores_found (c ∷ t) = go (c == 95) refl (underscores_found t)
  where
    go : (b : Bool) → (c == 95) ≡ b → ((n : ℕ) × (t ≡ replicate n 95 ++ after_run is_underscore t)) → (n : ℕ)
        × (c ∷ t ≡ replicate n 95 ++ cond b (after_run is_underscore t) (c ∷ t))
    go true h (n, same) = (
      suc n,
      ap (λ s. c ∷ s) same ∙ ap (λ x. x ∷ (replicate n 95 ++ after_run is_underscore t))
          (is_equal c 95 h),
    )
    go false h more = (zero, refl)

pub sign_found : (t : List ℕ) → (s : LexedSign) × (t ≡ lexed_sign_text s ++ after_sign t)
sign_found [] = (NoLexedSign, refl)
sign_found (c ∷ t) = go (c == 43) (c == 45) refl refl
  where
    go : (a b : Bool) → (c == 43) ≡ a → (c == 45) ≡ b → (s : LexedSign)
        × (c ∷ t ≡ lexed_sign_text s ++ cond (a || b) t (c ∷ t))
    go true b h k = (LexedPlus, ap (λ x. x ∷ t) (is_equal c 43 h))
    go false true h k = (LexedMinus, ap (λ x. x ∷ t) (is_equal c 45 k))
    go false false h k = (NoLexedSign, refl)

pub passes_split : (test : ℕ → Bool) (t : List ℕ) → first_passes test t ≡ true → (d : ℕ) × (u : List ℕ) × (t ≡ d ∷ u)
    × (test d ≡ true)
passes_split test [] h = absurd (cc)
passes_split test (d ∷ t) h = (d, t, refl, h)

exponent_here : (t : List ℕ) → BeginsLexedExponent t → begins_exponent t ≡ true
exponent_here t b =
    ap begins_exponent b.text_is
    ∙ and_from _ _ b.is_letter
    (ap (λ x. first_passes is_ascii_digit (after_run is_underscore x))
    (sign_past b.sign b.underscores b.digit b.rest b.is_digit)
    ∙ ap (first_passes is_ascii_digit) (underscores_past b.underscores b.digit b.rest b.is_digit)
    ∙ b.is_digit)

exponent_begins : (t : List ℕ) → begins_exponent t ≡ true → BeginsLexedExponent t
exponent_begins [] h = absurd (cc)
exponent_begins (c ∷ t) h =
    let k = and_parts (c == 101 || c == 69) (first_passes is_ascii_digit (after_run is_underscore (after_sign t))) h in
    let (s, t_is) = sign_found t in
    let (n, v_is) = underscores_found (after_sign t) in
    let (d, u, w_is, is) = passes_split is_ascii_digit (after_run is_underscore (after_sign t)) k.1 in
    record {
      letter = c;
      sign = s;
      underscores = n;
      digit = d;
      rest = u;
      is_letter = k.0;
      is_digit = is;
      text_is = ap (λ x. c ∷ x) (t_is ∙ ap (λ x. lexed_sign_text s ++ x) (v_is ∙ ap (λ x. replicate n 95 ++ x) w_is));
    }

pub no_exponent_here : (t : List ℕ) → (BeginsLexedExponent t → ⊥) → begins_exponent t ≡ false
no_exponent_here t none = false_unless (begins_exponent t) (λ h. none (exponent_begins t h))

pub no_exponent_begins : (t : List ℕ) → begins_exponent t ≡ false → BeginsLexedExponent t → ⊥
no_exponent_begins t h b = let q : true ≡ false = sym (exponent_here t b) ∙ h in absurd (cc)

pub exponent_past : (e : LexedExponent) (t : List ℕ) → IsLexedExponent e t
    → after_lexed_exponent (lexed_exponent_text e ++ t) ≡ t
exponent_past NoLexedExponent t none =
    ap (λ b. cond b (after_run (is_run_part is_ascii_digit) (after_sign (drop 1 t))) t) (no_exponent_here t none)
exponent_past (LexedPower letter s n d more) t (is_letter, is, run) =
    let g : after_sign (lexed_sign_text s ++ (replicate n 95 ++ d ∷ (more ++ t))) ≡ replicate n 95
    ++ d ∷ (more ++ t) = sign_past s n d (more ++ t) is in
    ap after_lexed_exponent (power_text letter s n d more t)
    ∙ ap (λ b. cond (b && first_passes is_ascii_digit (after_run is_underscore
    (after_sign (lexed_sign_text s ++ (replicate n 95 ++ d ∷ (more ++ t))))))
    (after_run (is_run_part is_ascii_digit) (after_sign (lexed_sign_text s ++ (replicate n 95 ++ d ∷ (more ++ t)))))
    (letter ∷ (lexed_sign_text s ++ (replicate n 95 ++ d ∷ (more ++ t))))) is_letter
    ∙ ap (λ x. cond (first_passes is_ascii_digit (after_run is_underscore x)) (after_run (is_run_part is_ascii_digit) x)
    (letter ∷ (lexed_sign_text s ++ (replicate n 95 ++ d ∷ (more ++ t))))) g
    ∙ ap (λ x. cond (first_passes is_ascii_digit x) (after_run (is_run_part is_ascii_digit)
    (replicate n 95 ++ d ∷ (more ++ t))) (letter ∷ (lexed_sign_text s ++ (replicate n 95 ++ d ∷ (more ++ t)))))
    (underscores_past n d (more ++ t) is)
    ∙ ap (λ b. cond b (after_run (is_run_part is_ascii_digit) (replicate n 95 ++ d ∷ (more ++ t)))
    (letter ∷ (lexed_sign_text s ++ (replicate n 95 ++ d ∷ (more ++ t))))) is
    ∙ digits_past n d more t is run

-- ---- text that isn't an identifier

pub raw_split : (r : List ℕ) → begins_raw_identifier r ≡ true → (d : ℕ) × (u : List ℕ) × (r ≡ 114 ∷ 35 ∷ d ∷ u)
    × (is_start d ≡ true)
raw_split [] h = absurd (cc)
raw_split (c ∷ []) h = absurd (cc)
raw_split (c ∷ e ∷ cs) h =
    let k : ((c == 114 && e == 35) ≡ true) × (first_passes is_start cs ≡ true) = and_parts (c == 114 && e == 35)
    (first_passes is_start cs) h in
    let m : ((c == 114) ≡ true) × ((e == 35) ≡ true) = and_parts (c == 114) (e == 35) k.0 in
    let (d, u, same, is) = passes_split is_start cs k.1 in (
      d,
      u,
      ap (λ x. x ∷ e ∷ cs) (is_equal c 114 m.0) ∙ ap (λ x. 114 ∷ x ∷ cs) (is_equal e 35 m.1)
          ∙ ap (λ x. 114 ∷ 35 ∷ x) same,
      is,
    )

prefixed_here : (t : List ℕ) → begins_prefixed_quote t ≡ true → begins_otherwise t ≡ true
prefixed_here t h =
    elim (or_cases (begins (codes "b\"") t) (begins (codes "c\"") t || begins (codes "b'") t) h) [
      | inl a ↦ ap begins_otherwise (two 98 34 t a).1
      | inr a ↦ elim (or_cases (begins (codes "c\"") t) (begins (codes "b'") t) a) [
        | inl b ↦ ap begins_otherwise (two 99 34 t b).1
        | inr b ↦ ap begins_otherwise (two 98 39 t b).1
      ]
    ]

raw_otherwise : (p : LiteralPrefix) (u : List ℕ) → begins_hashed_quote u ≡ true
    → begins_otherwise (prefix_text p ++ (114 ∷ u)) ≡ true
raw_otherwise NoPrefix u h = or_left _ _ h
raw_otherwise BytePrefix u h = or_left _ _ h
raw_otherwise CPrefix u h = or_left _ _ h

otherwise_here : (t : List ℕ) → BeginsOtherwise t → begins_otherwise t ≡ true
otherwise_here t (inl h) = prefixed_here t h
otherwise_here t (inr (inl h)) = ap begins_otherwise h.text_is
    ∙ raw_otherwise h.prefix h.rest (hashed_here h.rest h.opens)
otherwise_here t (inr (inr h)) = let (d, u, same, is) = raw_split t h in ap begins_otherwise same ∙ or_right _ _ is

-- Whether a text that follows the letter `b` continues the prefix of a literal, as in `b"` or `br"`.
abbrev tail_b : List ℕ → Bool
tail_b t = begins_char 34 t || (begins_char 39 t ||
    (begins_char 114 t && begins_hashed_quote (drop 1 t)))

abbrev tail_c : List ℕ → Bool
tail_c t = begins_char 34 t || (begins_char 114 t && begins_hashed_quote (drop 1 t))

abbrev tail_r : List ℕ → Bool
tail_r t = begins_hashed_quote t || (begins_char 35 t && first_passes is_start (drop 1 t))

then_is : (c k l : ℕ) (t : List ℕ) → (c == k) ≡ true → begins_char l t ≡ true → c ∷ t ≡ k ∷ l ∷ drop 1 t
then_is c k l t a b = ap (λ x. x ∷ t) (is_equal c k a) ∙ ap (λ x. k ∷ x) (prefixed l t b)

otherwise_b : (c : ℕ) (t : List ℕ) → (c == 98) ≡ true → tail_b t ≡ true → BeginsOtherwise (c ∷ t)
otherwise_b c t c_is h =
    elim (or_cases (begins_char 34 t) (begins_char 39 t
    || (begins_char 114 t && begins_hashed_quote (drop 1 t))) h) [
      | inl a ↦ inl (ap begins_prefixed_quote (then_is c 98 34 t c_is a))
      | inr a ↦ elim (or_cases (begins_char 39 t) (begins_char 114 t && begins_hashed_quote (drop 1 t)) a) [
        | inl b ↦ inl (ap begins_prefixed_quote (then_is c 98 39 t c_is b))
        | inr b ↦
            let k = and_parts (begins_char 114 t) (begins_hashed_quote (drop 1 t)) b in
            inr (inl (raw_by BytePrefix (c ∷ t) (drop 1 t) (then_is c 98 114 t c_is k.0) k.1))
      ]
    ]

otherwise_c : (c : ℕ) (t : List ℕ) → (c == 99) ≡ true → tail_c t ≡ true → BeginsOtherwise (c ∷ t)
otherwise_c c t c_is h =
    elim (or_cases (begins_char 34 t) (begins_char 114 t && begins_hashed_quote (drop 1 t)) h) [
      | inl a ↦ inl (ap begins_prefixed_quote (then_is c 99 34 t c_is a))
      | inr b ↦
          let k = and_parts (begins_char 114 t) (begins_hashed_quote (drop 1 t)) b in
          inr (inl (raw_by CPrefix (c ∷ t) (drop 1 t) (then_is c 99 114 t c_is k.0) k.1))
    ]

otherwise_r : (c : ℕ) (t : List ℕ) → (c == 114) ≡ true → tail_r t ≡ true → BeginsOtherwise (c ∷ t)
otherwise_r c t c_is h =
    elim (or_cases (begins_hashed_quote t) (begins_char 35 t && first_passes is_start (drop 1 t)) h) [
      | inl a ↦ inr (inl (raw_by NoPrefix (c ∷ t) t (ap (λ x. x ∷ t) (is_equal c 114 c_is)) a))
      | inr b ↦
          let k = and_parts (begins_char 35 t) (first_passes is_start (drop 1 t)) b in
          inr (inr (ap begins_raw_identifier (then_is c 114 35 t c_is k.0) ∙ k.1))
    ]

otherwise_begins : (t : List ℕ) → begins_otherwise t ≡ true → BeginsOtherwise t
otherwise_begins [] h = absurd (cc)
otherwise_begins (c ∷ t) h =
    elim (or_cases (c == 98 && tail_b t) ((c == 99 && tail_c t) || (c == 114 && tail_r t)) h) [
      | inl a ↦ let k = and_parts (c == 98) (tail_b t) a in otherwise_b c t k.0 k.1
      | inr a ↦ elim (or_cases (c == 99 && tail_c t) (c == 114 && tail_r t) a) [
        | inl b ↦ let k = and_parts (c == 99) (tail_c t) b in otherwise_c c t k.0 k.1
        | inr b ↦ let k = and_parts (c == 114) (tail_r t) b in otherwise_r c t k.0 k.1
      ]
    ]

pub no_otherwise : (t : List ℕ) → (BeginsOtherwise t → ⊥) → begins_otherwise t ≡ false
no_otherwise t none = false_unless (begins_otherwise t) (λ h. none (otherwise_begins t h))

pub none_otherwise : (t : List ℕ) → begins_otherwise t ≡ false → BeginsOtherwise t → ⊥
none_otherwise t h b = let q : true ≡ false = sym (otherwise_here t b) ∙ h in absurd (cc)

-- ---- quotes that begin a literal

any_prefixed : (a b c d e f : Bool) → (b || (c || e)) ≡ true → (a || b || c || d || e || f) ≡ true
any_prefixed true b c d e f h = refl
any_prefixed false true c d e f h = refl
any_prefixed false false true d e f h = refl
any_prefixed false false false true e f h = refl
any_prefixed false false false false true f h = refl
any_prefixed false false false false false f h = absurd (cc)

one_of : (a b c d e f : Bool) → (a || b || c || d || e || f) ≡ true → (a ≡ true)
    ⊎ (((b || (c || e)) ≡ true) ⊎ ((d ≡ true) ⊎ (f ≡ true)))
one_of true b c d e f h = inl refl
one_of false true c d e f h = inr (inl refl)
one_of false false true d e f h = inr (inl refl)
one_of false false false true e f h = inr (inr (inl refl))
one_of false false false false true f h = inr (inl refl)
one_of false false false false false f h = inr (inr (inr h))

pub quote_here : (t : List ℕ) → BeginsQuote t → begins_quote t ≡ true
quote_here t (inl h) = or_left _ _ (or_left _ _ (or_left _ _ (or_left _ _ (or_left _ _ h))))
quote_here t (inr (inl h)) = any_prefixed (begins (codes "\"") t) (begins (codes "b\"") t) (begins (codes "c\"") t)
    (begins_raw t) (begins (codes "b'") t) (begins (codes "'") t && not (begins_lifetime t)) h
quote_here t (inr (inr (inl h))) = or_left _ _ (or_left _ _ (or_right _ _ (raw_here t h)))
quote_here t (inr (inr (inr (h, other)))) = or_right _ _ (and_from _ _ h (ap not other))

pub quote_begins : (t : List ℕ) → begins_quote t ≡ true → BeginsQuote t
quote_begins t h =
    elim (one_of (begins (codes "\"") t) (begins (codes "b\"") t) (begins (codes "c\"") t) (begins_raw t)
    (begins (codes "b'") t) (begins (codes "'") t && not (begins_lifetime t)) h) [
      | inl a ↦ inl a
      | inr (inl a) ↦ inr (inl a)
      | inr (inr (inl a)) ↦ inr (inr (inl (raw_begins t a)))
      | inr (inr (inr a)) ↦
          let k = and_parts (begins (codes "'") t) (not (begins_lifetime t)) a in
          inr (inr (inr (k.0, not_true (begins_lifetime t) k.1)))
    ]

pub no_quote_here : (t : List ℕ) → (BeginsQuote t → ⊥) → begins_quote t ≡ false
no_quote_here t none = false_unless (begins_quote t) (λ h. none (quote_begins t h))

pub no_quote_begins : (t : List ℕ) → begins_quote t ≡ false → BeginsQuote t → ⊥
no_quote_begins t h b = let q : true ≡ false = sym (quote_here t b) ∙ h in absurd (cc)
