-- The text that `lexeme_at` consumes is a lexeme.
use Rattle.rl_syntax.proofs.Common.{◌≡◌, ℕ, suc, zero, inl, inr, Bool, true, false, not, ◌&&◌, ◌||◌, ◌==◌, cond, List, [], ◌∷◌, ◌++◌, Option, Some, None, drop, replicate, refl, sym, ◌∙◌, ap, subst, append_assoc, and_parts, or_from, list_all, if◌then◌else◌, option_map, is_ascii_digit, none-some}
use Rattle.rl_syntax.specs.Texts.{is_underscore, is_among, first_passes, is_run_part, is_start, is_continue, begins_char}
use Rattle.rl_lexer.specs.Lexemes.{is_base_letter, delimiters, marks, begins_hashes, begins_dot, BodyPart, PlainPart, EscapedPart, body_text, IsBody, CharacterBody, OneCharacter, EscapedCharacter, character_body_text, IsCharacterBody, LexedFraction, NoLexedFraction, LexedDot, lexed_fraction_text, lexed_sign_text, LexedExponent, NoLexedExponent, LexedPower, lexed_exponent_text, IsRun, IsLexedSuffix, IsRawBody, IsLexedFraction, IsLexedExponent, LiteralPrefix, NoPrefix, BytePrefix, CPrefix, prefix_text, Lexeme, QuotedLexeme, RawLexeme, CharacterLexeme, BasedLexeme, DecimalLexeme, IdentifierLexeme, DelimiterLexeme, MarkLexeme, lexeme_text, IsLexeme, LexemeForm, LiteralForm, IdentifierForm, DelimiterForm, MarkForm, form_of, is_punct}
use Rattle.rl_lexer.proofs.Comments.{chosen, chosen3, same_Some}
use Rattle.rl_lexer.proofs.Pieces.{is_equal}
use Rattle.rl_lexer.specs.Mirrors.LexemeAt.{after_suffix, after_quote, hashes, after_raw, after_apostrophe, after_single, after_lexed_fraction, after_lexed_exponent, after_decimal, HeadClass, LetterBHead, LetterCHead, LetterRHead, OtherLetterHead, QuoteHead, ApostropheHead, DigitHead, SlashHead, StrayHead, start_class, other_class, head_class, quoted_at, raw_at, single_at, word_at, by_class, lexeme_at, literal_at, DelimiterHead, MarkHead, after_digit, begins_hashed_quote, begins_exponent, after_sign, begins_otherwise}
use Rattle.rl_syntax.specs.Classes.{is_hash, after_run}
use Rattle.rl_lexer.proofs.HashLemmas.{hashes_split, hashes_inside}
use Rattle.rl_lexer.proofs.LexemeRows.{power_text}
use Rattle.rl_lexer.proofs.LexemeOpeners.{prefixed, opens_found, sign_found, underscores_found, passes_split, no_exponent_begins, none_otherwise}
use Rattle.rl_lexer.proofs.LexemeFronts.{decimal_text, raw_text}

-- The text `t` consists of characters that pass the test, and of the text `r`, which doesn't begin with such a
-- character.
abbrev Row : (ℕ → Bool) → List ℕ → List ℕ → Type 0
Row test t r = (run : List ℕ) × IsRun test run r × (t ≡ run ++ r)

run_step : (test : ℕ → Bool) (c : ℕ) (t : List ℕ) (b : Bool) → test c ≡ b → Row test t (after_run test t)
    → Row test (c ∷ t) (cond b (after_run test t) (c ∷ t))
run_step test c t true h (run, is, same) = (c ∷ run, record { each = ap (λ b. b && list_all test run) h ∙ is.each; ends = is.ends }, ap (λ s. c ∷ s) same)
run_step test c t false h more = ([], record { each = refl; ends = h }, refl)

pub run_found : (test : ℕ → Bool) (t : List ℕ) → Row test t (after_run test t)
run_found test [] = ([], record { each = refl; ends = refl }, refl)
run_found test (c ∷ t) = run_step test c t (test c) refl (run_found test t)

abbrev Suffixed : List ℕ → List ℕ → Type 0
Suffixed t r = (x : List ℕ) × IsLexedSuffix x r × (t ≡ x ++ r)

suffix_step : (c : ℕ) (t : List ℕ) (b : Bool) → is_start c ≡ b
    → Suffixed (c ∷ t) (cond b (after_run is_continue t) (c ∷ t))
suffix_step c t true h = let (run, is, same) = run_found is_continue t in (c ∷ run, (h, is), ap (λ s. c ∷ s) same)
suffix_step c t false h = ([], h, refl)

pub suffix_found : (t : List ℕ) → Suffixed t (after_suffix t)
suffix_found [] = ([], refl, refl)
suffix_found (c ∷ t) = suffix_step c t (is_start c) refl

mapped : {A B : Type 0} (f : A → B) (o : Option A) (r : B) → option_map f o ≡ Some r → (m : A) × (o ≡ Some m)
    × (f m ≡ r)
mapped f None r h = absurd (cc)
mapped f (Some m) r h = (m, refl, cc)

-- The text `t` consists of the body of a string literal, the closing quote, and the text `r`.
abbrev Body : List ℕ → List ℕ → Type 0
Body t r = (parts : List BodyPart) × IsBody parts × (t ≡ body_text parts ++ 34 ∷ r)

body_ends : (c : ℕ) (t r : List ℕ) → (c == 34) ≡ true → t ≡ r → Body (c ∷ t) r
body_ends c t r h same = ([], tt, (let q : c ≡ 34 = is_equal c 34 h in cc))

body_escaped : (c e : ℕ) (t r : List ℕ) → (c == 92) ≡ true → Body t r → Body (c ∷ e ∷ t) r
body_escaped c e t r h (parts, is, same) = (EscapedPart e ∷ parts, is, (let q : c ≡ 92 = is_equal c 92 h in cc))

body_plain : (c : ℕ) (t r : List ℕ) → (c == 34) ≡ false → (c == 92) ≡ false → Body t r → Body (c ∷ t) r
body_plain c t r a b (parts, is, same) = (
  PlainPart c ∷ parts,
  (ap (λ x. not (x || c == 92)) a ∙ ap not b, is),
  ap
      (λ s. c ∷ s) same,
)

pub quote_found : (t r : List ℕ) → after_quote t ≡ Some r → Body t r
quote_found [] r h = absurd (none-some r h)
quote_found (c ∷ []) r h =
    elim (chosen (c == 34) (Some []) None (Some r) h) [
      | inl (a, x) ↦ body_ends c [] r a (same_Some [] r x)
      | inr (a, x) ↦ absurd (none-some r x)
    ]
quote_found (c ∷ e ∷ t) r h =
    elim (chosen3 (c == 34) (c == 92) (Some (e ∷ t)) (after_quote t) (after_quote (e ∷ t)) (Some r) h) [
      | inl (a, x) ↦ body_ends c (e ∷ t) r a (same_Some (e ∷ t) r x)
      | inr (inl (_, a, x)) ↦ body_escaped c e t r a (quote_found t r x)
      | inr (inr (a, b, x)) ↦ body_plain c (e ∷ t) r a b (quote_found (e ∷ t) r x)
    ]

-- The text `t` consists of the body of a raw literal, the closing quote with n hashes, and the text `r`.
abbrev RawBody : ℕ → List ℕ → List ℕ → Type 0
RawBody n t r = (body : List ℕ) × IsRawBody n body × (t ≡ body ++ 34 ∷ (replicate n 35 ++ r))

raw_ends : (n c : ℕ) (t r : List ℕ) → (c == 34 && begins_hashes n t) ≡ true → drop n t ≡ r → RawBody n (c ∷ t) r
raw_ends n c t r h same =
    let k : ((c == 34) ≡ true) × (begins_hashes n t ≡ true) = and_parts (c == 34) (begins_hashes n t) h in
    let q : c ≡ 34 = is_equal c 34 k.0 in
    let e : t ≡ replicate n 35 ++ r = hashes_split n t k.1 ∙ ap (λ s. replicate n 35 ++ s) same in
    ([], tt, cc)

raw_more : (n c : ℕ) (t r : List ℕ) → (c == 34 && begins_hashes n t) ≡ false → RawBody n t r → RawBody n (c ∷ t) r
raw_more n c t r h (body, is, same) = (
  c ∷ body,
  (
    ap (λ b. c == 34 && b) (sym (hashes_inside n body (replicate n 35 ++ r))
        ∙ ap (begins_hashes n) (sym same)) ∙ h,
    is,
  ),
  ap (λ s. c ∷ s) same,
)

pub raw_found : (n : ℕ) (t r : List ℕ) → after_raw n t ≡ Some r → RawBody n t r
raw_found n [] r h = absurd (none-some r h)
raw_found n (c ∷ t) r h =
    elim (chosen (c == 34 && begins_hashes n t) (Some (drop n t)) (after_raw n t) (Some r) h) [
      | inl (a, x) ↦ raw_ends n c t r a (same_Some (drop n t) r x)
      | inr (a, x) ↦ raw_more n c t r a (raw_found n t r x)
    ]

-- The text `t` consists of the end of an escape, the closing apostrophe, and the text `r`. In `'\u{41}'` the end of the
-- escape is `{41}`. The end of the escape contains neither an apostrophe nor an LF.
abbrev More : List ℕ → List ℕ → Type 0
More t r = (more : List ℕ) × (list_all (λ d. not (d == 39 || d == 10)) more ≡ true) × (t ≡ more ++ 39 ∷ r)

more_ends : (c : ℕ) (t r : List ℕ) → (c == 39) ≡ true → t ≡ r → More (c ∷ t) r
more_ends c t r h same = ([], refl, (let q : c ≡ 39 = is_equal c 39 h in cc))

more_more : (c : ℕ) (t r : List ℕ) → (c == 39) ≡ false → (c == 10) ≡ false → More t r → More (c ∷ t) r
more_more c t r a b (more, is, same) = (
  c ∷ more,
  ap (λ x. not (x || c == 10)
      && list_all (λ d. not (d == 39 || d == 10)) more) a ∙ ap (λ x. not x
      && list_all (λ d. not (d == 39 || d == 10)) more) b ∙ is,
  ap (λ s. c ∷ s) same,
)

apostrophe_found : (t r : List ℕ) → after_apostrophe t ≡ Some r → More t r
apostrophe_found [] r h = absurd (none-some r h)
apostrophe_found (c ∷ t) r h =
    elim (chosen3 (c == 39) (c == 10) (Some t) None (after_apostrophe t) (Some r) h) [
      | inl (a, x) ↦ more_ends c t r a (same_Some t r x)
      | inr (inl (_, a, x)) ↦ absurd (none-some r x)
      | inr (inr (a, b, x)) ↦ more_more c t r a b (apostrophe_found t r x)
    ]

abbrev Inside : List ℕ → List ℕ → Type 0
Inside t r = (inside : CharacterBody) × IsCharacterBody inside × (t ≡ character_body_text inside ++ 39 ∷ r)

inside_escape : (c e : ℕ) (t r : List ℕ) → (c == 92) ≡ true → More t r → Inside (c ∷ e ∷ t) r
inside_escape c e t r h (more, is, same) = (EscapedCharacter e more, is, (let q : c ≡ 92 = is_equal c 92 h in cc))

inside_one : (c e : ℕ) (t r : List ℕ) → (c == 92) ≡ false → (e == 39) ≡ true → t ≡ r → Inside (c ∷ e ∷ t) r
inside_one c e t r h k same = (OneCharacter c, ap not h, (let q : e ≡ 39 = is_equal e 39 k in cc))

single_found : (t r : List ℕ) → after_single t ≡ Some r → Inside t r
single_found [] r h = absurd (none-some r h)
single_found (c ∷ []) r h = absurd (none-some r h)
single_found (c ∷ e ∷ t) r h =
    elim (chosen3 (c == 92) (e == 39) (after_apostrophe t) (Some t) None (Some r) h) [
      | inl (a, x) ↦ inside_escape c e t r a (apostrophe_found t r x)
      | inr (inl (a, b, x)) ↦ inside_one c e t r a b (same_Some t r x)
      | inr (inr (a, b, x)) ↦ absurd (none-some r x)
    ]

-- The text `t` consists of the fraction of a decimal number, which may be empty, and the text `r`.
abbrev Fractioned : List ℕ → List ℕ → Type 0
Fractioned t r = (f : LexedFraction) × IsLexedFraction f r × (t ≡ lexed_fraction_text f ++ r)

dot_split : (t : List ℕ) → begins_dot t ≡ true → t ≡ 46 ∷ drop 1 t
dot_split [] h = absurd (cc)
dot_split (c ∷ t) h = ap (λ x. x ∷ t) (is_equal c 46 (and_parts (c == 46)
    (not (first_passes (λ d. d == 46 || is_start d) t)) h).0)

fraction_step : (t : List ℕ) (b : Bool) → begins_dot t ≡ b → Fractioned t
    (cond b (after_run (is_run_part is_ascii_digit) (drop 1 t)) t)
fraction_step t false h = (NoLexedFraction, h, refl)
fraction_step t true h =
    let (digits, run, same) = run_found (is_run_part is_ascii_digit) (drop 1 t) in
    let e : t ≡ 46 ∷ (digits ++ after_run (is_run_part is_ascii_digit) (drop 1 t)) = dot_split t h
    ∙ ap (λ s. 46 ∷ s) same in
    (LexedDot digits, (ap begins_dot (sym e) ∙ h, run), e)

pub fraction_found : (t : List ℕ) → Fractioned t (after_lexed_fraction t)
fraction_found t = fraction_step t (begins_dot t) refl

part_run : (n d : ℕ) (u : List ℕ) → is_ascii_digit d ≡ true → after_run (is_run_part is_ascii_digit)
    (replicate n 95 ++ d ∷ u) ≡ after_run (is_run_part is_ascii_digit) u
part_run zero d u is = ap (λ b. cond (b || d == 95) (after_run (is_run_part is_ascii_digit) u) (d ∷ u)) is
part_run (suc n) d u is = part_run n d u is

abbrev Powered : List ℕ → List ℕ → Type 0
Powered t r = (e : LexedExponent) × IsLexedExponent e r × (t ≡ lexed_exponent_text e ++ r)

power_found : (c : ℕ) (t : List ℕ) → (c == 101 || c == 69) ≡ true
    → first_passes is_ascii_digit (after_run is_underscore (after_sign t)) ≡ true
    → Powered (c ∷ t) (after_run (is_run_part is_ascii_digit) (after_sign t))
power_found c t letter digit =
    let (s, t_is) = sign_found t in
    let (n, v_is) = underscores_found (after_sign t) in
    let (d, u, w_is, is) = passes_split is_ascii_digit (after_run is_underscore (after_sign t)) digit in
    let (more, run, u_is) = run_found (is_run_part is_ascii_digit) u in
    let v : after_sign t ≡ replicate n 95 ++ d ∷ u = v_is ∙ ap (λ x. replicate n 95 ++ x) w_is in
    let r : after_run (is_run_part is_ascii_digit) (after_sign t)
    ≡ after_run (is_run_part is_ascii_digit) u = ap (after_run (is_run_part is_ascii_digit)) v
    ∙ part_run n d u is in
    subst (λ (x : List ℕ). Powered (c ∷ t) x) (sym r) (
      LexedPower c s n d more,
      (letter, is, run),
      ap (λ x. c ∷ x) (t_is ∙ ap (λ x. lexed_sign_text s ++ x) (v ∙ ap (λ x. replicate n 95 ++ d ∷ x) u_is))
          ∙ sym (power_text c s n d more (after_run (is_run_part is_ascii_digit) u)),
    )

exponent_step : (t : List ℕ) (b : Bool) → begins_exponent t ≡ b
    → Powered t (cond b (after_run (is_run_part is_ascii_digit) (after_sign (drop 1 t))) t)
exponent_step t false h = (NoLexedExponent, no_exponent_begins t h, refl)
exponent_step [] true h = absurd (cc)
exponent_step (c ∷ t) true h =
    let k : ((c == 101 || c == 69) ≡ true) × (first_passes is_ascii_digit (after_run is_underscore (after_sign t))
    ≡ true) = and_parts (c == 101 || c == 69) (first_passes is_ascii_digit (after_run is_underscore (after_sign t)))
    h in
    power_found c t k.0 k.1

pub exponent_found : (t : List ℕ) → Powered t (after_lexed_exponent t)
exponent_found t = exponent_step t (begins_exponent t) refl

-- The text `t` begins with a lexeme. The pair `p` contains the form of the lexeme, and the text after the lexeme.
abbrev pub Found : List ℕ → LexemeForm × List ℕ → Type 0
Found t p = (l : Lexeme) × IsLexeme l p.1 × (t ≡ lexeme_text l ++ p.1) × (form_of l ≡ p.0)

-- The text `t` begins with a literal token, and the text `r` follows this token.
abbrev FoundLiteral : List ℕ → List ℕ → Type 0
FoundLiteral t r = Found t (LiteralForm, r)

literal_from : (t : List ℕ) (o : Option (List ℕ)) (p : LexemeForm × List ℕ) → literal_at o ≡ Some p
    → ((r : List ℕ) → o ≡ Some r → FoundLiteral t r) → Found t p
literal_from t o p h found =
    let (m, m_is, same) = mapped (λ r. (LiteralForm, r)) o p h in
    subst (λ (x : LexemeForm × List ℕ). Found t x) same (found m m_is)

decimal_found : (d : ℕ) (t : List ℕ) → is_ascii_digit d ≡ true → (d == 48 && first_passes is_base_letter t) ≡ false
    → FoundLiteral (d ∷ t) (after_decimal t)
decimal_found d t is other =
    let (more, run, t_is) = run_found (is_run_part is_ascii_digit) t in
    let (f, fraction, a_is) = fraction_found (after_run (is_run_part is_ascii_digit) t) in
    let (e, exponent, b_is) = exponent_found (after_lexed_fraction (after_run (is_run_part is_ascii_digit) t)) in
    let (x, suffix, c_is) = suffix_found (after_lexed_exponent
    (after_lexed_fraction (after_run (is_run_part is_ascii_digit) t))) in
    let b : after_lexed_fraction (after_run (is_run_part is_ascii_digit) t) ≡ lexed_exponent_text e
    ++ (x ++ after_decimal t) = b_is ∙ ap (λ s. lexed_exponent_text e ++ s) c_is in
    let a : after_run (is_run_part is_ascii_digit) t ≡ lexed_fraction_text f
    ++ (lexed_exponent_text e ++ (x ++ after_decimal t)) = a_is ∙ ap (λ s. lexed_fraction_text f ++ s) b in
    let whole : t ≡ more ++ (lexed_fraction_text f ++ (lexed_exponent_text e ++ (x ++ after_decimal t))) = t_is
    ∙ ap (λ s. more ++ s) a in (
      DecimalLexeme d more f e x,
      (
        is,
        ap (λ s. d == 48 && first_passes is_base_letter s) (sym whole) ∙ other,
        subst (λ (s : List ℕ). IsRun (is_run_part is_ascii_digit) more s) a run,
        subst (λ (s : List ℕ). IsLexedFraction f s) b fraction,
        subst (λ (s : List ℕ). IsLexedExponent e s) c_is exponent,
        suffix,
      ),
      ap (λ s. d ∷ s) (whole ∙ sym (decimal_text more (lexed_fraction_text f) (lexed_exponent_text e) x
          (after_decimal t))),
      refl,
    )

-- The facts about the first character of a text that follow from the character's class, for example that it is a quote.
abbrev Fact : HeadClass → ℕ → Type 0
Fact LetterBHead c = (is_start c ≡ true) × (c ≡ 98)
Fact LetterCHead c = (is_start c ≡ true) × (c ≡ 99)
Fact LetterRHead c = (is_start c ≡ true) × (c ≡ 114)
Fact OtherLetterHead c = (is_start c ≡ true) × ((c == 98) ≡ false) × ((c == 99) ≡ false) × ((c == 114) ≡ false)
Fact QuoteHead c = c ≡ 34
Fact ApostropheHead c = c ≡ 39
Fact DigitHead c = is_ascii_digit c ≡ true
Fact DelimiterHead c = is_among delimiters c ≡ true
Fact MarkHead c = is_among marks c ≡ true
Fact SlashHead c = c ≡ 47
Fact StrayHead c = Unit {0}

start_fact : (c : ℕ) → is_start c ≡ true → (b98 b99 b114 : Bool) → (c == 98) ≡ b98 → (c == 99) ≡ b99 → (c == 114) ≡ b114
    → Fact (cond b98 LetterBHead (cond b99 LetterCHead (cond b114 LetterRHead OtherLetterHead))) c
start_fact c is true b99 b114 p q r = (is, is_equal c 98 p)
start_fact c is false true b114 p q r = (is, is_equal c 99 q)
start_fact c is false false true p q r = (is, is_equal c 114 r)
start_fact c is false false false p q r = (is, p, q, r)

marked : (c : ℕ) → (c == 47) ≡ false → is_punct c ≡ true → is_among marks c ≡ true
marked c n h = go (is_among marks c) refl (c == 47) n h
  where
    go : (a : Bool) → is_among marks c ≡ a → (b : Bool) → b ≡ false → (a || b) ≡ true → is_among marks c ≡ true
    go true e b n h = e
    go false e true n h = absurd (cc)
    go false e false n h = absurd (cc)

other_fact : (c : ℕ) (del slash mark d b34 b39 : Bool) → is_among delimiters c ≡ del → (c == 47) ≡ slash → is_punct c
    ≡ mark → is_ascii_digit c ≡ d → (c == 34) ≡ b34 → (c == 39) ≡ b39
    → Fact (cond del DelimiterHead (cond slash SlashHead (cond mark MarkHead
    (cond d DigitHead (cond b34 QuoteHead (cond b39 ApostropheHead StrayHead)))))) c
other_fact c true slash mark d b34 b39 o p q r s t = o
other_fact c false true mark d b34 b39 o p q r s t = is_equal c 47 p
other_fact c false false true d b34 b39 o p q r s t = marked c p q
other_fact c false false false true b34 b39 o p q r s t = r
other_fact c false false false false true b39 o p q r s t = is_equal c 34 s
other_fact c false false false false false true o p q r s t = is_equal c 39 t
other_fact c false false false false false false o p q r s t = tt

head_fact : (c : ℕ) (b : Bool) → is_start c ≡ b → Fact (cond b (start_class c) (other_class c)) c
head_fact c true h = start_fact c h (c == 98) (c == 99) (c == 114) refl refl refl
head_fact c false h = other_fact c (is_among delimiters c) (c == 47) (is_punct c) (is_ascii_digit c) (c == 34) (c == 39)
    refl refl refl refl refl refl

-- If the characters `c` and `k` are equal, each lexeme at the start of `k ∷ t` is also at the start of `c ∷ t`.
at_head : (c k : ℕ) (t : List ℕ) (p : LexemeForm × List ℕ) → c ≡ k → Found (k ∷ t) p → Found (c ∷ t) p
at_head c k t p h (l, is, same, form) = (l, is, ap (λ x. x ∷ t) h ∙ same, form)

quoted_found : (p : LiteralPrefix) (t r : List ℕ) → quoted_at t ≡ Some r → FoundLiteral (prefix_text p ++ 34 ∷ t) r
quoted_found p t r h =
    let (m, m_is, r_is) = mapped after_suffix (after_quote t) r h in
    let (parts, is, t_is) = quote_found t m m_is in
    let (x, suffix, x_is) = suffix_found m in
    let e : m ≡ x ++ r = x_is ∙ ap (λ s. x ++ s) r_is in (
      QuotedLexeme p parts x,
      (is, subst (λ (s : List ℕ). IsLexedSuffix x s) r_is suffix),
      ap (λ s. prefix_text p ++ 34 ∷ s) (t_is ∙ ap (λ s. body_text parts ++ 34 ∷ s) e) ∙ quoted_text p parts x r,
      refl,
    )
  where
    quoted_text : (p : LiteralPrefix) (parts : List BodyPart) (x r : List ℕ) → prefix_text p
        ++ 34 ∷ (body_text parts ++ 34 ∷ (x ++ r)) ≡ lexeme_text (QuotedLexeme p parts x) ++ r
    quoted_text NoPrefix parts x r = ap (λ s. 34 ∷ s) (sym (append_assoc (body_text parts) (34 ∷ x) r))
    quoted_text BytePrefix parts x r = ap (λ s. 98 ∷ 34 ∷ s) (sym (append_assoc (body_text parts) (34 ∷ x) r))
    quoted_text CPrefix parts x r = ap (λ s. 99 ∷ 34 ∷ s) (sym (append_assoc (body_text parts) (34 ∷ x) r))

raw_all : (p : LiteralPrefix) (t r : List ℕ) → begins_hashed_quote t ≡ true → raw_at t ≡ Some r
    → FoundLiteral (prefix_text p ++ 114 ∷ t) r
raw_all p t r opens h =
    let (m, m_is, r_is) = mapped after_suffix (after_raw (hashes t) (drop 1 (after_run is_hash t))) r h in
    let (body, is, b_is) = raw_found (hashes t) (drop 1 (after_run is_hash t)) m m_is in
    let (x, suffix, x_is) = suffix_found m in
    let e : m ≡ x ++ r = x_is ∙ ap (λ s. x ++ s) r_is in
    let o : t ≡ replicate (hashes t) 35 ++ 34 ∷ drop 1 (after_run is_hash t) = opens_found t opens in (
      RawLexeme p (hashes t) body x,
      (is, subst (λ (s : List ℕ). IsLexedSuffix x s) r_is suffix),
      ap (λ s. prefix_text p ++ 114 ∷ s) (o ∙ ap (λ s. replicate (hashes t) 35 ++ 34 ∷ s)
          (b_is ∙ ap (λ s. body ++ 34 ∷ (replicate (hashes t) 35 ++ s)) e)) ∙ raw_spelled p (hashes t) body x r,
      refl,
    )
  where
    raw_spelled : (p : LiteralPrefix) (n : ℕ) (body x r : List ℕ) → prefix_text p
        ++ 114 ∷ (replicate n 35 ++ (34 ∷ (body ++ (34 ∷ (replicate n 35 ++ (x ++ r))))))
        ≡ lexeme_text (RawLexeme p n body x) ++ r
    raw_spelled NoPrefix n body x r = ap (λ s. 114 ∷ s) (sym (raw_text n body x r))
    raw_spelled BytePrefix n body x r = ap (λ s. 98 ∷ 114 ∷ s) (sym (raw_text n body x r))
    raw_spelled CPrefix n body x r = ap (λ s. 99 ∷ 114 ∷ s) (sym (raw_text n body x r))

character_found : (b : Bool) (t r : List ℕ) → single_at t ≡ Some r
    → FoundLiteral ((if b then 98 ∷ [] else []) ++ 39 ∷ t) r
character_found b t r h =
    let (m, m_is, r_is) = mapped after_suffix (after_single t) r h in
    let (inside, is, t_is) = single_found t m m_is in
    let (x, suffix, x_is) = suffix_found m in
    let e : m ≡ x ++ r = x_is ∙ ap (λ s. x ++ s) r_is in (
      CharacterLexeme b inside x,
      (is, subst (λ (s : List ℕ). IsLexedSuffix x s) r_is suffix),
      ap (λ s. (if b then 98 ∷ [] else []) ++ 39 ∷ s) (t_is ∙ ap (λ s. character_body_text inside ++ 39 ∷ s) e)
          ∙ character_text b inside x r,
      refl,
    )
  where
    character_text : (b : Bool) (inside : CharacterBody) (x r : List ℕ) → (if b then 98 ∷ [] else [])
        ++ 39 ∷ (character_body_text inside ++ 39 ∷ (x ++ r)) ≡ lexeme_text (CharacterLexeme b inside x) ++ r
    character_text true inside x r = ap (λ s. 98 ∷ 39 ∷ s) (sym (append_assoc (character_body_text inside) (39 ∷ x) r))
    character_text false inside x r = ap (λ s. 39 ∷ s) (sym (append_assoc (character_body_text inside) (39 ∷ x) r))

word_found : (c : ℕ) (t : List ℕ) (p : LexemeForm × List ℕ) → is_start c ≡ true → begins_otherwise (c ∷ t) ≡ false
    → word_at t ≡ Some p → Found (c ∷ t) p
word_found c t p is other h =
    let (more, run, t_is) = run_found is_continue t in
    let here : Found (c ∷ t) (IdentifierForm, after_run is_continue t) = (
      IdentifierLexeme c more,
      (
        is,
        run,
        none_otherwise (c ∷ more ++ after_run is_continue t)
            (ap (λ s. begins_otherwise (c ∷ s)) (sym t_is) ∙ other),
      ),
      ap (λ s. c ∷ s) t_is,
      refl,
    ) in
    subst (λ (x : LexemeForm × List ℕ). Found (c ∷ t) x) (same_Some (IdentifierForm, after_run is_continue t) p h) here

none3 : (p q r : Bool) → p ≡ false → q ≡ false → r ≡ false → (p || (q || r)) ≡ false
none3 p q r a b d = ap (λ x. x || (q || r)) a ∙ ap (λ x. x || r) b ∙ d

-- If the text `t` begins with the character `k`, the texts `c ∷ k ∷ drop 1 t` and `c ∷ t` are equal. So a lexeme at the
-- start of the first text is at the start of the second text.
after_prefix : (c k : ℕ) (t : List ℕ) (p : LexemeForm × List ℕ) → begins_char k t ≡ true
    → Found (c ∷ k ∷ drop 1 t) p → Found (c ∷ t) p
after_prefix c k t p e found = subst (λ (s : List ℕ). Found (c ∷ s) p) (sym (prefixed k t e)) found

raw_tail : (c : ℕ) (prefix : LiteralPrefix) (t : List ℕ) (p : LexemeForm × List ℕ) → prefix_text prefix ≡ c ∷ []
    → (begins_char 114 t && begins_hashed_quote (drop 1 t)) ≡ true → literal_at (raw_at (drop 1 t)) ≡ Some p
    → Found (c ∷ t) p
raw_tail c prefix t p e h x =
    let k : ((begins_char 114 t) ≡ true) × (begins_hashed_quote (drop 1 t) ≡ true) = and_parts
    (begins_char 114 t) (begins_hashed_quote (drop 1 t)) h in
    after_prefix c 114 t p k.0
    (subst (λ (s : List ℕ). Found (s ++ 114 ∷ drop 1 t) p) e
    (literal_from (prefix_text prefix ++ 114 ∷ drop 1 t) (raw_at (drop 1 t)) p x
    (λ r y. raw_all prefix (drop 1 t) r k.1 y)))

from_b : (t : List ℕ) (p : LexemeForm × List ℕ) → is_start 98 ≡ true → by_class LetterBHead 98 t ≡ Some p
    → Found (98 ∷ t) p
from_b t p is h =
    elim (chosen3 (begins_char 34 t) (begins_char 39 t) (literal_at (quoted_at (drop 1 t)))
    (literal_at (single_at (drop 1 t))) (cond (begins_char 114 t && begins_hashed_quote (drop 1 t))
    (literal_at (raw_at (drop 1 t))) (word_at t)) (Some p) h) [
      | inl (a, x) ↦ after_prefix 98 34 t p a
          (literal_from (98 ∷ 34 ∷ drop 1 t) (quoted_at (drop 1 t)) p x (λ r y. quoted_found BytePrefix (drop 1 t) r y))
      | inr (inl (_, a, x)) ↦ after_prefix 98 39 t p a
          (literal_from (98 ∷ 39 ∷ drop 1 t) (single_at (drop 1 t)) p x (λ r y. character_found true (drop 1 t) r y))
      | inr (inr (a, b, x)) ↦ elim (chosen (begins_char 114 t && begins_hashed_quote (drop 1 t))
          (literal_at (raw_at (drop 1 t))) (word_at t) (Some p) x) [
            | inl (d, y) ↦ raw_tail 98 BytePrefix t p refl d y
            | inr (d, y) ↦ word_found 98 t p is (or_from (begins_char 34 t
                || (begins_char 39 t || (begins_char 114 t && begins_hashed_quote (drop 1 t)))) false
                (none3 (begins_char 34 t) (begins_char 39 t)
                (begins_char 114 t && begins_hashed_quote (drop 1 t)) a b d) refl) y
          ]
    ]

from_c : (t : List ℕ) (p : LexemeForm × List ℕ) → is_start 99 ≡ true → by_class LetterCHead 99 t ≡ Some p
    → Found (99 ∷ t) p
from_c t p is h =
    elim (chosen3 (begins_char 34 t) (begins_char 114 t && begins_hashed_quote (drop 1 t))
    (literal_at (quoted_at (drop 1 t))) (literal_at (raw_at (drop 1 t))) (word_at t) (Some p) h) [
      | inl (a, x) ↦ after_prefix 99 34 t p a
          (literal_from (99 ∷ 34 ∷ drop 1 t) (quoted_at (drop 1 t)) p x (λ r y. quoted_found CPrefix (drop 1 t) r y))
      | inr (inl (_, d, y)) ↦ raw_tail 99 CPrefix t p refl d y
      | inr (inr (a, d, y)) ↦ word_found 99 t p is (or_from (begins_char 34 t
          || (begins_char 114 t && begins_hashed_quote (drop 1 t))) false
          (or_from (begins_char 34 t) (begins_char 114 t && begins_hashed_quote (drop 1 t)) a d) refl) y
    ]

from_r : (t : List ℕ) (p : LexemeForm × List ℕ) → is_start 114 ≡ true → by_class LetterRHead 114 t ≡ Some p
    → Found (114 ∷ t) p
from_r t p is h =
    elim (chosen3 (begins_hashed_quote t) (begins_char 35 t && first_passes is_start (drop 1 t))
    (literal_at (raw_at t)) None (word_at t) (Some p) h) [
      | inl (a, x) ↦ literal_from (114 ∷ t) (raw_at t) p x (λ r y. raw_all NoPrefix t r a y)
      | inr (inl (_, d, y)) ↦ absurd (none-some p y)
      | inr (inr (a, d, y)) ↦ word_found 114 t p is (or_from (begins_hashed_quote t)
          (begins_char 35 t && first_passes is_start (drop 1 t)) a d) y
    ]

letter_otherwise : (c : ℕ) (t : List ℕ) → (c == 98) ≡ false → (c == 99) ≡ false → (c == 114) ≡ false
    → begins_otherwise (c ∷ t) ≡ false
letter_otherwise c t p q r = none3 (c == 98 && (begins_char 34 t
    || (begins_char 39 t || (begins_char 114 t && begins_hashed_quote (drop 1 t)))))
    (c == 99 && (begins_char 34 t || (begins_char 114 t && begins_hashed_quote (drop 1 t))))
    (c == 114 && (begins_hashed_quote t || (begins_char 35 t && first_passes is_start (drop 1 t))))
    (ap (λ b. b && (begins_char 34 t || (begins_char 39 t
    || (begins_char 114 t && begins_hashed_quote (drop 1 t))))) p)
    (ap (λ b. b && (begins_char 34 t || (begins_char 114 t && begins_hashed_quote (drop 1 t)))) q)
    (ap (λ b. b && (begins_hashed_quote t || (begins_char 35 t && first_passes is_start (drop 1 t)))) r)

digit_found : (c : ℕ) (t : List ℕ) (b : Bool) → is_ascii_digit c ≡ true → (c == 48 && first_passes is_base_letter t) ≡ b
    → FoundLiteral (c ∷ t) (cond b (after_run is_continue (drop 1 t)) (after_decimal t))
digit_found c t false is h = decimal_found c t is h
digit_found c t true is h = based_found t (and_parts (c == 48) (first_passes is_base_letter t) h).1
    (is_equal c 48 (and_parts (c == 48) (first_passes is_base_letter t) h).0)
  where
    based_found : (t : List ℕ) → first_passes is_base_letter t ≡ true → c ≡ 48
        → FoundLiteral (c ∷ t) (after_run is_continue (drop 1 t))
    based_found [] a zero_is = absurd (cc)
    based_found (letter ∷ t) a zero_is =
        let (digits, run, t_is) = run_found is_continue t in
        (BasedLexeme letter digits, (a, run), ap (λ x. x ∷ letter ∷ t) zero_is ∙ ap (λ s. 48 ∷ letter ∷ s) t_is, refl)

slash_found : (t : List ℕ) (b : Bool) (p : LexemeForm × List ℕ) → first_passes (λ d. d == 47 || d == 42) t ≡ b
    → cond b None (Some (MarkForm 47, t)) ≡ Some p → Found (47 ∷ t) p
slash_found t true p h e = absurd (none-some p e)
slash_found t false p h e = subst (λ (x : LexemeForm × List ℕ). Found (47 ∷ t) x) (same_Some (MarkForm 47, t) p e)
    (MarkLexeme 47, inr (refl, h), refl, refl)

found_at : (t : List ℕ) (q p : LexemeForm × List ℕ) → Some q ≡ Some p → Found t q → Found t p
found_at t q p e found = subst (λ (x : LexemeForm × List ℕ). Found t x) (same_Some q p e) found

by_head : (k : HeadClass) (c : ℕ) (t : List ℕ) (p : LexemeForm × List ℕ) → Fact k c → by_class k c t ≡ Some p
    → Found (c ∷ t) p
by_head LetterBHead c t p (is, e) h = at_head c 98 t p e (from_b t p (ap is_start (sym e) ∙ is) h)
by_head LetterCHead c t p (is, e) h = at_head c 99 t p e (from_c t p (ap is_start (sym e) ∙ is) h)
by_head LetterRHead c t p (is, e) h = at_head c 114 t p e (from_r t p (ap is_start (sym e) ∙ is) h)
by_head OtherLetterHead c t p (is, a, b, d) h = word_found c t p is (letter_otherwise c t a b d) h
by_head QuoteHead c t p e h = at_head c 34 t p e (literal_from (34 ∷ t) (quoted_at t) p h
    (λ r y. quoted_found NoPrefix t r y))
by_head ApostropheHead c t p e h = at_head c 39 t p e (literal_from (39 ∷ t) (single_at t) p h
    (λ r y. character_found false t r y))
by_head DigitHead c t p is h = found_at (c ∷ t) (LiteralForm, after_digit c t) p h
    (digit_found c t (c == 48 && first_passes is_base_letter t) is refl)
by_head DelimiterHead c t p is h = found_at (c ∷ t) (DelimiterForm c, t) p h (DelimiterLexeme c, is, refl, refl)
by_head MarkHead c t p is h = found_at (c ∷ t) (MarkForm c, t) p h (MarkLexeme c, inl is, refl, refl)
by_head SlashHead c t p e h =
    at_head c 47 t p e (slash_found t (first_passes (λ d. d == 47 || d == 42) t) p refl
    (ap (λ x. cond (first_passes (λ d. d == 47 || d == 42) t) None (Some (MarkForm x, t))) (sym e) ∙ h))
by_head StrayHead c t p e h = absurd (none-some p h)

pub lexeme_at-found : (t : List ℕ) (p : LexemeForm × List ℕ) → lexeme_at t ≡ Some p → Found t p
lexeme_at-found [] p h = absurd (none-some p h)
lexeme_at-found (c ∷ t) p h = by_head (head_class c) c t p (head_fact c (is_start c) refl) h
