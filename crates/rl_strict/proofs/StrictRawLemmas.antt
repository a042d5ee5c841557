-- Raw strings of Rust's grammar: hashes, the content up to the first closing delimiter, and the suffix.
use Rattle.rl_strict.proofs.Names.{◌≡◌, ◌≢◌, ℕ, zero, suc, ◌⊎◌, ◌&&◌, ◌||◌, Bool, true, false, not, ◌==◌, cond, List, [], ◌∷◌, ◌++◌, length, drop, replicate, refl, sym, ap, subst, ◌∙◌, inl, inr, nat_lt, and_from, and_parts, both_ways, cases_Bool, eqb-true, list_all, IsTrue, false_from_ne_true, drop-append_seam, ◌↔◌, Kind, Str, ByteStr, CStr, is_string, IsStrictSuffix, Marks, first_passes, is_other, after_run, is_hash, begins, IsRawInside, begins_front, hashes_past, ends_raw, is_inside, is_raw_character, is_strict_suffix, ClosesInside, ClosesRaw, begins_is, is_ascii_other, ◌≤◌, ◌<◌, arith}
use Rattle.rl_strict.proofs.StrictWordLemmas.{all_both, all_apart, strict_suffix_complete, strict_suffix_sound}

-- ---- the content of a raw string

-- The character isn't a CR.
abbrev no_return : ℕ → Bool
no_return c = not (c == 13)

-- The characters of a raw string's content that the grammar allows in the kind pass the test `is_raw_character`.
pub inside_allowed : (k : Kind) (cs : List ℕ) → IsRawInside k cs → list_all no_return cs ≡ true
    → list_all (is_raw_character k) cs ≡ true
inside_allowed Str cs a n = n
inside_allowed ByteStr cs a n = all_both (λ c. nat_lt c 128) no_return cs a n
inside_allowed CStr cs a n = all_both (λ c. not (c == 0)) no_return cs a n
inside_allowed kind cs a n = absurd a

-- If the characters of a raw string's content pass the test `is_raw_character`, the grammar allows them in the kind.
pub inside_sound : (k : Kind) (cs : List ℕ) → is_string k ≡ true → list_all (is_raw_character k) cs ≡ true
    → IsRawInside k cs × (list_all no_return cs ≡ true)
inside_sound Str cs s h = (tt, h)
inside_sound ByteStr cs s h = all_apart (λ c. nat_lt c 128) no_return cs h
inside_sound CStr cs s h = all_apart (λ c. not (c == 0)) no_return cs h
inside_sound kind cs s h = absurd (cc)

-- ---- the first closing delimiter

-- If the text `a` followed by `z` begins with `n` hashes, and `z` doesn't begin with a hash, `a` begins with `n` hashes.
hashes_in_front : (n : ℕ) (a z : List ℕ) → first_passes is_hash z ≡ false → begins (replicate n 35) (a ++ z) ≡ true
    → begins (replicate n 35) a ≡ true
hashes_in_front zero a z no_hash h = refl
hashes_in_front (suc n) [] [] no_hash h = absurd (cc)
hashes_in_front (suc n) [] (c ∷ cs) no_hash h = absurd (both_ways (c == 35) no_hash
    (and_parts (c == 35) (begins (replicate n 35) cs) h).0)
hashes_in_front (suc n) (c ∷ cs) z no_hash h =
    let p = and_parts (c == 35) (begins (replicate n 35) (cs ++ z)) h in
    and_from (c == 35) (begins (replicate n 35) cs) p.0 (hashes_in_front n cs z no_hash p.1)

-- A prefix of a text is a prefix of each longer text too.
begins_more : (p a b : List ℕ) → begins p a ≡ true → begins p (a ++ b) ≡ true
begins_more [] a b h = refl
begins_more (k ∷ p) [] b h = absurd (cc)
begins_more (k ∷ p) (c ∷ cs) b h =
    let q = and_parts (c == k) (begins p cs) h in
    and_from (c == k) (begins p (cs ++ b)) q.0 (begins_more p cs b q.1)

-- At a character that begins no closing delimiter, the test `ends_raw` checks the character, and then the text after the
-- character.
pub raw_on : (k : Kind) (hashes : List ℕ) (c : ℕ) (cs : List ℕ) → (c == 34 && begins hashes cs) ≡ false
    → ends_raw k hashes (c ∷ cs) ≡ (is_raw_character k c && ends_raw k hashes cs)
unfolding ends_raw
raw_on k hashes c cs h = ap (λ b. cond b (is_strict_suffix (drop (length hashes) cs))
    (is_raw_character k c && ends_raw k hashes cs)) h

-- A character that is neither `"` nor CR passes the test of a raw string's character. `a` tells whether the character is
-- `"`, and `b` whether it is CR.
str_inside : (a b : Bool) → not (a || b || b || b) ≡ true → (not a && not b) ≡ true
str_inside true b h = absurd (cc)
str_inside false true h = absurd (cc)
str_inside false false h = refl

c_inside : (a b z : Bool) → not (a || b || z || z) ≡ true → (not a && (not z && not b)) ≡ true
c_inside true b z h = absurd (cc)
c_inside false true z h = absurd (cc)
c_inside false false true h = absurd (cc)
c_inside false false false h = refl

pub str_run : (m : Marks) (run : List ℕ) → m ≡ record { first = 34; second = 13; third = 13; fourth = 13 }
    → list_all (is_other m) run ≡ true → list_all (is_inside Str) run ≡ true
str_run m run e each = go run (ap (λ n. list_all (is_other n) run) (sym e) ∙ each)
  where
    go : (cs : List ℕ) → list_all (is_other (record { first = 34; second = 13; third = 13; fourth = 13 })) cs ≡ true
        → list_all (is_inside Str) cs ≡ true
    go [] h = refl
    go (c ∷ cs) h =
        let b = and_parts (not (c == 34 || c == 13 || c == 13 || c == 13))
        (list_all (is_other (record { first = 34; second = 13; third = 13; fourth = 13 })) cs) h in
        and_from (is_inside Str c) (list_all (is_inside Str) cs) (str_inside (c == 34) (c == 13) b.0) (go cs b.1)

pub c_run : (cs : List ℕ) → list_all (is_other (record { first = 34; second = 13; third = 0; fourth = 0 })) cs ≡ true
    → list_all (is_inside CStr) cs ≡ true
c_run [] h = refl
c_run (c ∷ cs) h =
    let b = and_parts (not (c == 34 || c == 13 || c == 0 || c == 0))
    (list_all (is_other (record { first = 34; second = 13; third = 0; fourth = 0 })) cs) h in
    and_from (is_inside CStr c) (list_all (is_inside CStr) cs) (c_inside (c == 34) (c == 13) (c == 0) b.0)
    (c_run cs b.1)

-- At a closing delimiter, the test `ends_raw` passes exactly if a suffix follows the delimiter.
pub raw_close : (k : Kind) (hashes x : List ℕ) → ends_raw k hashes (34 ∷ (hashes ++ x)) ≡ is_strict_suffix x
unfolding ends_raw
raw_close k hashes x =
    ap (λ b. cond b (is_strict_suffix (drop (length hashes) (hashes ++ x)))
    (is_raw_character k 34 && ends_raw k hashes (hashes ++ x))) (begins_front hashes x)
    ∙ ap is_strict_suffix (drop-append_seam hashes x)

-- The content of a raw string contains no closing delimiter.
abbrev pub NoCloser : List ℕ → List ℕ → Type 0
NoCloser hashes inside = (front rest : List ℕ) → inside ≢ front ++ (34 ∷ (hashes ++ rest))

-- If no hash follows a raw string's content, no closing delimiter begins at the content's first character.
pub no_closer_at : (n : ℕ) (c : ℕ) (cs z : List ℕ) → first_passes is_hash z ≡ false → NoCloser (replicate n 35) (c ∷ cs)
    → (c == 34 && begins (replicate n 35) (cs ++ z)) ≡ false
no_closer_at n c cs z no_hash none = false_from_ne_true (c == 34 && begins (replicate n 35) (cs ++ z)) (λ h.
    let p = and_parts (c == 34) (begins (replicate n 35) (cs ++ z)) h in
    let b = begins_is (replicate n 35) cs (hashes_in_front n cs z no_hash p.1) in
    none [] b.0 (ap (λ q. q ∷ cs) (eqb-true c 34 p.0) ∙ ap (λ q. 34 ∷ q) b.1))

-- If no hash follows a raw string's content, the test `ends_raw` skips the content. The content must have only allowed
-- characters, and no closing delimiter.
pub past_body : (k : Kind) (n : ℕ) (body z : List ℕ) → list_all (is_raw_character k) body ≡ true → NoCloser (replicate n
    35) body → first_passes is_hash z ≡ false → ends_raw k (replicate n 35) (body ++ z) ≡ ends_raw k (replicate n 35) z
past_body k n [] z each none no_hash = refl
past_body k n (c ∷ cs) z each none no_hash =
    let p = and_parts (is_raw_character k c) (list_all (is_raw_character k) cs) each in
    raw_on k (replicate n 35) c (cs ++ z) (no_closer_at n c cs z no_hash none)
    ∙ ap (λ b. b && ends_raw k (replicate n 35) (cs ++ z)) p.0
    ∙ past_body k n cs z p.1 (λ f r e. none (c ∷ f) r (ap (λ q. c ∷ q) e)) no_hash

-- The text after the opening quote of a raw string passes the test `ends_raw`.
pub raw_complete : (k : Kind) (n : ℕ) (t : List ℕ) → ClosesInside k (replicate n 35) t → ends_raw k (replicate n 35) t
    ≡ true
raw_complete k n t c =
    ap (ends_raw k (replicate n 35)) c.text_is
    ∙ past_body k n c.inside (34 ∷ (replicate n 35 ++ c.suffix))
    (inside_allowed k c.inside c.allowed c.no_carriage_return) c.first_close refl
    ∙ raw_close k (replicate n 35) c.suffix ∙ strict_suffix_complete c.suffix c.is_suffix

-- A text is the content of a raw string, its closing delimiter, and a suffix.
record RawParts (k : Kind) (hashes t : List ℕ) : Type 0 where
  inside : List ℕ
  suffix : List ℕ
  each : list_all (is_raw_character k) inside ≡ true
  none : NoCloser hashes inside
  is_suffix : IsStrictSuffix suffix
  text_is : t ≡ inside ++ (34 ∷ (hashes ++ suffix))

-- An empty text contains no quote.
pub nothing_inside : (f z : List ℕ) → [] ≡ f ++ (34 ∷ z) → ⊥
nothing_inside [] z e = absurd (cc)
nothing_inside (c ∷ f) z e = absurd (cc)

-- If the character `c` begins no closing delimiter, and the text after `c` contains no closing delimiter, `c` and the text
-- together contain no closing delimiter.
pub none_before : (hashes : List ℕ) (c : ℕ) (cs z : List ℕ) → (c == 34 && begins hashes (cs ++ z)) ≡ false
    → NoCloser hashes cs → NoCloser hashes (c ∷ cs)
none_before hashes c cs z h none [] rest e =
    let is : (c == 34) ≡ true = let q : c ≡ 34 = cc in ap (λ d. d == 34) q in
    let tail : cs ≡ hashes ++ rest = cc in
    both_ways (c == 34 && begins hashes (cs ++ z)) h (and_from (c == 34) (begins hashes (cs ++ z)) is
    (begins_more hashes cs z (ap (begins hashes) tail ∙ begins_front hashes rest)))
none_before hashes c cs z h none (f ∷ front) rest e =
    let tail : cs ≡ front ++ (34 ∷ (hashes ++ rest)) = cc in
    none front rest tail

-- A text that passes the test `ends_raw` is a content, a closing delimiter and a suffix.
raw_parts : (k : Kind) (hashes t : List ℕ) → ends_raw k hashes t ≡ true → RawParts k hashes t
unfolding ends_raw
raw_parts k hashes [] h = absurd (cc)
raw_parts k hashes (c ∷ cs) h = go (λ e. raw_parts k hashes cs e) (cases_Bool (c == 34 && begins hashes cs))
  where
    go : (ends_raw k hashes cs ≡ true → RawParts k hashes cs) → ((c == 34 && begins hashes cs) ≡ true)
        ⊎ ((c == 34 && begins hashes cs) ≡ false) → RawParts k hashes (c ∷ cs)
    go rec (inl a) =
        let p = and_parts (c == 34) (begins hashes cs) a in
        let b = begins_is hashes cs p.1 in
        let suffix : is_strict_suffix (drop (length hashes) cs) ≡ true = ap
        (λ b. cond b (is_strict_suffix (drop (length hashes) cs)) (is_raw_character k c && ends_raw k hashes cs))
        (sym a) ∙ h in
        record {
          inside = [];
          suffix = b.0;
          each = refl;
          none = λ f r e. nothing_inside f (hashes ++ r) e;
          is_suffix = strict_suffix_sound b.0 (ap is_strict_suffix
              (sym (ap (drop (length hashes)) b.1 ∙ drop-append_seam hashes b.0)) ∙ suffix);
          text_is = ap (λ q. q ∷ cs) (eqb-true c 34 p.0) ∙ ap (λ q. 34 ∷ q) b.1;
        }
    go rec (inr a) =
        let on : (is_raw_character k c && ends_raw k hashes cs) ≡ true = ap
        (λ b. cond b (is_strict_suffix (drop (length hashes) cs)) (is_raw_character k c && ends_raw k hashes cs))
        (sym a) ∙ h in
        let p = and_parts (is_raw_character k c) (ends_raw k hashes cs) on in
        let r = rec p.1 in
        let At : List ℕ → Type 0 = λ z. (c == 34 && begins hashes z) ≡ false in
        record {
          inside = c ∷ r.inside;
          suffix = r.suffix;
          each = and_from (is_raw_character k c) (list_all (is_raw_character k) r.inside) p.0 r.each;
          none = none_before hashes c r.inside (34 ∷ (hashes ++ r.suffix)) (subst At r.text_is a) r.none;
          is_suffix = r.is_suffix;
          text_is = ap (λ z. c ∷ z) r.text_is;
        }

-- A text that passes the test `ends_raw` is the text after a raw string's opening quote.
pub raw_sound : (k : Kind) (hashes t : List ℕ) → is_string k ≡ true → ends_raw k hashes t ≡ true
    → ClosesInside k hashes t
raw_sound k hashes t s h =
    let r = raw_parts k hashes t h in
    let a = inside_sound k r.inside s r.each in
    record { inside = r.inside; suffix = r.suffix; allowed = a.0; no_carriage_return = a.1; first_close = r.none; is_suffix = r.is_suffix; text_is = r.text_is }

-- ---- iterations of the loop over a raw string's content

-- A quote without the raw string's hashes after it isn't a closing delimiter.
pub quote_without_hashes : (hashes : List ℕ) (c : ℕ) (cs : List ℕ) → ((x : List ℕ) → cs ≢ hashes ++ x)
    → (c == 34 && begins hashes cs) ≡ false
quote_without_hashes hashes c cs none = false_from_ne_true (c == 34 && begins hashes cs)
    (λ h. let b = begins_is hashes cs (and_parts (c == 34) (begins hashes cs) h).1 in none b.0 b.1)

-- ---- the hashes of a raw string

-- If no quote follows the hashes at the beginning of a text, the text isn't a raw string after its prefix.
pub raw_unquoted : (k : Kind) (t r : List ℕ) → r ≡ (after_run is_hash) t → ((y : List ℕ) → r ≢ 34 ∷ y)
    → IsTrue false ↔ ClosesRaw k t
raw_unquoted k t r rest n = (
  λ y. absurd (both_ways true (sym y) refl),
  λ c. absurd
      (n c.rest (rest ∙ ap (after_run is_hash) c.text_is ∙ hashes_past c.hashes c.rest)),
)

-- ---- the content of a raw byte string

-- A raw byte string may contain each ASCII character other than `"` (34) and CR (13).
inside_one : (c : ℕ) → is_ascii_other (record { first = 34; second = 13; third = 13; fourth = 13 }) c ≡ true
    → is_inside ByteStr c ≡ true
inside_one c h = go (nat_lt c 128) (c == 34) (c == 13) h
  where
    go : (l q r : Bool) → (l && not (q || r || r || r)) ≡ true → (not q && (l && not r)) ≡ true
    go true false false h = refl
    go true true r h = absurd (cc)
    go true false true h = absurd (cc)
    go false q r h = absurd (cc)

pub inside_run : (m : Marks) (run : List ℕ) → m ≡ record { first = 34; second = 13; third = 13; fourth = 13 }
    → list_all (is_ascii_other m) run ≡ true → list_all (is_inside ByteStr) run ≡ true
inside_run m run e each = go run (ap (λ n. list_all (is_ascii_other n) run) (sym e) ∙ each)
  where
    go : (cs : List ℕ) → list_all (is_ascii_other (record { first = 34; second = 13; third = 13; fourth = 13 })) cs
        ≡ true → list_all (is_inside ByteStr) cs ≡ true
    go [] h = refl
    go (c ∷ cs) h =
        let b = and_parts (is_ascii_other (record { first = 34; second = 13; third = 13; fourth = 13 }) c)
        (list_all (is_ascii_other (record { first = 34; second = 13; third = 13; fourth = 13 })) cs) h in
        and_from (is_inside ByteStr c) (list_all (is_inside ByteStr) cs) (inside_one c b.0) (go cs b.1)

-- ---- hashes that no quote follows

-- If a text is hashes and a quote, and also fewer hashes and another text, this other text begins with a hash.
more_hashes : (m n : ℕ) (a b : List ℕ) → replicate n 35 ++ (34 ∷ a) ≡ replicate m 35 ++ b
    → first_passes (λ c. c == 34) b ≡ false → (m < n) × (first_passes is_hash b ≡ true)
more_hashes zero zero a b e q = absurd (both_ways true (ap (first_passes (λ c. c == 34)) e ∙ q) refl)
more_hashes zero (suc n) a b e q = (omega arith, sym (ap (first_passes is_hash) e))
more_hashes (suc m) zero a b e q = absurd (both_ways true (ap (first_passes (λ c. c == 34)) e) refl)
more_hashes (suc m) (suc n) a b e q =
    let p = more_hashes m n a b (ap (drop 1) e) q in
    (omega (arith, p.0), p.1)

-- Skip the hashes at the beginning of a text, but at most 255. If no quote follows them, the text doesn't begin with at most
-- 255 hashes and a quote.
pub raw_unopened : (inside quote : List ℕ) (m : ℕ) → m ≤ 255 → inside ≡ replicate m 35 ++ quote
    → (m < 255 → first_passes is_hash quote ≡ false) → first_passes (λ c. c == 34) quote ≡ false
    → (n : ℕ) (opened : List ℕ) → n ≤ 255 → inside ≡ replicate n 35 ++ (34 ∷ opened) → ⊥
raw_unopened inside quote m few e last q n opened little is =
    let z = more_hashes m n opened quote (sym is ∙ e) q in
    both_ways (first_passes is_hash quote) (last (omega (arith, z.0, little))) z.1
