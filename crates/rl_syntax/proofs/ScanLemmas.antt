-- The leading bytes of a text that pass a test encode the text's leading characters that pass the test.
use Rattle.rl_syntax.proofs.Common.{◌≡◌, ◌≢◌, ◌==◌, ℕ, suc, ◌+◌, ◌<◌, ◌≤◌, ◌⊎◌, inl, inr, ◌||◌, Bool, true, false, not, cond, List, [], ◌∷◌, ◌++◌, length, take, drop, get_or, refl, sym, ap, subst, ◌∙◌, arith, and_from, and_parts, both_ways, eq-eqb, ltb-true, prefix_len-le-length, take-append-drop, encodes-chars, chars-append, IsUtf8-take, IsUtf8-drop, chars_past_char, encode_ascii, list_all, prefix_len, is_ascii, chars, encode_utf8_all, IsUtf8, IsCharBoundary}
use Rattle.std.proofs.lemmas.Bool.{cond-false}
use Rattle.std.proofs.lemmas.List.Sums.{prefix_len_stops}
use Rattle.std.proofs.lemmas.Str.{IsCharBoundary-before_ascii, IsCharBoundary-end}
use Rattle.std.specs.Char.{encode_utf8}
use Rattle.rl_syntax.specs.declared.scan.Marks.{Marks}
use Rattle.rl_syntax.specs.Texts.{first_passes, IsTail}
use Rattle.rl_syntax.specs.Scanning.{is_other, AreAscii}
use Rattle.rl_syntax.proofs.LowBytes.{not_equal, cases128, low_front, encode_is_high}
use Rattle.rl_syntax.proofs.Basics.{false_unless}

-- Whether all non-ASCII bytes pass a test.
abbrev pub PassesHigh : (ℕ → Bool) → Type 0
PassesHigh q = (b : ℕ) → 128 ≤ b → q b ≡ true

-- Non-ASCII bytes aren't delimiters, so they pass the test of the characters that aren't delimiters.
pub other_high : (m : Marks) → AreAscii m → PassesHigh (is_other m)
other_high m h b high = rw (
  not_equal b m.first h.0 high,
  not_equal b m.second h.1 high,
  not_equal b m.third h.2 high,
  not_equal b m.fourth h.3 high,
) refl

-- ---- the leading bytes that pass the test

pub none_passes : (q : ℕ → Bool) (bs : List ℕ) (b : ℕ) → get_or bs 0 0 ≡ b → q b ≡ false → 0 ≡ prefix_len q bs
none_passes q [] b is fails = refl
none_passes q (x ∷ bs) b is fails = sym (cond-false _ _ _ (ap q is ∙ fails))

take_next : (n b : ℕ) (bs : List ℕ) → take (1 + n) (b ∷ bs) ≡ b ∷ take n bs
take_next n b bs = let e : 1 + n ≡ suc n = omega arith in ap (λ k. take k (b ∷ bs)) e

pub drop_next : (n b : ℕ) (bs : List ℕ) → drop (1 + n) (b ∷ bs) ≡ drop n bs
drop_next n b bs = let e : 1 + n ≡ suc n = omega arith in ap (λ k. drop k (b ∷ bs)) e

pub prefix_passes : (q : ℕ → Bool) (bs : List ℕ) → list_all q (take (prefix_len q bs) bs) ≡ true
prefix_passes q [] = refl
prefix_passes q (b ∷ bs) = go (q b) refl (prefix_passes q bs)
  where
    go : (t : Bool) → q b ≡ t → list_all q (take (prefix_len q bs) bs) ≡ true
        → list_all q (take (cond t (1 + prefix_len q bs) 0) (b ∷ bs)) ≡ true
    go true e more = ap (list_all q) (take_next (prefix_len q bs) b bs)
        ∙ and_from (q b) (list_all q (take (prefix_len q bs) bs)) e more
    go false e more = refl

pub prefix_ends : (q : ℕ → Bool) (bs : List ℕ) → first_passes q (drop (prefix_len q bs) bs) ≡ false
prefix_ends q [] = refl
prefix_ends q (b ∷ bs) = go (q b) refl (prefix_ends q bs)
  where
    go : (t : Bool) → q b ≡ t → first_passes q (drop (prefix_len q bs) bs) ≡ false
        → first_passes q (drop (cond t (1 + prefix_len q bs) 0) (b ∷ bs)) ≡ false
    go true e more = ap (first_passes q) (drop_next (prefix_len q bs) b bs) ∙ more
    go false e more = e

later_pass : (q : ℕ → Bool) (xs ys : List ℕ) → list_all q (xs ++ ys) ≡ true → list_all q ys ≡ true
later_pass q [] ys h = h
later_pass q (x ∷ xs) ys h = later_pass q xs ys (and_parts (q x) (list_all q (xs ++ ys)) h).1

-- ---- the sequence of passing bytes, as characters

module _ (q : ℕ → Bool) (high : PassesHigh q) where
  all_encoded : (cs : List ℕ) → list_all q (encode_utf8_all cs) ≡ true → list_all q cs ≡ true
  all_encoded [] h = refl
  all_encoded (c ∷ cs) h = and_from (q c) (list_all q cs) (first (cases128 c))
      (all_encoded cs (later_pass q (encode_utf8 c) (encode_utf8_all cs) h))
    where
      first : (c < 128) ⊎ (128 ≤ c) → q c ≡ true
      first (inl low) = (and_parts (q c) (list_all q (encode_utf8_all cs))
          (ap (list_all q) (sym (low_front c cs low)) ∙ h)).0
      first (inr past) = high c past

  head_encoded : (cs : List ℕ) → first_passes q (encode_utf8_all cs) ≡ false → first_passes q cs ≡ false
  head_encoded [] h = refl
  head_encoded (c ∷ cs) h = go (cases128 c)
    where
      go : (c < 128) ⊎ (128 ≤ c) → q c ≡ false
      go (inl low) = ap (first_passes q) (sym (low_front c cs low)) ∙ h
      go (inr past) =
          let (b, bs, same, is, _) = encode_is_high c past in
          absurd (both_ways (q b) (ap (λ x. first_passes q (x ++ encode_utf8_all cs)) (sym same) ∙ h) (high b is))

  -- If all non-ASCII bytes pass a test, the sequence of leading bytes that pass the test ends at a character boundary.
  pub run_boundary : (bs : List ℕ) → IsCharBoundary bs (prefix_len q bs)
  run_boundary bs =
      let n = prefix_len q bs in
      elim (at_end n) [
        | inl whole ↦ subst (IsCharBoundary bs) (sym whole) (IsCharBoundary-end bs)
        | inr inside ↦ IsCharBoundary-before_ascii bs n inside (low (get_or bs n 0) (prefix_len_stops q bs 0 inside))
      ]
    where
      at_end : (n : ℕ) → (prefix_len q bs ≡ length bs) ⊎ (prefix_len q bs < length bs)
      at_end n = grind (arith, prefix_len-le-length q bs)

      low : (b : ℕ) → q b ≡ false → b < 128
      low b fails = elim (cases128 b) [ inl is ↦ is | inr past ↦ absurd (both_ways (q b) fails (high b past)) ]

  -- If all non-ASCII bytes pass a test, the leading bytes that pass the test encode characters that pass it.
  pub run_plain : (bs : List ℕ) → IsUtf8 bs → list_all q (chars (take (prefix_len q bs) bs)) ≡ true
  run_plain bs u =
      let front = take (prefix_len q bs) bs in
      all_encoded (chars front) (ap (list_all q) (encodes-chars front
      (IsUtf8-take bs (prefix_len q bs) u (run_boundary bs))) ∙ prefix_passes q bs)

  -- If all non-ASCII bytes pass a test, the character after the leading passing bytes fails the test.
  pub run_stop : (bs : List ℕ) → IsUtf8 bs → first_passes q (chars (drop (prefix_len q bs) bs)) ≡ false
  run_stop bs u =
      let rest = drop (prefix_len q bs) bs in
      head_encoded (chars rest) (ap (first_passes q) (encodes-chars rest
      (IsUtf8-drop bs (prefix_len q bs) u (run_boundary bs))) ∙ prefix_ends q bs)

  pub run_cut : (bs : List ℕ) → IsUtf8 bs → chars bs ≡ chars (take (prefix_len q bs) bs)
      ++ chars (drop (prefix_len q bs) bs)
  run_cut bs u =
      let n = prefix_len q bs in
      ap chars (sym (take-append-drop n bs)) ∙ chars-append (take n bs) (drop n bs)
      (IsUtf8-take bs n u (run_boundary bs))

  pub run_tail : (bs : List ℕ) → IsUtf8 bs → IsTail bs (drop (prefix_len q bs) bs)
  run_tail bs u = record { front = take (prefix_len q bs) bs; text_is = sym (take-append-drop (prefix_len q bs) bs); is_text = IsUtf8-drop bs (prefix_len q bs) u (run_boundary bs) }

-- ---- an ASCII character at the start

pub ascii_first : (t : List ℕ) → IsUtf8 t → 0 < length t → get_or t 0 0 < 128 → chars t
    ≡ get_or t 0 0 ∷ chars (drop 1 t)
ascii_first [] u some low = absurd (omega arith)
ascii_first (b ∷ bs) u some low = chars_past_char (b ∷ bs) bs b u (sym (ap (λ x. x ++ bs) (encode_ascii b low)))

pub none_first : (t : List ℕ) → length t ≡ 0 → first_passes is_ascii (chars t) ≡ false
unfolding chars
none_first [] none = refl
none_first (b ∷ bs) none = absurd (omega arith)

pub other_first : (t : List ℕ) → IsUtf8 t → 128 ≤ get_or t 0 0 → first_passes is_ascii (chars t) ≡ false
other_first t u high = go (chars t) (encodes-chars t u)
  where
    low_head : (c : ℕ) (cs : List ℕ) → encode_utf8_all (c ∷ cs) ≡ t → c < 128 → get_or t 0 0 ≡ c
    low_head c cs e low = ap (λ x. get_or x 0 0) (sym e ∙ low_front c cs low)

    go : (cs : List ℕ) → encode_utf8_all cs ≡ t → first_passes is_ascii cs ≡ false
    go [] e = refl
    go (c ∷ cs) e = false_unless (is_ascii c) (λ h. omega (arith, low_head c cs e (ltb-true c 128 h), ltb-true c 128 h))

-- ---- the next delimiter

pub not_false : (b : Bool) → not b ≡ false → b ≡ true
not_false true h = refl
not_false false h = absurd (cc)

-- ---- characters that aren't delimiters

pub not_first : (m : Marks) (c : ℕ) → is_other m c ≡ true → c ≢ m.first
not_first m c h e = both_ways (is_other m c) (ap (λ b. not (b || c == m.second || c == m.third || c == m.fourth))
    (eq-eqb c m.first e)) h

pub not_second : (m : Marks) (c : ℕ) → is_other m c ≡ true → c ≢ m.second
not_second m c h e = both_ways (is_other m c) (ap (λ b. not (c == m.first || b || c == m.third || c == m.fourth))
    (eq-eqb c m.second e) ∙ go (c == m.first)) h
  where
    go : (a : Bool) → not (a || true || c == m.third || c == m.fourth) ≡ false
    go true = refl
    go false = refl
