-- Leading ASCII characters of a text that are of one class.
use Rattle.rl_syntax.proofs.Common.{◌≡◌, ◌+◌, ◌<◌, ◌≤◌, ◌⊎◌, inl, inr, ℕ, zero, suc, Bool, true, false, cond, List, [], ◌∷◌, ◌++◌, take, drop, get_or, refl, sym, ap, subst, ◌∙◌, arith, agree_below_at, and_parts, cases_Bool, nat_tests, take-append-drop, prefix_len-le-length, IsCharBoundary-start, IsCharBoundary-after_ascii, IsUtf8-drop, IsUtf8-take, chars-append, chars-IsAscii, encodes-chars, list_all, prefix_len, chars, encode_utf8_all, IsAscii, IsCharBoundary, IsUtf8}
use Rattle.std.proofs.lemmas.List.Sums.{prefix_len_passes}
use Rattle.rl_syntax.specs.Texts.{first_passes, is_white, IsTail}
use Rattle.rl_syntax.specs.Classes.{after_run, class_test}
use Rattle.rl_syntax.specs.Mirrors.RunsAt.{is_ascii_id_continue, is_blank_byte, is_run_byte, run_class}
use Rattle.rl_syntax.proofs.AsciiLemmas.{ascii_xid_continue, continue_is_plain}
use Rattle.rl_syntax.proofs.LowBytes.{cases128, low_front}
use Rattle.rl_syntax.proofs.ScanLemmas.{prefix_ends, prefix_passes}

-- ---- a sequence of bytes that pass a test, as characters

pub record RunCut (q : ℕ → Bool) (bs : List ℕ) : Type 0 where
  pub boundary : IsCharBoundary bs (prefix_len q bs)
  pub cut : chars bs ≡ chars (take (prefix_len q bs) bs) ++ chars (drop (prefix_len q bs) bs)
  pub plain : list_all q (chars (take (prefix_len q bs) bs)) ≡ true
  pub stops : first_passes q (chars (drop (prefix_len q bs) bs)) ≡ false
  pub behind : IsTail bs (drop (prefix_len q bs) bs)

-- Whether only ASCII characters pass a test.
abbrev pub PassesLow : (ℕ → Bool) → Type 0
PassesLow q = (c : ℕ) → q c ≡ true → c < 128

module _ (q : ℕ → Bool) (low : PassesLow q) where
  -- If only ASCII characters pass a test, the sequence of leading bytes that pass the test ends at a character boundary.
  low_boundary : (bs : List ℕ) (n : ℕ) → IsUtf8 bs → n ≡ prefix_len q bs → IsCharBoundary bs n
  low_boundary bs zero u e = IsCharBoundary-start bs u
  low_boundary bs (suc m) u e =
      let within : m < prefix_len q bs = omega arith in
      let long = prefix_len-le-length q bs in
      let next : m + 1 ≡ suc m = omega arith in
      subst (IsCharBoundary bs) next (IsCharBoundary-after_ascii bs m u (omega arith)
      (low (get_or bs m 0) (prefix_len_passes q bs m 0 within)))

  -- If only ASCII characters pass a test, a list of bytes that pass the test is ASCII.
  low_all : (bs : List ℕ) → list_all q bs ≡ true → IsAscii bs
  low_all [] h i = omega arith
  low_all (b ∷ bs) h zero = low b (and_parts (q b) (list_all q bs) h).0
  low_all (b ∷ bs) h (suc i) = low_all bs (and_parts (q b) (list_all q bs) h).1 i

  -- Only ASCII characters pass a test. If the first byte of a text fails the test, the first character of the text fails it
  -- too.
  low_head : (cs : List ℕ) → first_passes q (encode_utf8_all cs) ≡ false → first_passes q cs ≡ false
  low_head [] h = refl
  low_head (c ∷ cs) h = go (cases128 c)
    where
      go : (c < 128) ⊎ (128 ≤ c) → q c ≡ false
      go (inl small) = ap (first_passes q) (sym (low_front c cs small)) ∙ h
      go (inr past) = elim (cases_Bool (q c)) [
        | inl is ↦ absurd (let small = low c is in omega arith)
        | inr fails ↦
            fails
      ]

  pub low_cut : (bs : List ℕ) → IsUtf8 bs → RunCut q bs
  low_cut bs u =
      let n = prefix_len q bs in
      let at = low_boundary bs n u refl in
      let front = take n bs in
      let rest = drop n bs in
      record {
        boundary = at;
        cut = ap chars (sym (take-append-drop n bs)) ∙ chars-append front rest (IsUtf8-take bs n u at);
        plain = ap (list_all q) (chars-IsAscii front (low_all front (prefix_passes q bs))) ∙ prefix_passes q bs;
        stops = low_head (chars rest) (ap (first_passes q) (encodes-chars rest (IsUtf8-drop bs n u at))
            ∙ prefix_ends q bs);
        behind = record { front = front; text_is = sym (take-append-drop n bs); is_text = IsUtf8-drop bs n u at };
      }

-- ---- sequences of identifier characters and of white space

word_low : (c : ℕ) → is_ascii_id_continue c ≡ true → c < 128
word_low c h = grind (arith, nat_tests)

blank_low : (c : ℕ) → is_blank_byte c ≡ true → c < 128
blank_low c h = grind (arith, nat_tests)

held_low : (word : Bool) → PassesLow (is_run_byte word)
held_low true = word_low
held_low false = blank_low

-- For an ASCII character, `is_run_byte` agrees with the test of the class that `word` selects: identifier characters for
-- `true`, white space for `false`.
pub held_agrees : (word : Bool) (c : ℕ) → c < 128 → class_test (run_class word) c ≡ is_run_byte word c
held_agrees true c low = continue_is_plain c low ∙ ascii_xid_continue c low
held_agrees false c low = agree_below_at is_white is_blank_byte 128 c refl low

pub held_cut : (word : Bool) (bs : List ℕ) → IsUtf8 bs → RunCut (is_run_byte word) bs
held_cut word bs u = low_cut (is_run_byte word) (held_low word) bs u

-- If `front` consists of ASCII identifier characters, or of ASCII white space, `after_run` skips `front`.
passed_over : (word : Bool) (front back : List ℕ) → list_all (is_run_byte word) front ≡ true
    → after_run (class_test (run_class word)) (front ++ back) ≡ after_run (class_test (run_class word)) back
passed_over word [] back h = refl
passed_over word (c ∷ front) back h =
    let parts = and_parts (is_run_byte word c) (list_all (is_run_byte word) front) h in
    ap (λ b. cond b (after_run (class_test (run_class word)) (front ++ back)) (c ∷ (front ++ back)))
    (held_agrees word c (held_low word c parts.0) ∙ parts.0)
    ∙ passed_over word front back parts.1

pub run_past : (word : Bool) (bs rest : List ℕ) → IsUtf8 bs → rest ≡ drop (prefix_len (is_run_byte word) bs) bs
    → after_run (class_test (run_class word)) (chars bs) ≡ after_run (class_test (run_class word)) (chars rest)
run_past word bs rest u e =
    let run = held_cut word bs u in
    let test = class_test (run_class word) in
    ap (after_run test) run.cut ∙ passed_over word (chars (take (prefix_len (is_run_byte word) bs) bs))
    (chars (drop (prefix_len (is_run_byte word) bs) bs)) run.plain
    ∙ ap (λ r. after_run test (chars r)) (sym e)

-- If an ASCII character follows the leading ASCII identifier characters of a text, no further identifier character follows
-- them. The lemma holds for white space too.
pub run_ended : (word : Bool) (bs rest after : List ℕ) (b : ℕ) → IsUtf8 bs → rest
    ≡ drop (prefix_len (is_run_byte word) bs) bs → chars rest ≡ b ∷ chars after → b < 128 → chars rest
    ≡ after_run (class_test (run_class word)) (chars bs)
run_ended word bs rest after b u e first low =
    let run = held_cut word bs u in
    let test = class_test (run_class word) in
    let fails : is_run_byte word b ≡ false = ap (first_passes (is_run_byte word)) (sym first ∙ ap chars e) ∙ run.stops in
    let stays : after_run test (b ∷ chars after) ≡ b ∷ chars after = ap
    (λ t. cond t (after_run test (chars after)) (b ∷ chars after)) (held_agrees word b low ∙ fails) in
    sym (run_past word bs rest u e ∙ ap (after_run test) first ∙ stays ∙ sym first)
