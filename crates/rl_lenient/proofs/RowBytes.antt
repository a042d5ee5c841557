-- Sequences of digits that are parsed from the bytes of a text.
use Rattle.rl_syntax.proofs.Common.{◌≡◌, ◌≢◌, ℕ, ◌<◌, ◌≤◌, ◌+◌, ◌⊎◌, inl, inr, Bool, true, false, ◌&&◌, ◌==◌, cond, List, [], ◌∷◌, ◌++◌, length, get_or, drop, Option, refl, sym, ap, ◌∙◌, arith, nat_lt, nat_tests, encodes-chars, digit_value, is_ascii_digit, IsUtf8, IsCharBoundary, list_all}
use Rattle.std.proofs.lemmas.List.{drop_more}
use Rattle.std.proofs.lemmas.Str.{chars_from_encodes, IsCharBoundary-after_ascii}
use Rattle.std.proofs.Math.ListN.{drop_of_length-le}
use Rattle.std.specs.Str.{chars, encode_utf8_all}
use Rattle.rl_syntax.proofs.Basics.{digit_is_ten}
use Rattle.rl_syntax.proofs.LowBytes.{cases128, encode_is_high, low_front}
use Rattle.rl_lenient.specs.Mirrors.NumberAt.{append_digit, run_from}
use Rattle.rl_lenient.proofs.DigitRowLemmas.{row_digit}

-- ---- one iteration of the loop

abbrev Read : Type 0
Read = Bool × Option ℕ × List ℕ

-- The result of parsing digits in a base from the character c on. `mark` tells whether c is an underscore, and `digit` tells
-- whether c is a digit.
abbrev At : ℕ → Bool → Option ℕ → ℕ → List ℕ → Bool → Bool → Read
At r some m c cs mark digit = cond mark (run_from r some m cs)
    (cond digit (run_from r true (append_digit r m (digit_value c)) cs) (some, m, c ∷ cs))

at_char : (r : ℕ) (some : Bool) (m : Option ℕ) (c : ℕ) (cs : List ℕ) (mark digit : Bool) → (c == 95) ≡ mark
    → nat_lt (digit_value c) r ≡ digit → run_from r some m (c ∷ cs) ≡ At r some m c cs mark digit
unfolding run_from
at_char r some m c cs mark digit e d =
    ap (λ b. At r some m c cs b (nat_lt (digit_value c) r)) e ∙ ap (λ b. At r some m c cs mark b) d

-- At an underscore, parsing digits gives the result for the text after the underscore.
pub row_mark : (r : ℕ) (some : Bool) (m : Option ℕ) (s : List ℕ) (i : ℕ) → i < length s → get_or s i 0 ≡ 95
    → run_from r some m (drop (i + 1) s) ≡ run_from r some m (drop i s)
row_mark r some m s i l e =
    let more : drop i s ≡ 95 ∷ drop (i + 1) s = drop_more s i 0 l ∙ ap (λ c. c ∷ drop (i + 1) s) e in
    sym (ap (run_from r some m) more ∙ at_char r some m 95 (drop (i + 1) s) true (nat_lt (digit_value 95) r) refl refl)

-- A non-ASCII character isn't a digit.
pub high_value : (c : ℕ) → 128 ≤ c → 36 ≤ digit_value c
high_value c high = grind (arith, nat_tests)

-- A digit of a base up to 36 is ASCII.
digit_low : (r c : ℕ) → r ≤ 36 → digit_value c < r → (c < 128) ⊎ (128 ≤ c) → c < 128
digit_low r c h d (inl low) = low
digit_low r c h d (inr high) = absurd (omega (arith, high_value c high))

pub digit_cuts : (r : ℕ) (s : List ℕ) (i d : ℕ) → IsUtf8 s → r ≤ 36 → i < length s → d ≡ digit_value (get_or s i 0)
    → d < r → IsCharBoundary s (i + 1)
digit_cuts r s i d is h l value below = IsCharBoundary-after_ascii s i is l
    (digit_low r (get_or s i 0) h (omega arith) (cases128 (get_or s i 0)))

pub mark_cuts : (s : List ℕ) (i : ℕ) → IsUtf8 s → i < length s → get_or s i 0 ≡ 95 → IsCharBoundary s (i + 1)
mark_cuts s i is l e = IsCharBoundary-after_ascii s i is l (omega (arith, e))

-- A decimal digit has a value below ten.
pub is_digit : (c : ℕ) → is_ascii_digit c ≡ true → digit_value c < 10
is_digit c h = let e = sym (digit_is_ten c) ∙ h in grind (arith, nat_tests)

pub no_digit : (c : ℕ) → is_ascii_digit c ≡ false → 10 ≤ digit_value c
no_digit c h = let e = sym (digit_is_ten c) ∙ h in grind (arith, nat_tests)

-- At a character that is neither a digit nor an underscore, a sequence of digits ends.
stops : (r : ℕ) (some : Bool) (m : Option ℕ) (c : ℕ) (cs : List ℕ) → c ≢ 95 → r ≤ digit_value c
    → run_from r some m (c ∷ cs) ≡ (some, m, c ∷ cs)
stops r some m c cs n h =
    let a : (c == 95) ≡ false = grind (arith, nat_tests) in
    let b : nat_lt (digit_value c) r ≡ false = grind (arith, nat_tests) in
    at_char r some m c cs false false a b

-- An underscore isn't a digit.
no_mark : (r c : ℕ) → r ≤ 36 → digit_value c < r → c ≢ 95
no_mark r c h d e = let at_mark = ap digit_value e in omega arith

-- At a byte that is a digit, the sequence of digits continues with the next byte.
pub row_goes : (r : ℕ) (some : Bool) (m n : Option ℕ) (s : List ℕ) (i d : ℕ) → r ≤ 36 → i < length s → d
    ≡ digit_value (get_or s i 0) → d < r → n ≡ append_digit r m d → run_from r true n (drop (i + 1) s)
    ≡ run_from r some m (drop i s)
row_goes r some m n s i d h l value below next =
    let small : digit_value (get_or s i 0) < r = omega arith in
    row_digit r some m n (drop i s) (get_or s i 0) (drop (i + 1) s) d (drop_more s i 0 l)
    (no_mark r (get_or s i 0) h small) small value next

-- At a byte that is neither a digit nor an underscore, a sequence of digits ends.
pub row_stops : (r : ℕ) (some : Bool) (m : Option ℕ) (s : List ℕ) (i d : ℕ) → i < length s → d
    ≡ digit_value (get_or s i 0) → r ≤ d → get_or s i 0 ≢ 95 → run_from r some m (drop i s) ≡ (some, m, drop i s)
row_stops r some m s i d l value large mark =
    let more = drop_more s i 0 l in
    ap (run_from r some m) more ∙ stops r some m (get_or s i 0) (drop (i + 1) s) mark (omega arith)
    ∙ ap (λ t. (some, m, t)) (sym more)

-- At the end of the text, a sequence of digits ends.
pub row_ends : (r : ℕ) (some : Bool) (m : Option ℕ) (s : List ℕ) (i : ℕ) → length s ≤ i → run_from r some m (drop i s)
    ≡ (some, m, drop i s)
unfolding run_from
row_ends r some m s i l =
    let none : drop i s ≡ [] = drop_of_length-le s {i = i} l in
    ap (run_from r some m) none ∙ ap (λ t. (some, m, t)) (sym none)

-- ---- bytes and characters

abbrev encoded : Read → Read
encoded p = (p.0, p.1, encode_utf8_all p.2)

-- Digits parsed from a text's bytes and from its characters give equal results at an ASCII character.
low_encodes : (r : ℕ) (some : Bool) (m : Option ℕ) (c : ℕ) (cs : List ℕ) (mark digit : Bool) → c < 128
    → ((some : Bool) (m : Option ℕ) → run_from r some m (encode_utf8_all cs) ≡ encoded (run_from r some m cs))
    → At r some m c (encode_utf8_all cs) mark digit ≡ encoded (At r some m c cs mark digit)
low_encodes r some m c cs true digit low more = more some m
low_encodes r some m c cs false true low more = more true (append_digit r m (digit_value c))
low_encodes r some m c cs false false low more = ap (λ t. (some, m, t)) (sym (low_front c cs low))

-- Digits parsed from a text's bytes and from its characters give equal results at a non-ASCII character.
high_encodes : (r : ℕ) (some : Bool) (m : Option ℕ) (c : ℕ) (cs : List ℕ) → r ≤ 36 → 128 ≤ c
    → run_from r some m (encode_utf8_all (c ∷ cs)) ≡ encoded (run_from r some m (c ∷ cs))
high_encodes r some m c cs h high =
    let (b, bs, is, above, _) = encode_is_high c high in
    let front : encode_utf8_all (c ∷ cs) ≡ b ∷ (bs ++ encode_utf8_all cs) = ap (λ x. x ++ encode_utf8_all cs) is in
    let no_byte : r ≤ digit_value b = omega (arith, high_value b above) in
    let no_char : r ≤ digit_value c = omega (arith, high_value c high) in
    ap (run_from r some m) front
    ∙ stops r some m b (bs ++ encode_utf8_all cs) (omega arith) no_byte
    ∙ ap (λ t. (some, m, t)) (sym front)
    ∙ sym (ap encoded (stops r some m c cs (omega arith) no_char))

row_encodes : (r : ℕ) (some : Bool) (m : Option ℕ) (cs : List ℕ) → r ≤ 36 → run_from r some m (encode_utf8_all cs)
    ≡ encoded (run_from r some m cs)
unfolding run_from
row_encodes r some m [] h = refl
row_encodes r some m (c ∷ cs) h = go (λ s n. row_encodes r s n cs h) (cases128 c)
  where
    go : ((some : Bool) (m : Option ℕ) → run_from r some m (encode_utf8_all cs) ≡ encoded (run_from r some m cs))
        → (c < 128) ⊎ (128 ≤ c) → run_from r some m (encode_utf8_all (c ∷ cs)) ≡ encoded (run_from r some m (c ∷ cs))
    go more (inl low) = ap (run_from r some m) (low_front c cs low)
        ∙ low_encodes r some m c cs (c == 95) (nat_lt (digit_value c) r) low more
    go more (inr high) = high_encodes r some m c cs h high

-- Digits parsed from a text's bytes and from its characters give equal results.
row_of_bytes : (r : ℕ) (some : Bool) (m n : Option ℕ) (t rest : List ℕ) → r ≤ 36 → IsUtf8 t → IsUtf8 rest
    → run_from r false n t ≡ (some, m, rest) → (some, m, chars rest) ≡ run_from r false n (chars t)
row_of_bytes r some m n t rest h is is_rest e =
    let p : Read = run_from r false n (chars t) in
    let same : (some, m, rest) ≡ encoded p = sym e ∙ ap (run_from r false n) (sym (encodes-chars t is))
    ∙ row_encodes r false n (chars t) h in
    let left : chars rest ≡ p.2 = sym (chars_from_encodes p.2 rest is_rest (sym (ap (λ q. q.2) same))) in
    ap (λ q. (q.0, q.1, chars rest)) same ∙ ap (λ x. (p.0, p.1, x)) left

-- At its end, the loop that parses digits has returned the digits and underscores at the start of the text.
pub row_read : (r : ℕ) (some : Bool) (m n : Option ℕ) (t s rest : List ℕ) (i : ℕ) → r ≤ 36 → IsUtf8 t → IsUtf8 rest → s
    ≡ t → rest ≡ drop i t → run_from r some m (drop i s) ≡ run_from r false n s → run_from r some m (drop i s)
    ≡ (some, m, drop i s) → (some, m, chars rest) ≡ run_from r false n (chars t)
row_read r some m n t s rest i h is is_rest same cut goes ends =
    let left : drop i s ≡ rest = ap (drop i) same ∙ sym cut in
    row_of_bytes r some m n t rest h is is_rest (ap (run_from r false n) (sym same) ∙ sym goes ∙ ends
    ∙ ap (λ x. (some, m, x)) left)

-- ---- tests of all characters

-- If a test fails for all non-ASCII characters, it gives equal results for the bytes and the characters of a text.
pub all_low : (test : ℕ → Bool) → ((c : ℕ) → 128 ≤ c → test c ≡ false) → (cs : List ℕ)
    → list_all test (encode_utf8_all cs) ≡ list_all test cs
all_low test past [] = refl
all_low test past (c ∷ cs) = go (cases128 c) (all_low test past cs)
  where
    go : (c < 128) ⊎ (128 ≤ c) → list_all test (encode_utf8_all cs) ≡ list_all test cs
        → list_all test (encode_utf8_all (c ∷ cs)) ≡ list_all test (c ∷ cs)
    go (inl low) more = ap (list_all test) (low_front c cs low) ∙ ap (λ b. test c && b) more
    go (inr high) more =
        let (b, bs, is, above, _) = encode_is_high c high in
        ap (list_all test) (ap (λ x. x ++ encode_utf8_all cs) is)
        ∙ ap (λ z. z && list_all test (bs ++ encode_utf8_all cs)) (past b above)
        ∙ sym (ap (λ z. z && list_all test cs) (past c high))

-- All bytes of a text are ASCII digits exactly if all its characters are.
pub digits_same : (t : List ℕ) → IsUtf8 t → list_all is_ascii_digit t ≡ list_all is_ascii_digit (chars t)
digits_same t is = ap (list_all is_ascii_digit) (sym (encodes-chars t is))
    ∙ all_low is_ascii_digit (λ c h. grind (arith, nat_tests)) (chars t)
