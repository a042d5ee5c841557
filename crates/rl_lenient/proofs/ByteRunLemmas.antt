-- The leading bytes of a text that pass a test encode the text's leading characters that pass the test.
use Rattle.rl_syntax.proofs.Common.{◌≡◌, ◌+◌, ◌<◌, ◌≤◌, ◌⊎◌, inl, inr, ℕ, suc, ◌&&◌, Bool, true, false, cond, eqb, List, [], ◌∷◌, ◌++◌, length, nat_lt, refl, sym, ap, ◌∙◌, arith, and_parts, ltb-true, ne_eqb, nat_tests, encodes-chars, list_all, prefix_len, IsUtf8}
use Rattle.rl_lenient.proofs.Names.{Kind, Str, ByteStr, CStr, Marks, is_plain, is_string, is_ascii_other, is_other}
use Rattle.std.specs.Char.{is_ascii}
use Rattle.std.specs.Str.{chars, encode_utf8_all}
use Rattle.rl_syntax.proofs.LowBytes.{cases128, encode_is_high, low_front}
use Rattle.rl_syntax.proofs.AsciiRuns.{PassesLow, RunCut, low_cut}
use Rattle.rl_syntax.proofs.ScanLemmas.{PassesHigh, run_tail, run_boundary, run_cut, run_plain, run_stop}
use Rattle.rl_lenient.proofs.PlainLemmas.{plain_high, same_prefix}
use Rattle.std.proofs.Math.Bool.{and-true}

-- ---- sequences of bytes that pass a test, as characters

-- If all non-ASCII bytes pass a test, the leading bytes that pass the test encode the leading characters that pass it.
high_cut : (q : ℕ → Bool) → PassesHigh q → (bs : List ℕ) → IsUtf8 bs → RunCut q bs
high_cut q high bs u = record { boundary = run_boundary q high bs; cut = run_cut q high bs u; plain = run_plain q high bs u; stops = run_stop q high bs u; behind = run_tail q high bs u }

-- Only ASCII characters pass the test `is_ascii_other` (an ASCII character that isn't one of the delimiters).
other_low : (m : Marks) → PassesLow (is_ascii_other m)
other_low m c h = ltb-true c 128 (and_parts (nat_lt c 128) (is_other m c) h).0

pub other_cut : (m : Marks) (bs : List ℕ) → IsUtf8 bs → RunCut (is_ascii_other m) bs
other_cut m bs u = low_cut (is_ascii_other m) (other_low m) bs u

-- A character that a byte string may contain unescaped is ASCII.
plain_low : PassesLow (is_plain ByteStr)
plain_low c h = ltb-true c 128 (and_parts (nat_lt c 128) (is_plain Str c) h).0

-- The leading bytes of a text that a string may contain unescaped encode the leading characters that the string may contain
-- unescaped.
pub plain_cut : (kind : Kind) (bs : List ℕ) → is_string kind ≡ true → IsUtf8 bs → RunCut (is_plain kind) bs
plain_cut Str bs h u = high_cut (is_plain Str) (plain_high Str refl (λ e. absurd (cc))) bs u
plain_cut ByteStr bs h u = low_cut (is_plain ByteStr) plain_low bs u
plain_cut CStr bs h u = high_cut (is_plain CStr) (plain_high CStr refl (λ e. absurd (cc))) bs u
plain_cut kind bs h u = absurd (cc)

-- ---- texts of only ASCII

-- Two numbers are equal exactly if they are equal after 1 is added to each of them.
next_same : (a b : ℕ) → eqb a b ≡ eqb (1 + a) (suc b)
next_same a b = grind (arith, nat_tests)

none_same : (b : ℕ) → false ≡ eqb 0 (suc b)
none_same b = sym (ne_eqb 0 (suc b) (λ e. omega arith))

-- All bytes of a text pass a test exactly if the leading sequence of bytes that pass the test is as long as the text.
run_is_all : (q : ℕ → Bool) (bs : List ℕ) → list_all q bs ≡ eqb (prefix_len q bs) (length bs)
run_is_all q [] = refl
run_is_all q (b ∷ bs) = go (q b) (run_is_all q bs)
  where
    go : (t : Bool) → list_all q bs ≡ eqb (prefix_len q bs) (length bs) → (t && list_all q bs)
        ≡ eqb (cond t (1 + prefix_len q bs) 0) (suc (length bs))
    go true ih = ih ∙ next_same (prefix_len q bs) (length bs)
    go false ih = none_same (length bs)

-- A character from 128 up isn't ASCII.
high_fails : (c : ℕ) → 128 ≤ c → is_ascii c ≡ false
high_fails c h = grind (arith, nat_tests)

-- All bytes of a text are ASCII exactly if all its characters are.
all_bytes : (cs : List ℕ) → list_all is_ascii (encode_utf8_all cs) ≡ list_all is_ascii cs
all_bytes [] = refl
all_bytes (c ∷ cs) = go (all_bytes cs) (cases128 c)
  where
    go : list_all is_ascii (encode_utf8_all cs) ≡ list_all is_ascii cs → (c < 128) ⊎ (128 ≤ c)
        → list_all is_ascii (encode_utf8_all (c ∷ cs)) ≡ list_all is_ascii (c ∷ cs)
    go more (inl small) = ap (list_all is_ascii) (low_front c cs small) ∙ ap (λ b. is_ascii c && b) more
    go more (inr past) =
        let (b, bs, same, is, _) = encode_is_high c past in
        ap (λ z. list_all is_ascii (z ++ encode_utf8_all cs)) same
        ∙ ap (λ z. z && list_all is_ascii (bs ++ encode_utf8_all cs)) (high_fails b is)
        ∙ sym (ap (λ z. z && list_all is_ascii cs) (high_fails c past))

-- If all four delimiters are the byte 255, the test `is_ascii_other` passes exactly the ASCII characters.
no_mark : (m : Marks) → m ≡ record { first = 255; second = 255; third = 255; fourth = 255 } → (c : ℕ)
    → is_ascii_other m c ≡ is_ascii c
no_mark m e c = ap (λ n. is_ascii_other n c) e ∙ go (cases128 c)
  where
    go : (c < 128) ⊎ (128 ≤ c) → is_ascii_other (record { first = 255; second = 255; third = 255; fourth = 255 }) c
        ≡ is_ascii c
    go (inl small) = rw (ne_eqb c 255 (λ e. omega arith)) (and-true (nat_lt c 128))
    go (inr past) = rw (high_fails c past) refl

pub ascii_all : (m : Marks) (n : ℕ) (bs : List ℕ) → m ≡ record { first = 255; second = 255; third = 255; fourth = 255 }
    → IsUtf8 bs → n ≡ prefix_len (is_ascii_other m) bs → eqb n (length bs) ≡ list_all is_ascii (chars bs)
ascii_all m n bs e u len =
    ap (λ k. eqb k (length bs)) (len ∙ same_prefix (is_ascii_other m) is_ascii bs (no_mark m e))
    ∙ sym (run_is_all is_ascii bs)
    ∙ ap (list_all is_ascii) (sym (encodes-chars bs u))
    ∙ all_bytes (chars bs)
