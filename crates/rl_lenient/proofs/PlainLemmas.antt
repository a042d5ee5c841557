-- Sequences of characters that a string may contain unescaped.
use Rattle.rl_syntax.proofs.Common.{◌≡◌, ℕ, ◌+◌, ◌&&◌, ◌||◌, ◌==◌, Bool, true, false, not, cond, List, [], ◌∷◌, ◌++◌, refl, sym, ap, ap₂, ◌∙◌, arith, append_assoc, append_cancel_right, list_all, prefix_len}
use Rattle.rl_lenient.proofs.Names.{Kind, Str, ByteStr, CStr, first_passes, is_string, is_plain, Marks, is_other}
use Rattle.rl_syntax.specs.Scanning.{IsNextMark, is_one_of}
use Rattle.rl_lenient.specs.Mirrors.Classes.{is_in_run}
use Rattle.rl_lenient.specs.Mirrors.PlainAt.{is_kept, is_plain_float}
use Rattle.rl_syntax.proofs.LowBytes.{not_equal}
use Rattle.rl_syntax.proofs.ScanLemmas.{PassesHigh}
use Rattle.rl_lenient.proofs.TestLemmas.{all_breaks}

-- Strings other than byte strings may contain each non-ASCII character unescaped.
pub plain_high : (kind : Kind) → is_string kind ≡ true → (kind ≡ ByteStr → ⊥) → PassesHigh (is_plain kind)
plain_high Str h n b high = rw (
  not_equal b 34 (omega arith) high,
  not_equal b 92 (omega arith) high,
  not_equal b 13
      (omega arith) high,
) refl
plain_high ByteStr h n b high = absurd (n refl)
plain_high CStr h n b high = rw (
  not_equal b 34 (omega arith) high,
  not_equal b 92 (omega arith) high,
  not_equal b 13
      (omega arith) high,
  not_equal b 0 (omega arith) high,
) refl
plain_high kind h n b high = absurd (cc)

-- ---- two tests that agree

pub same_prefix : (p q : ℕ → Bool) (xs : List ℕ) → ((c : ℕ) → p c ≡ q c) → prefix_len p xs ≡ prefix_len q xs
same_prefix p q [] same = refl
same_prefix p q (x ∷ xs) same = ap₂ (λ b n. cond b (1 + n) 0) (same x) (same_prefix p q xs same)

-- In strings other than byte strings, a sequence of plain characters continues with every character that isn't a
-- delimiter.
pub in_run_other : (kind : Kind) (m : Marks) (c : ℕ) → (kind ≡ ByteStr → ⊥) → is_other m c ≡ is_in_run kind m c
in_run_other ByteStr m c n = absurd (n refl)
in_run_other kind m c n = refl

-- A string that is neither a byte string nor a C string has the kind `Str`.
pub other_string : (kind : Kind) → is_string kind ≡ true → (kind ≡ ByteStr → ⊥) → (kind ≡ CStr → ⊥) → kind ≡ Str
other_string Str h n m = refl
other_string ByteStr h n m = absurd (n refl)
other_string CStr h n m = absurd (m refl)
other_string kind h n m = absurd (cc)

-- ---- a body that is one sequence of plain characters

-- ---- a float's text that is kept

abbrev changed : Marks
changed = record { first = 95; second = 43; third = 69; fourth = 69 }

twice : (a z : Bool) → not (a || z || z) ≡ not (a || z)
twice true true = refl
twice true false = refl
twice false true = refl
twice false false = refl

all_same : (xs : List ℕ) → list_all (is_other changed) xs ≡ list_all is_kept xs
all_same [] = refl
all_same (x ∷ xs) = ap₂ (λ a b. a && b) (twice (x == 95 || x == 43) (x == 69)) (all_same xs)

pub changed_none : (t : List ℕ) → list_all (is_other changed) t ≡ true → true ≡ is_plain_float t
changed_none t h = sym (sym (all_same t) ∙ h)

marked_stops : (b : Bool) → b ≡ true → not b ≡ false
marked_stops b h = ap not h

pub changed_some : (t : List ℕ) (mark : ℕ) (rest : List ℕ) → IsNextMark changed t mark rest → false ≡ is_plain_float t
changed_some t mark rest n =
    sym (sym (all_same t) ∙ ap (list_all (is_other changed)) n.text_is
    ∙ all_breaks (is_other changed) n.front mark rest (marked_stops (is_one_of changed mark) n.is_mark))

-- `run` consists of characters that pass a test. If the body and `run` are equal when `rest` follows each of them, all
-- characters of the body pass the test.
pub one_run : (q : ℕ → Bool) (body run rest : List ℕ) → body ++ rest ≡ run ++ rest → list_all q run ≡ true → true
    ≡ list_all q body
one_run q body run rest cut plain = sym (ap (list_all q) (append_cancel_right body run rest cut) ∙ plain)

-- If the leading characters that pass a test end inside of a body, not all characters of the body pass the test.
pub no_run : (q : ℕ → Bool) (body run following rest more : List ℕ) → body ++ rest ≡ run ++ following → following ≡ more
    ++ rest → first_passes q following ≡ false → (following ≡ rest → ⊥) → false ≡ list_all q body
no_run q body run following rest [] cut after_is stops goes_on = absurd (goes_on after_is)
no_run q body run following rest (c ∷ more) cut after_is stops goes_on =
    let whole : body ≡ run ++ (c ∷ more) = append_cancel_right body (run ++ (c ∷ more)) rest
    (cut ∙ ap (λ z. run ++ z) after_is ∙ sym (append_assoc run (c ∷ more) rest)) in
    sym (ap (list_all q) whole ∙ all_breaks q run c more (ap (first_passes q) (sym after_is) ∙ stops))
