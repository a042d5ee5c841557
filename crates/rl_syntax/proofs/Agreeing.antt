-- Each literal of Rust's grammar has an equal parse result by `syn`'s grammar.
use Rattle.rl_syntax.proofs.Common.{◌≡◌, ℕ, List, ◌∷◌, true, false, Bool, refl, ◌∙◌, codes, if◌then◌else◌}
use Rattle.rl_syntax.specs.declared.kind.Kind.{Kind}
use Rattle.rl_syntax.specs.declared.kind.Kind.TheVariants.{Str, ByteStr, CStr, Byte, Char, Int, Float, Bool as BoolKind}
use Rattle.rl_syntax.specs.Agreeing.{IsWithinLimit}
use Rattle.rl_syntax.specs.Quoted.{is_number}
use Rattle.rl_syntax.specs.Reading.{Contents, Digits, Reads, ReadsBool, truth_text}
use Rattle.rl_syntax.specs.Strict.{Strict, StrictBool}
use Rattle.rl_syntax.proofs.StrictQuoted.{quoted_strict_reads}
use Rattle.rl_syntax.proofs.StrictNumbers.{int_strict_reads, int_strict_minus, float_strict_reads, float_strict_minus}

bool_reads : (t x : List ℕ) (v : Contents) → StrictBool t v x → ReadsBool t v x
bool_reads t x v s = record { truth = s.truth; text_is = s.text ∙ same s.truth; suffix_is = s.suffix; contents_is = s.contents }
  where
    same : (b : Bool) → (if b then codes "true" else codes "false") ≡ truth_text b
    same true = refl
    same false = refl

pub strict_reads : (t : List ℕ) (k : Kind) (v : Contents) (x : List ℕ) → Strict t k v x → IsWithinLimit k t
    → Reads t k v x
strict_reads t Str v x s w = quoted_strict_reads Str t x v s
strict_reads t ByteStr v x s w = quoted_strict_reads ByteStr t x v s
strict_reads t CStr v x s w = quoted_strict_reads CStr t x v s
strict_reads t Byte v x s w = quoted_strict_reads Byte t x v s
strict_reads t Char v x s w = quoted_strict_reads Char t x v s
strict_reads t Int v x s w = int_strict_reads t x v s w
strict_reads t Float v x s w = float_strict_reads t x v s
strict_reads t BoolKind v x s w = bool_reads t x v s

pub strict_minus : (t : List ℕ) (k : Kind) (ds x : List ℕ) → is_number k ≡ true → Strict t k (Digits ds) x
    → IsWithinLimit k t → Reads (45 ∷ t) k (Digits (45 ∷ ds)) x
strict_minus t Int ds x n s w = int_strict_minus t ds x s w
strict_minus t Float ds x n s w = float_strict_minus t ds x s
strict_minus t kind ds x n s w = absurd (cc)
