-- The output lines of the literals in a list, written while the list is parsed.
use Rattle.std.specs.Prelude.{List, ℕ, String, string_bytes, Option, Some, None, IfSome}
use Rattle.std.specs.Str.{chars}
use Rattle.rust_literals.specs.declared.lit.Lit.{Lit}
use Rattle.rust_literals.specs.declared.literals.Literals.{Literals}
use Rattle.rust_literals.specs.Iterating.{HasReturned}
use Rattle.rl_program.specs.Lines.{Appends}
use Rattle.rl_program.specs.LitLines.{IsLineOfLit, AreLinesOfLits}

-- The output lines `longer` are the output lines `lines` with the output line of one more literal appended.
abbrev pub Lengthens : {A : Type 0} → Option (String A) → Lit A → String A → Type 0
Lengthens None literal longer = ⊥
Lengthens (Some lines) literal longer =
    Appends (IsLineOfLit literal) (chars (string_bytes lines)) (chars (string_bytes longer))

-- `lines` are the output lines of the literals that the parser of the text has returned. They exist if all allocations succeeded.
pub record HasLines {A : Type 0} (text : List ℕ) (literals : Literals A) (lines : Option (String A))
    : Type 0 where
  pub list : List (Lit A)
  pub returned : HasReturned text 0 list literals
  pub lines_are : IfSome lines (λ l. AreLinesOfLits list (chars (string_bytes l)))
