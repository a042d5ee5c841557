-- Lemmas about the output lines of a list, literal by literal.
use Rattle.rl_syntax.proofs.Common.{List, None, Option, Result, Some, [], ap, chars, chars-nil, string_bytes, subst, sym, ℕ, ◌++◌, ◌∙◌, ◌∷◌, ◌≡◌}
use Rattle.std.proofs.Common.{IfErr, IfOk}
use Rattle.std.specs.Prelude.{String, IfSome}
use Rattle.std.specs.Option.{ok_or}
use Rattle.rust_literals.specs.declared.lit.Lit.{Lit}
use Rattle.rust_literals.specs.Parsing.{AreRead}
use Rattle.rust_literals.specs.declared.literals.Literals.{Literals}
use Rattle.rust_literals.specs.Iterating.{HasReturned}
use Rattle.rl_program.proofs.JoinLemmas.{joins_more}
use Rattle.rl_program.specs.LitLines.{IsLineOfLit, AreLinesOfLits}
use Rattle.rl_program.proofs.TokenLines.{lines_of_text}
use Rattle.rl_program.specs.declared.command.Command.TheVariants.{Read}
use Rattle.rl_program.specs.declared.program_error.ProgramError.{ProgramError}
use Rattle.rl_program.specs.declared.program_error.ProgramError.TheVariants.{Memory}
use Rattle.rl_program.specs.Runs.{Shows, IsRejectionOf}
use Rattle.rl_program.specs.Lists.{Lengthens, HasLines}

-- If the line of one more literal is appended to the output lines of some literals, the result is the lines of all of them.
lengthened : {A : Type 0} (lines longer : Option (String A)) (list : List (Lit A)) (lit : Lit A)
    → IfSome lines (λ l. AreLinesOfLits list (chars (string_bytes l))) → IfSome longer (Lengthens lines lit)
    → IfSome longer (λ l. AreLinesOfLits (list ++ lit ∷ []) (chars (string_bytes l)))
lengthened lines None list lit h k = tt
lengthened None (Some longer) list lit h k = absurd k
lengthened (Some lines) (Some longer) list lit h k = joins_more IsLineOfLit list lit (chars (string_bytes lines))
    (chars (string_bytes longer)) h k

-- Before the first literal of a list, the output has no line.
pub first_none : {A : Type 0} (text : List ℕ) (literals : Literals A) (lines : String A) → string_bytes lines ≡ []
    → HasReturned text 0 [] literals → HasLines text literals (Some lines)
first_none text literals lines empty returned = record { list = []; returned = returned; lines_are = ap chars empty ∙ chars-nil }

-- The invariant of the loop over the literals of a list holds again after one more literal.
pub first_more : {A : Type 0} (text : List ℕ) (old new : Literals A) (lines longer : Option (String A)) (lit : Lit A)
    (has : HasLines text old lines) → HasReturned text 0 (has.list ++ lit ∷ []) new
    → IfSome longer (Lengthens lines lit) → HasLines text new longer
first_more text old new lines longer lit has returned pushed = record
    { list = has.list ++ lit ∷ []; returned = returned; lines_are = lengthened lines longer has.list lit has.lines_are pushed }

-- The result of the command `read` for a list of literals: its output lines, or an error.
pub record Answers {A : Type 0} (text : List ℕ) (r : Result (String A) (ProgramError A)) : Type 0 where
  pub lines : IfOk r (λ lines. Shows Read (chars text) (chars (string_bytes lines)))
  pub rejection : IfErr r (IsRejectionOf Read text)

pub answers : {A : Type 0} (text : List ℕ) (list : List (Lit A)) (lines : Option (String A))
    (r : Result (String A) (ProgramError A)) → AreRead (chars text) 0 list
    → IfSome lines (λ l. AreLinesOfLits list (chars (string_bytes l))) → r ≡ ok_or lines Memory → Answers text r
answers text list None r read lines is = subst (Answers text) (sym is) (record { lines = tt; rejection = (list, read) })
answers text list (Some l) r read lines is = subst (Answers text) (sym is)
    (record { lines = lines_of_text (chars text) list (chars (string_bytes l)) read lines; rejection = tt })
