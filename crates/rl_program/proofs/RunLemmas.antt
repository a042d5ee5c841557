-- Lemmas about the effect of a command after its output lines are formatted.
use Rattle.rl_syntax.proofs.Common.{IsUtf8, List, None, Option, Some, chars, encodes-chars, subst, sym, ℕ, ◌≡◌}
use Rattle.std.specs.Prelude.{IfSome}
use Rattle.std.specs.Io.KnownBytes.{Appends}
use Rattle.std.proofs.KnownBytes.{Keeps-refl}
use Rattle.rl_program.specs.declared.command.Command.{Command}
use Rattle.rl_program.specs.declared.program_error.ProgramError.{ProgramError}
use Rattle.rl_program.specs.declared.program_error.ProgramError.TheVariants.{Write, NotText, Memory, Literal}
use Rattle.rl_program.specs.Streams.{AppendsBeginning}
use Rattle.rl_program.specs.Runs.{Shows, Prints, PrintsBeginning, IsRejectionOf, IsErrorOf}

-- If the bytes of the reader are known, and the bytes that were read have a property, the known bytes have the
-- property.
known : (P : List ℕ → Type 0) (input : Option (List ℕ)) (bytes : List ℕ) → IfSome input (λ all. bytes ≡ all) → P bytes
    → IfSome input P
known P None bytes e p = tt
known P (Some all) bytes e p = subst P e p

-- If the input is rejected, nothing is written.
pub rejection_error : {A : Type 0} (command : Command) (input old : Option (List ℕ)) (bytes : List ℕ) (error : ProgramError A)
    → IfSome input (λ all. bytes ≡ all) → IsRejectionOf command bytes error → IsErrorOf command input old old error
rejection_error command input old bytes NotText e r = (Keeps-refl old, known (λ b. IsUtf8 b → ⊥) input bytes e r)
rejection_error command input old bytes Memory e r = Keeps-refl old
rejection_error command input old bytes (Literal error) e r = (
  Keeps-refl old,
  known
      (λ b. IsRejectionOf command b (Literal error)) input bytes e r,
)
rejection_error command input old bytes kind e r = absurd r

-- If the bytes of the reader are known and the output lines were written, the command has printed the output lines for
-- these bytes.
pub prints_known : (command : Command) (input old new : Option (List ℕ)) (bytes line : List ℕ)
    → IfSome input (λ all. bytes ≡ all) → IsUtf8 bytes → Shows command (chars bytes) (chars line) → IsUtf8 line
    → Appends old new line → IfSome input (λ b. Prints command b old new)
prints_known command input old new bytes line e u l w a =
    known (λ b. Prints command b old new) input bytes e (
      u,
      (
        chars line,
        l,
        subst (λ z. Appends old new z)
            (sym (encodes-chars line w)) a,
      ),
    )

write_error : {A : Type 0} (command : Command) (input old new : Option (List ℕ)) (bytes line : List ℕ) (error : ProgramError A)
    → IfSome input (λ all. bytes ≡ all) → IsUtf8 bytes → Shows command (chars bytes) (chars line) → IsUtf8 line → error
    ≡ Write → AppendsBeginning old new line → IsErrorOf command input old new error
write_error {A = A} command input old new bytes line error e u l w f a =
    let write : IsErrorOf {A = A} command input old new Write = known (λ b. PrintsBeginning command b old new) input
    bytes e (u, (chars line, l, subst (λ z. AppendsBeginning old new z) (sym (encodes-chars line w)) a)) in
    subst (IsErrorOf command input old new) (sym f) write

-- If a write fails after a beginning of the output lines was written, the result of the command is the error of that
-- write.
pub begins_known : {A : Type 0} (command : Command) (input old new : Option (List ℕ)) (bytes line : List ℕ)
    → IfSome input (λ all. bytes ≡ all) → IsUtf8 bytes → Shows command (chars bytes) (chars line) → IsUtf8 line
    → (error : ProgramError A) → (error ≡ Write) × AppendsBeginning old new line → IsErrorOf command input old new error
begins_known command input old new bytes line e u l w error h = write_error command input old new bytes line error e u l
    w h.0 h.1
