-- The exit status and the message of an error that ends a program.
use Rattle.std.specs.Prelude.{ℕ, List, codes}
use Rattle.rl_program.specs.Rejections.{rejection_line}
use Rattle.rl_program.specs.declared.program_error.ProgramError.{ProgramError}
use Rattle.rl_program.specs.declared.program_error.ProgramError.TheVariants.{Read, Write, NotText, Memory, Literal}

-- The line by which a program reports an error that ends it.
abbrev pub error_line : {A : Type 0} → ProgramError A → List ℕ
error_line Read = codes "error: read failed"
error_line Write = codes "error: write failed"
error_line NotText = codes "error: input is not UTF-8"
error_line Memory = codes "error: out of memory"
error_line (Literal e) = rejection_line e

-- The exit status of a program that ends with an error.
abbrev pub program_status : {A : Type 0} → ProgramError A → ℕ
program_status Read = 2
program_status Write = 2
program_status _ = 1
