-- The end of a program: its exit status, and its line on standard error.
use Rattle.std.specs.Prelude.{ℕ, List, [], Option, Some}
use Rattle.rl_program.specs.declared.exit.Ending.{Ending}
use Rattle.rl_program.specs.declared.exit.Ending.TheVariants.{Done, FoundBad, Reported, Closed, Usage, Failed}

-- The exit status of a program for the result of its run.
abbrev pub status_of : {E : Type 0} → (E → ℕ) → Ending E → ℕ
status_of error_status Done = 0
status_of error_status FoundBad = 1
status_of error_status Reported = 2
status_of error_status Closed = 0
status_of error_status (Usage line) = 2
status_of error_status (Failed error) = error_status error

-- The line on standard error: the usage, or the error that ended the program. It is empty for other results of a run.
abbrev pub ending_line : {E : Type 0} → (E → Option (List ℕ)) → Ending E → Option (List ℕ)
ending_line error_line Done = Some []
ending_line error_line FoundBad = Some []
ending_line error_line Reported = Some []
ending_line error_line Closed = Some []
ending_line error_line (Usage line) = Some line.now
ending_line error_line (Failed error) = error_line error
