-- The line by which programs report an error of the library.
use Rattle.std.specs.Prelude.{ℕ, List, ◌++◌, codes}
use Rattle.std.specs.Fmt.{decimal}
use Rattle.rl_tokens.specs.declared.error.Error.{Error}
use Rattle.rl_tokens.specs.Errors.{message_of}

-- The line for an error of the library: its position in bytes, and its message.
abbrev pub rejection_line : {A : Type 0} → Error A → List ℕ
rejection_line e =
    codes "error at "
    ++ (decimal e.span.lo
    ++ (codes ".." ++ (decimal e.span.hi ++ (codes ": " ++ message_of e.kind))))
