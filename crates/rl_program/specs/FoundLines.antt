-- The value in the output line of a literal.
use Rattle.std.specs.Prelude.{◌≡◌, ℕ, List}
use Rattle.rl_syntax.specs.declared.kind.Kind.{Kind}
use Rattle.rl_syntax.specs.Reading.{Contents, HasContents}
use Rattle.rl_program.specs.Lines.{payload}

-- The text `shown` is the value in the output line of `text`, which is a literal of the kind `kind`.
abbrev pub IsShownOf : Kind → List ℕ → List ℕ → Type 0
IsShownOf kind text shown =
    (contents : Contents) × HasContents kind text contents × (shown ≡ payload kind contents)
