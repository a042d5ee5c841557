-- The parse result of a number of Rust's grammar.
use Rattle.std.specs.Prelude.{◌≡◌, ℕ, List, Option}
use Rattle.std.specs.Str.{chars}
use Rattle.rl_syntax.specs.Numbers.{capped}
use Rattle.rl_syntax.specs.declared.kind.Kind.TheVariants.{Int, Float as FloatKind}
use Rattle.rl_syntax.specs.Reading.{Contents, Digits}
use Rattle.rl_syntax.specs.Strict.{Strict, dec}
use Rattle.rl_strict.specs.declared.flaws.FlawKind.{FlawKind}
use Rattle.rl_strict.specs.Flaws.{HasKind, StopsBefore}
use Rattle.rl_strict.specs.StrictNumberFlaws.{IsStrictNumberFlaw}
use Rattle.rl_strict.specs.declared.read_numbers.Number.{Number}
use Rattle.rl_strict.specs.declared.read_numbers.Number.TheVariants.{Integer, Float}
use Rattle.rl_strict.specs.StrictShapes.{IsToken}

-- The text is an integer of any size with the suffix `suffix`. `magnitude` is `None` above 128 bits.
abbrev pub IsIntegerRead : List ℕ → Option ℕ → List ℕ → Type 0
IsIntegerRead text magnitude suffix = (n : ℕ) × Strict text Int (Digits (dec n)) suffix × (magnitude ≡ capped n)

-- The text is a float with this suffix.
abbrev pub IsFloatRead : List ℕ → List ℕ → Type 0
IsFloatRead text suffix = (v : Contents) × Strict text FloatKind v suffix

-- The suffix of a parsed number, which is the end of the number's text.
abbrev pub suffix_of : Number → List ℕ
suffix_of (Integer magnitude suffix) = suffix.now
suffix_of (Float suffix) = suffix.now

-- The text parses as the number: an integer or a float with its suffix.
abbrev pub IsNumberRead : List ℕ → Number → Type 0
IsNumberRead text (Integer magnitude suffix) = IsIntegerRead text magnitude (chars suffix.now)
IsNumberRead text (Float suffix) = IsFloatRead text (chars suffix.now)

-- `t` isn't a literal token. The flaw is at `rest`: the text before `rest` can be completed to a literal token, and no
-- longer prefix can. `k` is the kind of flaw in a number.
pub record IsStop (t : List ℕ) (k : FlawKind) (rest : List ℕ) : Type 0 where
  pub none : IsToken t → ⊥
  pub stops : StopsBefore IsToken t rest
  pub kind : HasKind (IsStrictNumberFlaw k) t rest
