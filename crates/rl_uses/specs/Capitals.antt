-- The integers of a source that are written with capital letters.
use Rattle.std.specs.Prelude.{ℕ, List, IsTrue, ⊤}
use Rattle.std.specs.Char.{is_ascii_uppercase}
use Rattle.std.specs.List.{list_any}
use Rattle.std.specs.Str.{chars}
use Rattle.rl_syntax.specs.declared.kind.Kind.TheVariants.{Int}
use Rattle.rl_syntax.specs.Reading.{ReadsAs}
use Rattle.rl_lexer.specs.Sources.{SourceError}
use Rattle.rl_uses.specs.declared.capitals.Place.{Place}
use Rattle.rl_uses.specs.declared.capitals.LintError.{LintError}
use Rattle.rl_uses.specs.declared.capitals.LintError.TheVariants.{Source, Memory}

-- The text is an integer with an ASCII capital letter.
abbrev pub IsCapital : List ℕ → Type 0
IsCapital text = ReadsAs Int text × IsTrue (list_any is_ascii_uppercase text)

abbrev pub place_of : ℕ → ℕ → Place
place_of lo hi = record { lo = lo; hi = hi }

-- The error is the first error of the source, or an allocation failure.
abbrev pub Fails : List ℕ → LintError → Type 0
Fails source (Source e) = SourceError (chars source) e.kind e.at
Fails source Memory = ⊤
