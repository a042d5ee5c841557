-- The next literal of a whole Rust source.
use Rattle.std.specs.Prelude.{◌≡◌, ◌+◌, [], length}
use Rattle.std.specs.Str.{chars}
use Rattle.rl_lexer.specs.Cursors.{CursorState}
use Rattle.rl_lexer.specs.Sources.{PassesTo, TakesLiteralAfter, SourceErrorAt}
use Rattle.rl_cursors.specs.declared.source_literals.SourceStep.{SourceStep}
use Rattle.rl_cursors.specs.declared.source_literals.SourceStep.TheVariants.{End, Literal, Rejected}
use Rattle.rl_cursors.specs.NextLiterals.{FindsReading}

-- The result of one step over a source, and the cursors before and after the step. The result is the next literal with its
-- parse result, after tokens that aren't literals; or the end of the source; or the error that comes first.
abbrev pub StepsSource : CursorState → SourceStep → CursorState → Type 0
StepsSource old End new = PassesTo old new × (new.rest ≡ [])
StepsSource old (Literal token found) new =
    TakesLiteralAfter old token new × FindsReading token.text.now found
StepsSource old (Rejected e) new =
    PassesTo old new × SourceErrorAt e.kind (chars new.rest)
    × (e.at + length new.rest ≡ length new.text)
