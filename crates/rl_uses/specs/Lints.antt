-- The results of the linter for string literals whose decoded value contains a control character.
use Rattle.std.specs.Prelude.{◌≡◌, ◌⊎◌, ℕ, Bool, true, false, List, [], ◌∷◌}
use Rattle.std.specs.Char.{is_control}
use Rattle.std.specs.List.{list_any}
use Rattle.std.specs.Str.{chars}
use Rattle.rl_syntax.specs.declared.span.Span.{Span}
use Rattle.rl_syntax.specs.declared.kind.Kind.TheVariants.{Str as StrKind}
use Rattle.rl_syntax.specs.Texts.{SpannedText}
use Rattle.rl_syntax.specs.Reading.{Characters, HasContents}
use Rattle.rust_literals.specs.declared.lit.Lit.{Lit}
use Rattle.rust_literals.specs.declared.lit.Lit.TheVariants.{Str}
use Rattle.rust_literals.specs.LitParts.{lit_span}

-- The result is `true` exactly if the decoded value of the string literal contains a control character.
abbrev pub ReportsControl : SpannedText → Bool → Type 0
ReportsControl string answer =
    (value : List ℕ) × HasContents StrKind (chars string.text) (Characters value)
    × (answer ≡ list_any is_control value)

-- The result is `true` exactly if the literal is a string literal whose decoded value contains a control character.
abbrev pub ReportsLintError : {A : Type 0} → Lit A → Bool → Type 0
ReportsLintError (Str string) answer = ReportsControl string answer
ReportsLintError other answer = answer ≡ false

-- The list of spans has the span of each string literal whose decoded value contains a control character, in order.
abbrev pub AreErrors : {A : Type 0} → List (Lit A) → List Span → Type 0
AreErrors [] spans = spans ≡ []
AreErrors (l ∷ ls) spans =
    (ReportsLintError l false × AreErrors ls spans)
    ⊎ ((rest : List Span) × ReportsLintError l true × (spans ≡ lit_span l ∷ rest) × AreErrors ls rest)
