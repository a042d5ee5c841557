-- The statements of the laws of src/laws.rt, each as a definition.
use Rattle.std.specs.Prelude.{◌≡◌, ℕ, List, Result}
use Rattle.std.specs.Result.{MatchResult}
use Rattle.rl_syntax.specs.declared.kind.Kind.{Kind}
use Rattle.rl_syntax.specs.declared.span.Span.{Span}
use Rattle.rl_syntax.specs.Texts.{SpannedText}
use Rattle.rl_tokens.specs.declared.error.Error.{Error}
use Rattle.rl_tokens.specs.declared.error.ErrorKind.TheVariants.{Memory}
use Rattle.rl_tokens.specs.declared.token.Delimiter.{Delimiter}
use Rattle.rl_tokens.specs.Laws.{IsAfterGroup}
use Rattle.rl_tokens.specs.Trees.{Tree}
use Rattle.rl_fronts.specs.Fronts.{IsFront, IsFrontOf, RunsAs}

-- Token trees begin with at most one literal, and one list of token trees follows it.
abbrev pub AFrontIsOne : Type 0
AFrontIsOne =
    (trees : List Tree) (a b : SpannedText) (r s : List Tree) → IsFront trees a r → IsFront trees b s
    → (a ≡ b) × (r ≡ s)

-- A group isn't a literal.
abbrev pub AGroupIsNoFront : Type 0
AGroupIsNoFront =
    (d : Delimiter) (trees inside r s : List Tree) (token : SpannedText) → IsAfterGroup d trees inside r
    → IsFront trees token s → ⊥

-- If token trees begin with a literal of a kind, the parser of the kind returns this literal, or an allocation failed.
abbrev pub AParserOfAKindIsExact : (A : Type 0) → Type 0
AParserOfAKindIsExact A =
    (kind : Kind) (word : List ℕ) (trees : List Tree) (scope : Span) (r : Result SpannedText (Error A))
    (rest after : List Tree) (token : SpannedText)
    → RunsAs kind word trees scope r rest → IsFrontOf kind trees token after
    → MatchResult r (λ t. (t ≡ token) × (rest ≡ after)) (λ e. e.kind ≡ Memory)
