-- The laws of src/laws.rt, as lemmas that callers may cite.
use Rattle.rl_syntax.proofs.Common.{◌≡◌, inl, inr, ℕ, List, ap, subst}
use Rattle.std.specs.Prelude.{Result, Ok, Err}
use Rattle.std.specs.Result.{MatchResult}
use Rattle.rl_syntax.specs.declared.kind.Kind.{Kind}
use Rattle.rl_syntax.specs.declared.span.Span.{Span}
use Rattle.rl_syntax.specs.Texts.{SpannedText}
use Rattle.rl_tokens.specs.declared.error.Error.{Error}
use Rattle.rl_tokens.specs.declared.error.ErrorKind.TheVariants.{Memory}
use Rattle.rl_tokens.specs.Trees.{Tree}
use Rattle.rl_fronts.specs.Fronts.{IsFront, IsFrontOf, RunsAs}
use Rattle.rl_fronts.specs.Laws.{AFrontIsOne, AGroupIsNoFront, AParserOfAKindIsExact}
use Rattle.rl_fronts.proofs.FrontLemmas.{one_front}

pub a_front_is_one : AFrontIsOne
a_front_is_one = one_front

pub a_group_is_no_front : AGroupIsNoFront
a_group_is_no_front d trees inside r s token g f = subst (λ (z : List Tree). IsFront z token s) g.trees_are f

exact_run : {A : Type 0} (kind : Kind) (word : List ℕ) (trees : List Tree) (scope : Span)
    (r : Result SpannedText (Error A)) (rest after : List Tree) (token : SpannedText)
    → RunsAs kind word trees scope r rest → IsFrontOf kind trees token after
    → MatchResult r (λ t. (t ≡ token) × (rest ≡ after)) (λ e. e.kind ≡ Memory)
exact_run kind word trees scope (Ok t) rest after token ran f = one_front trees t token rest after ran.front f.front
exact_run kind word trees scope (Err e) rest after token (inl (has, lacks)) f = ap (λ x. x.kind) lacks.error
exact_run kind word trees scope (Err e) rest after token (inr other) f = absurd (other.none (token, after, f))

pub a_parser_of_a_kind_is_exact : {A : Type 0} → AParserOfAKindIsExact A
a_parser_of_a_kind_is_exact = exact_run
