use Rattle.rl_syntax.proofs.Common.{codes, subst}
use Rattle.rl_syntax.specs.declared.kind.Kind.TheVariants.{Bool as BoolKind}
use Rattle.rl_tokens.specs.Buffers.{trees_in, scope_of, IsRest}
use Rattle.rl_fronts.specs.FrontTokens.{front_token}
use Rattle.rust_literals.proofs.FrontLits.{none_passed, other_passed, truth_front}
use Rattle.rust_literals.proofs.lit_bool.LitBoolParse.parse.Goals as goal

pub returns-in_default-clause-runs : goal.returns-in_default-clause-runs
returns-in_default-clause-runs g c =
    none_passed BoolKind (codes "boolean literal") (trees_in c.args.input.now) (trees_in c.fork-ahead.result)
    (scope_of c.args.input.now) c.error.result
    c.fork-ahead.ensures.trees c.in_default.ensures.none c.error.ensures

pub returns-in_default-bool_value-clause-runs : goal.returns-in_default-bool_value-clause-runs
returns-in_default-bool_value-clause-runs g c =
    other_passed BoolKind (codes "boolean literal") (trees_in c.args.input.now) (trees_in c.fork-ahead.result)
    (trees_in c.take.new.input) (front_token c.in-Some.front) (scope_of c.args.input.now) c.error-error.result
    c.fork-ahead.ensures.trees c.in-Some.ensures.taken c.in_default-bool_value.ensures.none c.error-error.ensures

pub returns-clause-runs : goal.returns-clause-runs
returns-clause-runs g c =
    truth_front (trees_in c.args.input.now) (trees_in c.fork-ahead.result) (trees_in c.take.new.input)
    (front_token c.in-Some.front) c.new.result c.in-Some-bool_value.value c.span.result
    c.fork-ahead.ensures.trees c.in-Some.ensures.taken c.in-Some-bool_value.ensures.some c.new.ensures c.span.ensures

pub returns-in_default-bool_value-clause-rest : goal.returns-in_default-bool_value-clause-rest
returns-in_default-bool_value-clause-rest g c = subst (λ ts. IsRest ts (trees_in c.take.new.input))
    c.fork-ahead.ensures.trees c.take.ensures.rest

pub returns-clause-rest : goal.returns-clause-rest
returns-clause-rest g c = subst (λ ts. IsRest ts (trees_in c.take.new.input)) c.fork-ahead.ensures.trees
    c.take.ensures.rest
