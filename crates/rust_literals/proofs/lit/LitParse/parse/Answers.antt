use Rattle.std.proofs.Common.{inr, refl, subst}
use Rattle.rl_tokens.specs.Buffers.{trees_in, scope_of, IsRest}
use Rattle.rl_fronts.specs.Fronts.{HasNoFront}
use Rattle.rl_fronts.specs.FrontTokens.{front_token}
use Rattle.rust_literals.proofs.FrontLits.{lit_front, lit_memory}
use Rattle.rust_literals.proofs.lit.LitParse.parse.Goals as goal

pub returns-in_default-clause-runs : goal.returns-in_default-clause-runs
returns-in_default-clause-runs g c =
    inr (record {
      rejection = c.error.ensures;
      none = subst HasNoFront c.fork-ahead.ensures.trees c.in_default.ensures.none;
      stays = refl;
    })

pub returns-in-Some-of_front-clause-runs : goal.returns-in-Some-of_front-clause-runs
returns-in-Some-of_front-clause-runs g c =
    lit_front (trees_in c.args.input.now) (trees_in c.fork-ahead.result) (trees_in c.take.new.input)
    (front_token c.in-Some.front) (front_token c.in-Some.front) c.in-Some-of_front.literal
    c.fork-ahead.ensures.trees c.in-Some.ensures.taken refl c.in-Some-of_front.ensures

pub returns-in-Some-of_front-clause-rest : goal.returns-in-Some-of_front-clause-rest
returns-in-Some-of_front-clause-rest g c = subst (λ ts. IsRest ts (trees_in c.take.new.input))
    c.fork-ahead.ensures.trees c.take.ensures.rest

pub returns-in-None-clause-runs : goal.returns-in-None-clause-runs
returns-in-None-clause-runs g c =
    lit_memory (trees_in c.args.input.now) (trees_in c.fork-ahead.result) (trees_in c.take.new.input)
    (front_token c.in-Some.front) (scope_of c.args.input.now) c.span.result c.out_of_memory.result
    c.fork-ahead.ensures.trees c.in-Some.ensures.taken c.out_of_memory.ensures c.span.ensures
