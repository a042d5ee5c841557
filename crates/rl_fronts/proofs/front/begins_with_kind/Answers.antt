use Rattle.rl_fronts.specs.Fronts.{HasNoFront, IsFront}
use Rattle.rl_syntax.proofs.Common.{subst}
use Rattle.rl_tokens.specs.Buffers.{trees_in}
use Rattle.rl_fronts.specs.FrontTokens.{front_token}
use Rattle.rl_fronts.proofs.FrontLemmas.{front_of, none_of_kind, same_front}
use Rattle.rl_fronts.proofs.front.begins_with_kind.Goals as goal

pub returns-in-Some : goal.returns-in-Some
returns-in-Some g c =
    let f : IsFront (trees_in c.args.input.now) (front_token c.in-Some.front) (trees_in c.take.new.input) =
    subst (λ ts. IsFront ts (front_token c.in-Some.front) (trees_in c.take.new.input)) c.fork-ahead.ensures.trees
    c.in-Some.ensures.taken in (
      (λ h. (front_token c.in-Some.front, trees_in c.take.new.input, front_of _ _ _ _ f (c.is_of_kind.ensures.0 h))),
      (λ h. c.is_of_kind.ensures.1 (same_front c.args.kind (trees_in c.args.input.now) (front_token c.in-Some.front)
          (trees_in c.take.new.input) f h)),
    )

pub returns-in-None : goal.returns-in-None
returns-in-None g c = none_of_kind _ _ (subst HasNoFront c.fork-ahead.ensures.trees c.in-None.ensures.none)
