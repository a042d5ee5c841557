use Rattle.std.proofs.Common.{subst, refl}
use Rattle.rl_tokens.specs.Buffers.{trees_in}
use Rattle.rl_fronts.specs.Fronts.{IsFront}
use Rattle.rl_fronts.specs.FrontTokens.{front_token}
use Rattle.rust_literals.proofs.lit.LitToken.peek.Goals as goal

pub returns-in-Some : goal.returns-in-Some
returns-in-Some g c =
    let f : IsFront (trees_in c.args.input.now) (front_token c.in-Some.field-0) (trees_in c.take.new.input) =
    subst (λ ts. IsFront ts (front_token c.in-Some.field-0) (trees_in c.take.new.input)) c.fork-ahead.ensures.trees
    c.in-Some.ensures.taken in
    ((λ h. (front_token c.in-Some.field-0, trees_in c.take.new.input, f)), (λ h. refl))
