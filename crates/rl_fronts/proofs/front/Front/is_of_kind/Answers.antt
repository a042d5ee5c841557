use Rattle.rl_fronts.specs.FrontTokens.{front_token}
use Rattle.rl_fronts.proofs.FrontLemmas.{found_as}
use Rattle.rl_fronts.proofs.front.Front.is_of_kind.Goals as goal

pub returns : goal.returns
returns g c = rw c.is_some.ensures (found_as c.args.kind (front_token c.args.self.now).text c.find_of_kind.result
    c.find_of_kind.ensures.found c.find_of_kind.ensures.kind c.find_of_kind.ensures.none)
