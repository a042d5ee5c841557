use Rattle.rl_flaws.proofs.LookLaws.{token_told}
use Rattle.rl_flaws.proofs.kind_guess.guess_kind.Goals as goal

pub returns-clause-token : goal.returns-clause-token
returns-clause-token c = token_told _ _ c.front_kind.ensures.some c.front_kind.ensures.none
