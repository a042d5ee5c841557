use Rattle.rl_fronts.proofs.Theorems.{a_parser_of_a_kind_is_exact}
use Rattle.rl_fronts.proofs.laws.a_parser_of_a_kind_is_exact.Goals as goal

pub returns : goal.returns
returns g c = a_parser_of_a_kind_is_exact
