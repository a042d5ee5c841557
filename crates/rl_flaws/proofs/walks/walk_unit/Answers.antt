use Rattle.rl_flaws.proofs.Names.{IfErr-at_err, IfOk-at_ok}
use Rattle.rl_flaws.proofs.walks.walk_unit.Goals as goal

pub returns-in-Ok-clause-closes : goal.returns-in-Ok-clause-closes
returns-in-Ok-clause-closes c = IfOk-at_ok _ c.in-Ok.is c.parse_single_unit-stretch.ensures.closes

pub returns-in-Err-clause-at : goal.returns-in-Err-clause-at
returns-in-Err-clause-at c = IfErr-at_err _ c.in-Err.is c.parse_single_unit-stretch.ensures.at

pub returns-in-Err-clause-stops : goal.returns-in-Err-clause-stops
returns-in-Err-clause-stops c = IfErr-at_err _ c.in-Err.is c.parse_single_unit-stretch.ensures.stops
