use Rattle.rl_tokens.proofs.Theorems.{a_mark_is_lighter, a_step_is_lighter, an_inside_is_lighter}
use Rattle.rl_tokens.proofs.laws.tokens_are_a_measure.Goals as goal

pub returns-clause-step : goal.returns-clause-step
returns-clause-step c = a_step_is_lighter

pub returns-clause-mark : goal.returns-clause-mark
returns-clause-mark c = a_mark_is_lighter

pub returns-clause-inside : goal.returns-clause-inside
returns-clause-inside c = an_inside_is_lighter
