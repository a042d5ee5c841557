use Rattle.rl_syntax.proofs.Common.{◌∙◌}
use Rattle.rl_lenient.proofs.RunLemmas.{run_is_blanks}
use Rattle.rl_lenient.proofs.units.skip_blanks.Goals as goal

pub returns-clause-value : goal.returns-clause-value
returns-clause-value c = c.skip_class.ensures.rest ∙ run_is_blanks _
