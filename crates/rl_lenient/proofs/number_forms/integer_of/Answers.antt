use Rattle.rl_syntax.proofs.Common.{rules}
use Rattle.rl_lenient.proofs.number_forms.integer_of.Goals as goal

pub returns-then-is_integer-clause-value : goal.returns-then-is_integer-clause-value
returns-then-is_integer-clause-value c = search rules steps 300000
