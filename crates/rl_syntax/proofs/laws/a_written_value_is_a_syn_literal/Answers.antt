use Rattle.rl_syntax.proofs.Theorems.{a_written_value_reads}
use Rattle.rl_syntax.proofs.laws.a_written_value_is_a_syn_literal.Goals as goal

pub returns : goal.returns
returns c = a_written_value_reads
