use Rattle.rl_syntax.proofs.Theorems.{a_strict_number_reads_after_a_minus}
use Rattle.rl_syntax.proofs.laws.a_negated_strict_number_is_a_syn_literal.Goals as goal

pub returns : goal.returns
returns c = a_strict_number_reads_after_a_minus
