use Rattle.rl_syntax.proofs.Theorems.{a_strict_text_reads}
use Rattle.rl_syntax.proofs.laws.a_strict_literal_is_a_syn_literal.Goals as goal

pub returns : goal.returns
returns c = a_strict_text_reads
