use Rattle.rl_lenient.proofs.Theorems.{a_found_literal_reads}
use Rattle.rl_lenient.proofs.laws.a_parsed_literal_has_the_value_of_its_text.Goals as goal

pub returns : goal.returns
returns c = a_found_literal_reads
