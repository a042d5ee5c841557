use Rattle.rust_literals.proofs.Theorems.{a_printed_list_is_read, a_text_is_one_list}
use Rattle.rust_literals.proofs.laws.a_printed_list_is_read.Goals as goal

pub returns-clause-one : goal.returns-clause-one
returns-clause-one g c = a_text_is_one_list

pub returns-clause-printed : goal.returns-clause-printed
returns-clause-printed g c = a_printed_list_is_read
