use Rattle.rust_literals.proofs.Theorems.{a_str_list_is_read, strings_have_one_list_of_values}
use Rattle.rust_literals.proofs.laws.a_written_list_of_strings_is_read.Goals as goal

pub returns-clause-read : goal.returns-clause-read
returns-clause-read g c = a_str_list_is_read

pub returns-clause-one : goal.returns-clause-one
returns-clause-one g c = strings_have_one_list_of_values
