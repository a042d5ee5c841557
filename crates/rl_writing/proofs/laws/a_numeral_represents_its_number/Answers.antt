use Rattle.rl_writing.proofs.Theorems.{a_numeral_has_digits_of_its_base, a_numeral_represents_its_number}
use Rattle.rl_writing.proofs.laws.a_numeral_represents_its_number.Goals as goal

pub returns-clause-digits : goal.returns-clause-digits
returns-clause-digits c = a_numeral_has_digits_of_its_base

pub returns-clause-value : goal.returns-clause-value
returns-clause-value c = a_numeral_represents_its_number
