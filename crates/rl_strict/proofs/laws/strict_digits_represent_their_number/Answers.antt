use Rattle.rl_strict.proofs.Theorems.{strict_digits_represent_their_number, strict_digits_are_decimal, no_zero_leads_strict_digits, zero_is_one_strict_digit}
use Rattle.rl_strict.proofs.laws.strict_digits_represent_their_number.Goals as goal

pub returns-clause-spells : goal.returns-clause-spells
returns-clause-spells c = strict_digits_represent_their_number

pub returns-clause-digits : goal.returns-clause-digits
returns-clause-digits c = strict_digits_are_decimal

pub returns-clause-no_zero : goal.returns-clause-no_zero
returns-clause-no_zero c = no_zero_leads_strict_digits

pub returns-clause-zero : goal.returns-clause-zero
returns-clause-zero c = zero_is_one_strict_digit
