use Rattle.rl_attributes.proofs.Theorems.{a_rejected_bool_is_at_the_value, a_rejected_string_is_at_the_value, a_rejected_unsigned_is_at_the_value}
use Rattle.rl_attributes.proofs.laws.a_rejected_value_is_where_the_error_is.Goals as goal

pub returns-clause-string : goal.returns-clause-string
returns-clause-string g c = a_rejected_string_is_at_the_value

pub returns-clause-truth : goal.returns-clause-truth
returns-clause-truth g c = a_rejected_bool_is_at_the_value

pub returns-clause-unsigned : goal.returns-clause-unsigned
returns-clause-unsigned g c = a_rejected_unsigned_is_at_the_value
