use Rattle.rl_strict.proofs.Theorems.{a_bad_quote_has_no_reading, a_bad_quote_is_no_token}
use Rattle.rl_strict.proofs.laws.a_bad_quote_is_not_a_literal.Goals as goal

pub returns-clause-reading : goal.returns-clause-reading
returns-clause-reading c = a_bad_quote_has_no_reading

pub returns-clause-token : goal.returns-clause-token
returns-clause-token c = a_bad_quote_is_no_token
