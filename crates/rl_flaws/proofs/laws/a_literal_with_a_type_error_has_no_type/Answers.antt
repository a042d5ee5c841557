use Rattle.rl_flaws.proofs.Theorems.{an_error_excludes_a_type}
use Rattle.rl_flaws.proofs.laws.a_literal_with_a_type_error_has_no_type.Goals as goal

pub returns : goal.returns
returns c = an_error_excludes_a_type
