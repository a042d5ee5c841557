use Rattle.rl_cursors.proofs.Theorems.{a_cursor_has_one_next_literal, a_taken_literal_is_a_next_literal}
use Rattle.rl_cursors.proofs.laws.a_cursor_has_one_next_literal.Goals as goal

pub returns-clause-one : goal.returns-clause-one
returns-clause-one c = a_cursor_has_one_next_literal

pub returns-clause-never_both : goal.returns-clause-never_both
returns-clause-never_both c = a_taken_literal_is_a_next_literal
