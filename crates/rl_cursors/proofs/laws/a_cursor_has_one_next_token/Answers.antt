use Rattle.rl_cursors.proofs.Theorems.{a_cursor_has_one_next_position, a_cursor_has_one_next_token, a_cursor_stays_lexed, a_source_cursor_has_one_next_position, a_source_cursor_has_one_next_token}
use Rattle.rl_cursors.proofs.laws.a_cursor_has_one_next_token.Goals as goal

pub returns-clause-token : goal.returns-clause-token
returns-clause-token c = a_cursor_has_one_next_token

pub returns-clause-position : goal.returns-clause-position
returns-clause-position c = a_cursor_has_one_next_position

pub returns-clause-stays : goal.returns-clause-stays
returns-clause-stays c = a_cursor_stays_lexed

pub returns-clause-source_token : goal.returns-clause-source_token
returns-clause-source_token c = a_source_cursor_has_one_next_token

pub returns-clause-source_position : goal.returns-clause-source_position
returns-clause-source_position c = a_source_cursor_has_one_next_position
