use Rattle.rl_tokens.proofs.Theorems.{a_group_has_one_inside, a_group_is_no_mark, a_mark_has_one_rest, a_peeked_mark_is_at_the_front, joint_marks_have_one_rest}
use Rattle.rl_tokens.proofs.laws.one_list_follows_a_token.Goals as goal

pub returns-clause-mark : goal.returns-clause-mark
returns-clause-mark c = a_mark_has_one_rest

pub returns-clause-joint : goal.returns-clause-joint
returns-clause-joint c = joint_marks_have_one_rest

pub returns-clause-peeked : goal.returns-clause-peeked
returns-clause-peeked c = a_peeked_mark_is_at_the_front

pub returns-clause-group : goal.returns-clause-group
returns-clause-group c = a_group_has_one_inside

pub returns-clause-other : goal.returns-clause-other
returns-clause-other c = a_group_is_no_mark
