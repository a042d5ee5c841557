use Rattle.rl_tokens.proofs.Theorems.{never_both, one_error, one_list}
use Rattle.rl_tokens.proofs.laws.a_text_is_lexed_in_one_way.Goals as goal

pub returns-clause-one_list : goal.returns-clause-one_list
returns-clause-one_list c = one_list

pub returns-clause-one_error : goal.returns-clause-one_error
returns-clause-one_error c = one_error

pub returns-clause-never_both : goal.returns-clause-never_both
returns-clause-never_both c = never_both
