use Rattle.rl_tokens.proofs.Theorems.{a_str_list_is_printed}
use Rattle.rl_tokens.proofs.laws.a_str_list_is_printed.Goals as goal

pub returns : goal.returns
returns c = a_str_list_is_printed
