use Rattle.rl_style.proofs.Theorems.{keeps_the_tokens_unraw}
use Rattle.rl_style.proofs.laws.the_tokens_around_a_replaced_raw_string_are_kept.Goals as goal

pub returns : goal.returns
returns c = keeps_the_tokens_unraw
