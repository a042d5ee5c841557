use Rattle.rl_style.proofs.Theorems.{keeps_the_tokens}
use Rattle.rl_style.proofs.laws.the_tokens_are_kept.Goals as goal

pub returns : goal.returns
returns c = keeps_the_tokens
