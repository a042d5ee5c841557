use Rattle.rl_style.proofs.Theorems.{keeps_the_source}
use Rattle.rl_style.proofs.laws.the_tokens_of_a_source_are_kept.Goals as goal

pub returns : goal.returns
returns c = keeps_the_source
