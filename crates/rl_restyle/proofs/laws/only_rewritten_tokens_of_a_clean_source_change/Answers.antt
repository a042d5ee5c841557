use Rattle.rl_restyle.proofs.Theorems.{keeps_the_clean_source}
use Rattle.rl_restyle.proofs.laws.only_rewritten_tokens_of_a_clean_source_change.Goals as goal

pub returns : goal.returns
returns c = keeps_the_clean_source
