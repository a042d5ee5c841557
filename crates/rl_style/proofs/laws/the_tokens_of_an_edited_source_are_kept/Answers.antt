use Rattle.rl_style.proofs.Theorems.{keeps_the_edited_source}
use Rattle.rl_style.proofs.laws.the_tokens_of_an_edited_source_are_kept.Goals as goal

pub returns : goal.returns
returns c = keeps_the_edited_source
