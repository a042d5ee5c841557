use Rattle.rl_style.proofs.Theorems.{keeps_the_source_around_a_restyled_literal}
use Rattle.rl_style.proofs.laws.the_source_tokens_around_a_restyled_literal_are_kept.Goals as goal

pub returns : goal.returns
returns c = keeps_the_source_around_a_restyled_literal
