use Rattle.rl_style.proofs.Theorems.{stays_around}
use Rattle.rl_style.proofs.laws.tokens_before_a_rewritten_literal_stay.Goals as goal

pub returns : goal.returns
returns c = stays_around
