use Rattle.rl_style.proofs.Theorems.{stays_before_quote}
use Rattle.rl_style.proofs.laws.tokens_before_a_replaced_raw_string_stay.Goals as goal

pub returns : goal.returns
returns c = stays_before_quote
