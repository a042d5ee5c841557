use Rattle.rl_writing.proofs.Theorems.{few_digits_are_not_grouped, enough_digits_are_grouped}
use Rattle.rl_writing.proofs.laws.few_digits_are_not_grouped.Goals as goal

pub returns-clause-few : goal.returns-clause-few
returns-clause-few c = few_digits_are_not_grouped

pub returns-clause-others : goal.returns-clause-others
returns-clause-others c = enough_digits_are_grouped
