use Rattle.rl_syntax.proofs.Theorems.{the_truth_words_are_strict}
use Rattle.rl_syntax.proofs.laws.true_and_false_are_strict_literals.Goals as goal

pub returns : goal.returns
returns c = the_truth_words_are_strict
