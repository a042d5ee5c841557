use Rattle.rl_syntax.proofs.Common.{true, false}
use Rattle.rl_lexer.proofs.TruthWords.{truth_chars, no_word}
use Rattle.rl_lenient.proofs.found.bool_of.Goals as goal

pub returns-in-true-clause-some : goal.returns-in-true-clause-some
returns-in-true-clause-some c = truth_chars c.args.text.now true c.in-true.is

pub returns-in-false-clause-some : goal.returns-in-false-clause-some
returns-in-false-clause-some c = truth_chars c.args.text.now false c.in-false.is

pub returns-in_default-clause-none : goal.returns-in_default-clause-none
returns-in_default-clause-none c = no_word c.args.text.now c.utf8.text c.in_default.not-true c.in_default.not-false
