use Rattle.rl_syntax.proofs.Common.{true, false, refl}
use Rattle.rl_lexer.proofs.TruthWords.{no_word, truth_chars}
use Rattle.rl_lexer.proofs.source.is_truth.Goals as goal

pub returns-in-true : goal.returns-in-true
returns-in-true c = (λ _. (true, truth_chars c.args.text.now true c.in-true.is-true), λ _. refl)

pub returns-in-true-2 : goal.returns-in-true-2
returns-in-true-2 c = (λ _. (false, truth_chars c.args.text.now false c.in-true.is-false), λ _. refl)

pub returns-in_default : goal.returns-in_default
returns-in_default c = (
  λ is. absurd (cc),
  λ word. absurd (no_word c.args.text.now c.utf8.text c.in_default.not-true
      c.in_default.not-false word.0 word.1),
)
