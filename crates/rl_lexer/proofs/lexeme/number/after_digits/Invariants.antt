use Rattle.rl_syntax.proofs.Common.{◌≡◌, length, chars, is_ascii_digit}
use Rattle.rl_syntax.specs.Texts.{IsTail}
use Rattle.rl_syntax.specs.Classes.{after_run}
use Rattle.rl_lexer.proofs.lexeme.number.after_digits.Given as goal

abbrev pub invariant-loop-following : goal.invariant-loop-following
invariant-loop-following l = record {
  following : IsTail l.text l.rest;
  same : after_run is_ascii_digit (chars l.rest) ≡ after_run is_ascii_digit (chars l.text);
}

abbrev pub decreases-loop-following : goal.decreases-loop-following
decreases-loop-following l = length l.rest
