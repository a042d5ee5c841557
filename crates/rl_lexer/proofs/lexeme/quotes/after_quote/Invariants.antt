use Rattle.rl_syntax.proofs.Common.{◌≡◌, length, chars}
use Rattle.rl_lexer.specs.Mirrors.LexemeAt.{after_quote}
use Rattle.rl_syntax.specs.Texts.{IsTail}
use Rattle.rl_lexer.proofs.lexeme.quotes.after_quote.Given as goal

abbrev pub invariant-loop-mark : goal.invariant-loop-mark
invariant-loop-mark l = record {
  following : IsTail l.text l.rest;
  same : after_quote (chars l.rest) ≡ after_quote (chars l.text);
}

abbrev pub decreases-loop-mark : goal.decreases-loop-mark
decreases-loop-mark l = length l.rest
