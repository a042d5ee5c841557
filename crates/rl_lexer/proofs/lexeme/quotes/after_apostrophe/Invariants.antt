use Rattle.rl_syntax.proofs.Common.{◌≡◌, length, chars}
use Rattle.rl_lexer.specs.Mirrors.LexemeAt.{after_apostrophe}
use Rattle.rl_syntax.specs.Texts.{IsTail}
use Rattle.rl_lexer.proofs.lexeme.quotes.after_apostrophe.Given as goal

abbrev pub invariant-loop-c : goal.invariant-loop-c
invariant-loop-c l = record {
  following : IsTail l.text l.rest;
  same : after_apostrophe (chars l.rest) ≡ after_apostrophe (chars l.text);
}

abbrev pub decreases-loop-c : goal.decreases-loop-c
decreases-loop-c l = length l.rest
