use Rattle.rl_syntax.proofs.Common.{◌≡◌, length, chars}
use Rattle.rl_lexer.specs.Mirrors.LexemeAt.{after_raw}
use Rattle.rl_syntax.specs.Texts.{IsTail}
use Rattle.rl_lexer.proofs.lexeme.quotes.after_raw.Given as goal

abbrev pub invariant-loop-following : goal.invariant-loop-following
invariant-loop-following l = record {
  following : IsTail l.text l.rest;
  same : after_raw (length (chars l.hashes)) (chars l.rest) ≡ after_raw (length (chars l.hashes)) (chars l.text);
}

abbrev pub decreases-loop-following : goal.decreases-loop-following
decreases-loop-following l = length l.rest
