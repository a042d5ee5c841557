use Rattle.rl_syntax.proofs.Common.{◌≡◌, length, chars}
use Rattle.rl_lexer.specs.Mirrors.SourceAt.{after_next_quote}
use Rattle.rl_syntax.specs.Texts.{IsTail}
use Rattle.rl_lexer.proofs.source.bad_quote.after_next_quote.Given as goal

abbrev pub invariant-loop-c : goal.invariant-loop-c
invariant-loop-c l = record {
  following : IsTail l.text l.rest;
  same : after_next_quote (chars l.rest) ≡ after_next_quote (chars l.text);
}

abbrev pub decreases-loop-c : goal.decreases-loop-c
decreases-loop-c l = length l.rest
