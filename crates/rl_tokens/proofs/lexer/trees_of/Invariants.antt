use Rattle.rl_syntax.proofs.Common.{◌≡◌, length}
use Rattle.rl_tokens.proofs.LexLoop.{HasCut}
use Rattle.rl_tokens.proofs.lexer.trees_of.Given as goal

abbrev pub invariant-loop-token : goal.invariant-loop-token
invariant-loop-token g l = record {
  has : HasCut l.text l.tokens.rest l.file l.nest;
  same : l.tokens.text ≡ l.text;
}

abbrev pub decreases-loop-token : goal.decreases-loop-token
decreases-loop-token g l = length l.tokens.rest
