use Rattle.rl_syntax.proofs.Common.{chars, length, ◌≡◌}
use Rattle.rust_literals.specs.Flat.{AreReadUpTo}
use Rattle.rust_literals.proofs.flat.read_flat.Given as goal

abbrev pub invariant-loop-tokens : goal.invariant-loop-tokens
invariant-loop-tokens g l = record {
  read : AreReadUpTo (chars l.text) l.file l.list.items (chars l.tokens.rest);
  same : l.tokens.text ≡ l.text;
}

abbrev pub decreases-loop-tokens : goal.decreases-loop-tokens
decreases-loop-tokens g l = length l.tokens.rest
