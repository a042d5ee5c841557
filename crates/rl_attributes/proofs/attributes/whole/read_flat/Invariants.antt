use Rattle.rl_syntax.proofs.Common.{◌≡◌, length}
use Rattle.rl_attributes.proofs.FlatEntries.{IsFlatAt}
use Rattle.rl_attributes.proofs.attributes.whole.read_flat.Given as goal

abbrev pub invariant-loop-tokens : goal.invariant-loop-tokens
invariant-loop-tokens g l = record {
  at : IsFlatAt l.text l.file l.entries.items l.names l.tokens.rest;
  same : l.tokens.text ≡ l.text;
}

abbrev pub decreases-loop-tokens : goal.decreases-loop-tokens
decreases-loop-tokens g l = length l.tokens.rest
