use Rattle.std.proofs.Common.{◌≡◌, length}
use Rattle.rl_tokens.specs.Buffers.{trees_in, scope_of}
use Rattle.rl_attributes.proofs.EntryLemmas.{IsAt}
use Rattle.rl_attributes.proofs.attributes.take.take_all.Given as goal

abbrev pub invariant-loop-alloc : goal.invariant-loop-alloc
invariant-loop-alloc g l = record {
  at : IsAt (trees_in l.initial.input) l.entries.items l.names (trees_in l.input);
  scope : scope_of l.input ≡ scope_of l.initial.input;
}

abbrev pub decreases-loop-alloc : goal.decreases-loop-alloc
decreases-loop-alloc g l = length (trees_in l.input)
