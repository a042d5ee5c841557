use Rattle.std.proofs.Common.{◌≡◌, List, ◌++◌, length}
use Rattle.rl_tokens.specs.Trees.{Tree}
use Rattle.rl_tokens.specs.Buffers.{trees_in, scope_of}
use Rattle.rust_literals.specs.declared.lit.Lit.{Lit}
use Rattle.rust_literals.specs.Parsing.{ReadsLiterals}
use Rattle.rust_literals.proofs.read.read_on.Given as goal

abbrev pub invariant-loop-alloc : goal.invariant-loop-alloc
invariant-loop-alloc g l = record {
  leads : (all : List Tree) (gone : List (Lit g.row.A.Denot))
      → ReadsLiterals all (gone ++ l.initial.list.items) (trees_in l.initial.input)
      → ReadsLiterals all (gone ++ l.list.items) (trees_in l.input);
  scope : scope_of l.input ≡ scope_of l.initial.input;
}

abbrev pub decreases-loop-alloc : goal.decreases-loop-alloc
decreases-loop-alloc g l = length (trees_in l.input)
