use Rattle.std.proofs.Common.{◌≡◌, List, length, drop}
use Rattle.rl_tokens.specs.Trees.{Tree}
use Rattle.rl_tokens.specs.Buffers.{trees_in, scope_of}
use Rattle.rust_literals.specs.declared.lit.Lit.{Lit}
use Rattle.rust_literals.specs.Parsing.{ReadsLiterals}
use Rattle.rust_literals.proofs.read.pass.Given as goal

abbrev pub invariant-loop : goal.invariant-loop
invariant-loop g l = record {
  leads : (passed : List (Lit g.row.A.Denot)) (rest : List Tree) → length passed ≡ l.count
      → ReadsLiterals (trees_in l.initial.input) passed rest → ReadsLiterals (trees_in l.input) (drop l.counter passed)
      rest;
  scope : scope_of l.input ≡ scope_of l.initial.input;
}
