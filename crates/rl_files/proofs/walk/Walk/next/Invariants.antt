use Rattle.rl_files.specs.Walks.{WalksOn}
use Rattle.rl_files.proofs.WalkLemmas.{HasEntered}
use Rattle.rl_files.proofs.walk.Walk.next.Given as goal

abbrev pub invariant-loop : goal.invariant-loop
invariant-loop g l = record {
  on : WalksOn l.selection (g.T.Tree.holds l.tree) l.initial.self l.self;
  entered : HasEntered l.selection (g.T.Tree.holds l.tree) l.initial.self l.counter l.self;
}
