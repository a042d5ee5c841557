use Rattle.rust_literals.specs.Iterating.{left_of}
use Rattle.rl_program.specs.Lists.{HasLines}
use Rattle.rl_program.proofs.list.literal_lines.Given as goal

abbrev pub invariant-loop-literal : goal.invariant-loop-literal
invariant-loop-literal g l = record { has : HasLines l.text l.literals l.lines }

abbrev pub decreases-loop-literal : goal.decreases-loop-literal
decreases-loop-literal g l = left_of l.literals
