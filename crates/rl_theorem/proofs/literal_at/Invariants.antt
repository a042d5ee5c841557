use Rattle.std.proofs.Common.{ℕ, List}
use Rattle.std.specs.Str.{chars}
use Rattle.rl_syntax.specs.Printed.{Entry, Printed}
use Rattle.rl_theorem.proofs.StepLemmas.{IsAfter}
use Rattle.rl_theorem.proofs.literal_at.Given as goal

abbrev pub invariant-loop : goal.invariant-loop
invariant-loop l = record {
  left : (entries : List Entry) (last : List ℕ) → Printed (chars l.text) entries last
      → IsAfter l.counter 0 entries l.list;
}
