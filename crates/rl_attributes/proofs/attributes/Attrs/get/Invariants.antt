use Rattle.std.proofs.Common.{ℕ, ◌<◌, get_or}
use Rattle.rl_attributes.specs.declared.attributes.Entry.{Entry}
use Rattle.rl_attributes.specs.Entries.{HasName}
use Rattle.rl_attributes.proofs.attributes.Attrs.get.Given as goal

abbrev pub invariant-loop-entry : goal.invariant-loop-entry
invariant-loop-entry g l = (k : ℕ) (d : Entry g.row.A.Denot) → k < l.entry-index
    → HasName l.name (get_or l.self.entries.items k d) → ⊥
