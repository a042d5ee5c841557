use Rattle.std.proofs.Common.{All, take}
use Rattle.rl_attributes.specs.Settings.{IsAccepted}
use Rattle.rl_attributes.proofs.attributes.Attrs.check.Given as goal

abbrev pub invariant-loop-entry : goal.invariant-loop-entry
invariant-loop-entry g l = All (IsAccepted l.settings) (take l.entry-index l.self.entries.items)
