use Rattle.rl_syntax.proofs.Common.{ℕ, List, length}
use denote.Text.{Utf8}
use denote.Shadow.{shadow}
use Rattle.std.specs.Str.{chars}
use Rattle.rl_lenient.specs.UnitRuns.{BeginsRun}
use Rattle.rl_lenient.proofs.quoted_forms.skip_units_of.Given as goal

abbrev pub invariant-loop-after : goal.invariant-loop-after
invariant-loop-after l = record {
  utf8 : shadow (Utf8 l.rest);
  run : (v : List ℕ) × BeginsRun l.kind (chars l.text) v (chars l.rest);
}

abbrev pub decreases-loop-after : goal.decreases-loop-after
decreases-loop-after l = length l.rest
