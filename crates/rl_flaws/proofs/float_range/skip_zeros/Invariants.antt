-- The loop's invariant: each digit read so far is a zero.
use Rattle.rl_syntax.proofs.Common.{◌≡◌, length}
use Rattle.rl_flaws.specs.FloatRange.{digits_only}
use Rattle.rl_flaws.specs.Mirrors.Floats.{without_zeros}
use denote.Text.{Utf8}
use denote.Shadow.{shadow}
use Rattle.std.specs.Str.{chars}
use Rattle.rl_flaws.proofs.float_range.skip_zeros.Given as goal

abbrev pub invariant-loop-after : goal.invariant-loop-after
invariant-loop-after l = record {
  utf8 : shadow (Utf8 l.rest);
  same : without_zeros (digits_only (chars l.rest)) ≡ without_zeros (digits_only (chars l.text));
}

abbrev pub decreases-loop-after : goal.decreases-loop-after
decreases-loop-after l = length l.rest
