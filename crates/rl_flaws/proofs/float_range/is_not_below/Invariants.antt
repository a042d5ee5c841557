-- The loop's invariant: comparing the remaining digits gives the result of comparing all digits.
use Rattle.rl_syntax.proofs.Common.{◌≡◌, length}
use Rattle.rl_flaws.specs.FloatRange.{digits_only}
use Rattle.rl_flaws.specs.Mirrors.Floats.{not_below}
use denote.Text.{Utf8}
use denote.Shadow.{shadow}
use Rattle.std.specs.Str.{chars}
use Rattle.rl_flaws.proofs.float_range.is_not_below.Given as goal

abbrev pub invariant-loop-wanted : goal.invariant-loop-wanted
invariant-loop-wanted l = record {
  utf8 : shadow (Utf8 l.rest);
  left : shadow (Utf8 l.left);
  same : not_below (digits_only (chars l.left)) (chars l.rest)
      ≡ not_below (digits_only (chars l.digits)) (chars l.bound);
}

abbrev pub decreases-loop-wanted : goal.decreases-loop-wanted
decreases-loop-wanted l = length l.rest
