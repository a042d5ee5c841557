-- At most five digits precede a further digit of an escape `\u{..}`, so their value is below 16 to the fifth.
use Rattle.rl_syntax.proofs.Common.{◌<◌, ◌≤◌, ◌^◌, arith, common_steps}
use Rattle.std.proofs.Math.Nat.{pow-le-pow_right}
use Rattle.rl_lenient.proofs.units.more_digits.Goals as goal

pub overflow_mul-value : goal.overflow_mul-value
overflow_mul-value c =
    let five : c.loop-next.count ≤ 5 = omega arith in
    let bound : 16 ^ c.loop-next.count ≤ 16 ^ 5 = pow-le-pow_right (omega arith) five in
    omega arith

pub overflow_add-value : goal.overflow_add-value
overflow_add-value c =
    let five : c.loop-next.count ≤ 5 = omega arith in
    let bound : 16 ^ c.loop-next.count ≤ 16 ^ 5 = pow-le-pow_right (omega arith) five in
    let digit_small : c.in-Some-to_digit.digit < 16 = grind (arith, common_steps) in
    omega arith
