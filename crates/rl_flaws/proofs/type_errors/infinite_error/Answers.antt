use Rattle.rl_syntax.proofs.Common.{◌^◌, ◌-◌, ap, inr, refl, arith}
use Rattle.rl_flaws.specs.NumberTypes.{infinite_from}
use Rattle.rl_flaws.proofs.TypeLemmas.{in_floats}
use Rattle.rl_flaws.proofs.type_errors.infinite_error.Goals as goal

pub returns-then-magnitude-ge-F32_INFINITE-clause-some : goal.returns-then-magnitude-ge-F32_INFINITE-clause-some
returns-then-magnitude-ge-F32_INFINITE-clause-some c =
    (refl, inr (2 ^ 128 - 2 ^ 103, ap infinite_from c.in-F32.is, c.if-magnitude-ge-F32_INFINITE.true))

pub returns-else-magnitude-ge-F32_INFINITE-clause-none : goal.returns-else-magnitude-ge-F32_INFINITE-clause-none
returns-else-magnitude-ge-F32_INFINITE-clause-none c =
    in_floats c.args.ty c.args.negated c.args.magnitude c.requires
    (λ e. omega (arith, c.if-magnitude-ge-F32_INFINITE.false)) c.ranges.magnitude.fits

pub returns-in_default-clause-none : goal.returns-in_default-clause-none
returns-in_default-clause-none c = in_floats c.args.ty c.args.negated c.args.magnitude c.requires
    (λ e. absurd (c.in_default.not-F32 e)) c.ranges.magnitude.fits
