use Rattle.rl_strict.proofs.ReadValues.{flaw_explains, value_explains, value_of}
use Rattle.rl_strict.proofs.reasons.explain_missing_value.Goals as goal

pub flaw_if_above_128_bits-requires : goal.flaw_if_above_128_bits-requires
flaw_if_above_128_bits-requires c = (c.args.ends, c.args.signed, c.in-Ok.ensures.reads, c.in-Ok.ensures.token)

pub returns-in-Ok-clause-none : goal.returns-in-Ok-clause-none
returns-in-Ok-clause-none c = value_of c.args.ends c.args.signed _ _ c.flaw_if_above_128_bits.result c.flaw_if_above_128_bits.ensures.none
    c.in-Ok.ensures.reads c.in-Ok.ensures.token

pub returns-in-Ok-clause-some : goal.returns-in-Ok-clause-some
returns-in-Ok-clause-some c = value_explains c.args.ends c.args.signed _ c.flaw_if_above_128_bits.result c.in-Ok.ensures.token
    c.flaw_if_above_128_bits.ensures.some

pub returns-in-Err-clause-some : goal.returns-in-Err-clause-some
returns-in-Err-clause-some c = flaw_explains c.args.ends c.args.signed _ _ c.in-Err.ensures.flaw
