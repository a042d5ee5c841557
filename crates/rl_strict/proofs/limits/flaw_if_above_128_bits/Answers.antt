use Rattle.rl_strict.proofs.Names.{both_ways, sym, ◌∙◌}
use Rattle.rl_strict.proofs.LimitLemmas.{signed_past}
use Rattle.rl_strict.proofs.ReadValues.{has_value, past_read, past_token, past_value}
use Rattle.rl_strict.proofs.limits.flaw_if_above_128_bits.Goals as goal

pub flaw_above_128_bits-requires : goal.flaw_above_128_bits-requires
flaw_above_128_bits-requires c =
    let (ends, signed, reads, token) = c.requires in
    let at = sym c.suffix_at_if_above_128_bits.ensures ∙ c.in-Some.is in
    let past = signed_past _ _ _ (past_read ends signed _ _ _ reads at).1 at in
    record { boundary = past.0; past = past.1 }

pub returns-then-is_float_by_suffix-clause-none : goal.returns-then-is_float_by_suffix-clause-none
returns-then-is_float_by_suffix-clause-none c = λ ends signed reads token. past_value ends signed c.args.text.now
    c.args.reading _ reads (sym c.suffix_at_if_above_128_bits.ensures ∙ c.in-Some.is)
    (c.is_float_by_suffix.ensures.0 c.if-is_float_by_suffix.true)

pub returns-else-is_float_by_suffix-clause-some : goal.returns-else-is_float_by_suffix-clause-some
returns-else-is_float_by_suffix-clause-some c =
    let (ends, signed, reads, token) = c.requires in (
      past_token ends signed _ _ _ reads (sym c.suffix_at_if_above_128_bits.ensures ∙ c.in-Some.is) token,
      c.flaw_above_128_bits.ensures,
      λ f. both_ways _ c.if-is_float_by_suffix.false (c.is_float_by_suffix.ensures.1 f),
    )

pub returns-in-None-clause-none : goal.returns-in-None-clause-none
returns-in-None-clause-none c = λ ends signed reads token. has_value ends signed c.args.text.now c.args.reading
    c.utf8.text reads (sym c.suffix_at_if_above_128_bits.ensures ∙ c.in-None.is) token
