use Rattle.std.proofs.Common.{◌<◌, ap, arith, rules}
use Rattle.rl_syntax.specs.declared.span.Span.{Span}
use Rattle.rl_quoted.proofs.PlacedLemmas.{range_fits}
use Rattle.rl_quoted.proofs.quoted.Quoted.span_of.Goals as goal

pub overflow_add-result : goal.overflow_add-result
overflow_add-result g c =
    let fits : c.span-span.result.hi < 18446744073709551616 = search rules in
    omega (
      arith,
      fits,
      ap (λ (s : Span). s.lo) c.span-span.ensures,
      ap (λ (s : Span). s.hi) c.span-span.ensures,
      c.if-not-spans_text.ensures.long,
      (range_fits _ _ _ _ _ _ c.spans_text.ensures.text c.text_range-first.ensures).0,
    )

pub overflow_add-result-2 : goal.overflow_add-result-2
overflow_add-result-2 g c =
    let fits : c.span-span.result.hi < 18446744073709551616 = search rules in
    omega (
      arith,
      fits,
      ap (λ (s : Span). s.lo) c.span-span.ensures,
      ap (λ (s : Span). s.hi) c.span-span.ensures,
      c.if-not-spans_text.ensures.long,
      (range_fits _ _ _ _ _ _ c.spans_text.ensures.text c.text_range-first.ensures).1,
    )
