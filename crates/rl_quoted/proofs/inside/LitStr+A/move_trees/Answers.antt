use Rattle.std.proofs.Common.{ap, arith, subst, sym}
use Rattle.rl_syntax.specs.declared.span.Span.{Span}
use Rattle.rl_cursors.specs.Segments.{IsSpanTable}
use Rattle.rl_quoted.proofs.PlacedLemmas.{moved_by_table, moved_elsewhere}
use Rattle.rl_quoted.proofs.inside.LitStr+A.move_trees.Goals as goal

pub returns-then-not-spans_text-clause-moved : goal.returns-then-not-spans_text-clause-moved
returns-then-not-spans_text-clause-moved g c =
    moved_elsewhere c.args.self.now _ _ _ c.span-span.ensures c.if-not-spans_text.ensures.long c.respan.ensures

pub value_byte_spans-requires : goal.value_byte_spans-requires
value_byte_spans-requires g c =
    omega (
      arith,
      c.segments.ensures.within,
      c.if-not-spans_text.ensures.long,
      ap (λ (s : Span). s.lo)
          c.span-span.ensures,
      ap (λ (s : Span). s.hi) c.span-span.ensures,
    )

pub returns-in-Ok-clause-moved : goal.returns-in-Ok-clause-moved
returns-in-Ok-clause-moved g c =
    moved_by_table c.args.self.now c.segments.result _ c.as_slice.result.now _ _ c.segments.ensures.segments
    c.span-span.ensures (subst (IsSpanTable c.segments.result c.span-span.result) (sym c.as_slice.ensures.value)
    c.in-Ok.ensures) c.if-not-spans_text.ensures.long c.map_by_byte_spans.ensures
