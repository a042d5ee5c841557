use Rattle.rl_syntax.proofs.Common.{◌≡◌, ◌<◌, ◌∙◌, [], ◌∷◌, ◌++◌, ap, arith, rules}
use Rattle.rl_cursors.specs.Segments.{SegmentsState, span_from}
use Rattle.rl_cursors.proofs.SegmentLemmas.{place_below, segment_fits, tabled_all, tabled_more}
use Rattle.rl_fronts.proofs.span_table.value_byte_spans.Goals as goal

pub push_spans-requires-clause-within : goal.push_spans-requires-clause-within
push_spans-requires-clause-within g c = λ i small.
    let t = c.in-Some.ensures.next in
    place_below _ c.in-Some.segment t.units i t.is_segment t.long c.in-Some.ensures.some small

pub push_spans-requires-clause-fits : goal.push_spans-requires-clause-fits
push_spans-requires-clause-fits g c = segment_fits _ _ _ _ _ c.in-Some.segment c.loop-segment.invariant
    c.in-Some.ensures.next c.requires

pub loop-segment-preserved : goal.loop-segment-preserved
loop-segment-preserved g c =
    let more = c.in_ok-push_spans.ensures in
    tabled_more _ _ _ _ _ _ c.in-Some.segment c.loop-segment.invariant c.in-Some.ensures.next more.long more.kept
    more.added

pub overflow_add-end : goal.overflow_add-end
overflow_add-end g c =
    let fits : c.args.base.hi < 18446744073709551616 = search rules in
    let at : c.next_offset.result ≡ c.loop-segment.segments.at = c.next_offset.ensures
    ∙ ap (λ (s : SegmentsState). s.at) c.in_default.ensures.stays in
    omega (arith, fits, at, c.loop-segment.invariant.same_end, c.requires)

pub returns : goal.returns
returns g c =
    let at : c.next_offset.result ≡ c.loop-segment.segments.at = c.next_offset.ensures
    ∙ ap (λ (s : SegmentsState). s.at) c.in_default.ensures.stays in
    tabled_all _ _ _ _ _ c.loop-segment.invariant c.in_default.ensures.none
    (c.in_ok-push.ensures.items ∙ ap (λ n. c.loop-segment.spans.items ++ (span_from c.args.base n n ∷ [])) at)
