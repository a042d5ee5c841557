use Rattle.rl_syntax.proofs.Common.{◌≡◌, ℕ, ◌+◌, ◌<◌, length, get_or}
use Rattle.rl_syntax.specs.Spans.{nowhere}
use Rattle.rl_cursors.specs.Segments.{segment_end, segment_place, span_from}
use Rattle.rl_fronts.proofs.span_table.push_spans.Given as goal

abbrev pub invariant-loop-i : goal.invariant-loop-i
invariant-loop-i g l = record {
  long : length l.spans.items ≡ length l.initial.spans.items + l.i;
  kept : (k : ℕ) → k < length l.initial.spans.items → get_or l.spans.items k nowhere
      ≡ get_or l.initial.spans.items k nowhere;
  added : (k : ℕ) → k < l.i → get_or l.spans.items (length l.initial.spans.items + k) nowhere
      ≡ span_from l.base (segment_place l.segment k) (segment_end l.segment k);
}
