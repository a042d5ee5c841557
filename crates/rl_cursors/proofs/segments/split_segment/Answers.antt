use Rattle.rl_syntax.proofs.Common.{◌≡◌, ◌+◌, ◌∙◌, [], length, sym, ap, append-nil, arith, rules, chars-nil, IsUtf8}
use Rattle.rl_lenient.proofs.Names.{first_passes, is_plain}
use Rattle.std.proofs.Common.{length-append}
use Rattle.std.proofs.lemmas.Str.{IsUtf8-nil}
use Rattle.std.specs.Str.{chars}
use Rattle.rl_lenient.proofs.CutLemmas.{tail_chars}
use Rattle.rl_cursors.proofs.SegmentLemmas.{cut_bytes, no_length, other_longest, some_length, text_longest, plain_front, run_front, unit_front, unit_there}
use Rattle.rl_cursors.proofs.segments.split_segment.Goals as goal

pub returns-then-plain-clause-front : goal.returns-then-plain-clause-front
returns-then-plain-clause-front c = plain_front _ _ c.args.text c.if-plain.true c.utf8.text

pub returns-then-plain-clause-following : goal.returns-then-plain-clause-following
returns-then-plain-clause-following c = record { front = c.args.text.now; text_is = sym (append-nil c.args.text.now); is_text = IsUtf8-nil }

pub returns-then-not-is_empty-clause-front : goal.returns-then-not-is_empty-clause-front
returns-then-not-is_empty-clause-front c =
    let run : IsUtf8 c.split_run.result.0.now = search rules in
    run_front _ _ _ _ c.split_run.result.0 c.if-plain.false run c.split_run.ensures.cut c.split_run.ensures.plain
    c.requires.has

pub returns-then-not-is_empty-clause-shorter : goal.returns-then-not-is_empty-clause-shorter
returns-then-not-is_empty-clause-shorter c =
    let run : IsUtf8 c.split_run.result.0.now = search rules in
    let following : IsUtf8 c.split_run.result.1.now = search rules in
    let whole : length c.args.text.now ≡ length c.split_run.result.0.now + length c.split_run.result.1.now = ap length
    (cut_bytes _ _ _ c.utf8.text run following c.split_run.ensures.cut)
    ∙ length-append c.split_run.result.0.now c.split_run.result.1.now in
    omega (arith, whole, some_length _ _ c.is_empty.ensures c.if-not-is_empty.true)

pub unreachable-requires : goal.unreachable-requires
unreachable-requires c = unit_there _ _ _ c.if-plain.false c.utf8.text c.requires.some c.requires.has
    (sym c.in_default.ensures.value)

pub returns-clause-front : goal.returns-clause-front
returns-clause-front c =
    unit_front _ _ _ _ _ _ c.if-plain.false (c.split_run.ensures.stops
    (no_length _ _ c.is_empty.ensures c.if-not-is_empty.false)) (sym c.in-Some.ensures.value)
    c.in-Some.ensures.piece c.in-Some.ensures.character c.value_of.ensures.value c.value_of.ensures.other c.requires.has

pub returns-clause-following : goal.returns-clause-following
returns-clause-following c =
    let after : IsUtf8 c.in-Some.after.now = search rules in
    tail_chars _ _ _ c.utf8.text after (returns-clause-front c).text_is

pub returns-then-plain-clause-longest : goal.returns-then-plain-clause-longest
returns-then-plain-clause-longest c = text_longest c.args.kind c.args.text (chars [])
    (λ is. ap (first_passes (is_plain c.args.kind)) chars-nil)

pub returns-then-not-is_empty-clause-longest : goal.returns-then-not-is_empty-clause-longest
returns-then-not-is_empty-clause-longest c = text_longest c.args.kind c.split_run.result.0
    (chars c.split_run.result.1.now) c.split_run.ensures.longest

pub returns-clause-longest : goal.returns-clause-longest
returns-clause-longest c = other_longest c.args.kind _ (chars c.in-Some.after.now) c.value_of.ensures.other
