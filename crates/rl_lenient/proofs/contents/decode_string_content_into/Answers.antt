use Rattle.rl_syntax.proofs.Common.{◌≡◌, ◌∙◌, ◌≤◌, None, length, arith, rules, IsUtf8}
use Rattle.std.specs.Str.{chars}
use Rattle.rl_lenient.specs.Mirrors.UnitAt.{unit_at}
use Rattle.rl_lenient.proofs.RoomLemmas.{run_room, run_filled, piece_room, piece_filled}
use Rattle.rl_lenient.proofs.contents.decode_string_content_into.Goals as goal

pub put_run-at-requires : goal.put_run-at-requires
put_run-at-requires c =
    let l = c.loop-piece in
    let cut = c.split_plain.ensures in
    let run : IsUtf8 c.split_plain.result.0.now = search rules in
    let following : IsUtf8 c.split_plain.result.1.now = search rules in
    let room : length c.args.text.now ≤ length l.out = omega (arith, l.invariant.len, c.requires.room) in
    omega (arith, room, run_room _ _ _ _ _ _ _ l.invariant.filled cut.cut cut.plain c.utf8.text run following room)

pub returns-in_default-clause-decodes : goal.returns-in_default-clause-decodes
returns-in_default-clause-decodes c =
    let l = c.loop-piece in
    let cut = c.split_plain.ensures in
    let put = c.put_run-at.ensures in
    let run : IsUtf8 c.split_plain.result.0.now = search rules in
    let following : IsUtf8 c.split_plain.result.1.now = search rules in
    let room : length c.args.text.now ≤ length l.out = omega (arith, l.invariant.len, c.requires.room) in
    let f = run_filled _ _ _ _ _ _ _ _ _ l.invariant.filled cut.cut cut.plain c.utf8.text run following room put.end
    put.bytes in
    let none : unit_at c.args.kind (chars c.split_plain.result.1.now) ≡ None = search rules in
    record { value = f.value; rest = _; run = f.run; stuck = none; bytes_are = f.bytes }

pub returns-in_default-clause-within : goal.returns-in_default-clause-within
returns-in_default-clause-within c =
    let l = c.loop-piece in
    let cut = c.split_plain.ensures in
    let put = c.put_run-at.ensures in
    let run : IsUtf8 c.split_plain.result.0.now = search rules in
    let following : IsUtf8 c.split_plain.result.1.now = search rules in
    let room : length c.args.text.now ≤ length l.out = omega (arith, l.invariant.len, c.requires.room) in
    omega (arith, put.end, run_room _ _ _ _ _ _ _ l.invariant.filled cut.cut cut.plain c.utf8.text run following room)

pub put_piece-at-requires : goal.put_piece-at-requires
put_piece-at-requires c =
    let l = c.loop-piece in
    let cut = c.split_plain.ensures in
    let put = c.put_run-at.ensures in
    let run : IsUtf8 c.split_plain.result.0.now = search rules in
    let following : IsUtf8 c.split_plain.result.1.now = search rules in
    let after : IsUtf8 c.in-Some.after.now = search rules in
    let room : length c.args.text.now ≤ length l.out = omega (arith, l.invariant.len, c.requires.room) in
    let f = run_filled _ _ _ _ _ _ _ _ _ l.invariant.filled cut.cut cut.plain c.utf8.text run following room put.end
    put.bytes in
    let more : length c.args.text.now ≤ length c.put_run-at.new.out = omega (arith, room, put.len) in
    let unit = c.in-Some.ensures in
    omega (arith, more, piece_room _ _ _ _ _ _ c.in-Some.piece f unit.value unit.piece c.utf8.text after more)

pub loop-piece-preserved : goal.loop-piece-preserved
loop-piece-preserved c =
    let l = c.loop-piece in
    let cut = c.split_plain.ensures in
    let put = c.put_run-at.ensures in
    let run : IsUtf8 c.split_plain.result.0.now = search rules in
    let following : IsUtf8 c.split_plain.result.1.now = search rules in
    let after : IsUtf8 c.in-Some.after.now = search rules in
    let room : length c.args.text.now ≤ length l.out = omega (arith, l.invariant.len, c.requires.room) in
    let f = run_filled _ _ _ _ _ _ _ _ _ l.invariant.filled cut.cut cut.plain c.utf8.text run following room put.end
    put.bytes in
    let more : length c.args.text.now ≤ length c.put_run-at.new.out = omega (arith, room, put.len) in
    let unit = c.in-Some.ensures in
    let last = c.put_piece-at.ensures in
    record {
      utf8 = search rules;
      filled = piece_filled _ _ _ _ _ _ _ _ c.in-Some.piece f unit.value unit.piece c.utf8.text after more last.end
          last.bytes;
      len = last.len ∙ put.len ∙ l.invariant.len;
    }
