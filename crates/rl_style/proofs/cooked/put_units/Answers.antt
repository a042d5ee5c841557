use Rattle.rl_syntax.proofs.Common.{◌≡◌, ◌+◌, ◌∙◌, ◌++◌, length, take, ap, sym, arith, rules, encode_utf8_all, not}
use Rattle.std.proofs.Common.{length-append}
use Rattle.std.specs.Str.{chars}
use Rattle.rl_lenient.specs.Mirrors.UnitAt.{unit_at}
use Rattle.rl_style.specs.Mirrors.{lettered, restyled_text, represents_digit}
use Rattle.rl_style.specs.Rewriting.{grown}
use Rattle.rl_style.proofs.Room.{grown_add}
use Rattle.rl_style.proofs.UnitTexts.{unit_tail}
use Rattle.rl_style.proofs.UnitRows.{passed_end, passed_step}
use Rattle.rl_style.proofs.cooked.put_units.Goals as goal

pub before-requires : goal.before-requires
before-requires c = unit_tail c.args.kind c.loop-piece.rest.now c.in-Some.after.now _ (search rules) (search rules)
    c.in-Some.ensures.value

pub put_unit-end-requires-clause-room : goal.put_unit-end-requires-clause-room
put_unit-end-requires-clause-room c =
    let l = c.loop-piece in
    let b = c.before-in-Some in
    let long : length l.rest.now ≡ length b.result.now + length c.in-Some.after.now = ap length b.ensures.cut
    ∙ length-append b.result.now c.in-Some.after.now in
    omega (
      arith,
      l.invariant.room,
      l.invariant.len,
      ap (grown c.args.style) long,
      grown_add c.args.style (length b.result.now) (length c.in-Some.after.now),
      c.requires,
    )

pub loop-piece-preserved : goal.loop-piece-preserved
loop-piece-preserved c =
    let l = c.loop-piece in
    let b = c.before-in-Some in
    let p = c.put_unit-end.ensures in
    let long : length l.rest.now ≡ length b.result.now + length c.in-Some.after.now = ap length b.ensures.cut
    ∙ length-append b.result.now c.in-Some.after.now in
    record {
      utf8 = search rules;
      passed = λ us a. passed_step c.args.style c.args.kind us (chars l.rest.now) _ (chars b.result.now)
          (chars c.in-Some.after.now) _ _ _ (l.invariant.passed us a) c.in-Some.ensures.value b.ensures.chars
          (p.bytes ∙ ap (λ n. take l.end l.out ++ encode_utf8_all (restyled_text c.args.style c.args.kind n
          (chars b.result.now))) (c.lettered-byte.ensures.value
          ∙ ap (λ d. lettered (not d) c.ascii_of.result) c.represents_digit.ensures
          ∙ ap (lettered (not (represents_digit (unit_at c.args.kind (chars c.in-Some.after.now)))))
          c.ascii_of.ensures.value));
      room = omega (arith, l.invariant.room, ap (grown c.args.style) long, grown_add c.args.style (length b.result.now) (length c.in-Some.after.now), p.end);
      len = p.len ∙ l.invariant.len;
    }

pub returns-clause-bytes : goal.returns-clause-bytes
returns-clause-bytes c = λ us a. passed_end c.args.style c.args.kind us (chars c.loop-piece.rest.now) _ _
    (c.loop-piece.invariant.passed us a) (sym c.in_default.ensures.value)
