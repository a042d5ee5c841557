use Rattle.rl_syntax.proofs.Common.{length, ◌∙◌, sym, ap, arith, not-true}
use Rattle.std.specs.Str.{chars}
use Rattle.rl_style.proofs.Room.{bare_if_shown, grown_least, not-false}
use Rattle.rl_style.proofs.WrittenQuoted.{raw_kept, raw_lost, raw_room, raw_stands, raw_trimmed}
use Rattle.rl_style.proofs.raw.write_raw.Goals as goal

pub returns-then-not-style-clause-written : goal.returns-then-not-style-clause-written
returns-then-not-style-clause-written c = raw_kept c.args.style c.args.kind (chars c.args.front.now)
    (chars c.args.text.now)
    (chars c.args.inside.now)
    (chars c.args.suffix.now) _ c.requires.parts (sym c.loses_raw.ensures ∙ c.if-loses_raw.false)
    (not-true c.args.style.raw_hashes c.if-not-style.true)
    (ap chars c.put_text.ensures.bytes)

pub returns-then-loses_raw-clause-written : goal.returns-then-loses_raw-clause-written
returns-then-loses_raw-clause-written c = raw_lost c.args.style c.args.kind (chars c.args.front.now)
    (chars c.args.text.now) (chars c.args.inside.now) (chars c.args.suffix.now) _ c.requires.parts
    (sym c.loses_raw.ensures ∙ c.if-loses_raw.true) c.write_unraw.ensures.written

pub write_unraw-requires-clause-bare : goal.write_unraw-requires-clause-bare
write_unraw-requires-clause-bare c = λ shows. bare_if_shown c.args.style c.args.kind (chars c.args.front.now)
    (chars c.args.inside.now) (sym c.loses_raw.ensures ∙ c.if-loses_raw.true) shows

pub put_text-requires : goal.put_text-requires
put_text-requires c = omega (arith, grown_least c.args.style (length c.args.text.now), c.requires.room)

pub returns-then-not-style-clause-within : goal.returns-then-not-style-clause-within
returns-then-not-style-clause-within c =
    omega (arith, grown_least c.args.style (length c.args.text.now), c.put_text.ensures.end)

pub unreachable-requires : goal.unreachable-requires
unreachable-requires c = raw_stands c.args.kind (chars c.args.text.now) (chars c.args.inside.now)
    (chars c.args.suffix.now)
    c.requires.parts c.in_default.ensures.none

pub write_raw_into-at-requires-clause-room : goal.write_raw_into-at-requires-clause-room
write_raw_into-at-requires-clause-room c =
    let room = raw_room c.args.kind c.args.text.now c.args.inside.now c.args.suffix.now c.in-Some.hashes c.utf8.text
    c.utf8.inside c.utf8.suffix c.requires.parts c.in-Some.ensures.some in
    omega (arith, room, grown_least c.args.style (length c.args.text.now), c.requires.room)

pub put_text-requires-2 : goal.put_text-requires-2
put_text-requires-2 c =
    let room = raw_room c.args.kind c.args.text.now c.args.inside.now c.args.suffix.now c.in-Some.hashes c.utf8.text
    c.utf8.inside c.utf8.suffix c.requires.parts c.in-Some.ensures.some in
    omega (arith, room, grown_least c.args.style (length c.args.text.now), c.requires.room, c.write_raw_into-at.ensures.within, c.write_raw_into-at.auto.out)

pub returns-clause-written : goal.returns-clause-written
returns-clause-written c = raw_trimmed c.args.style c.args.kind (chars c.args.front.now) (chars c.args.text.now)
    (chars c.args.inside.now)
    c.args.suffix.now _ _ c.in-Some.hashes c.write_raw_into-at.ensures.utf8 c.requires.parts
    (sym c.loses_raw.ensures ∙ c.if-loses_raw.false)
    (not-false c.args.style.raw_hashes c.if-not-style.false) c.in-Some.ensures.some c.write_raw_into-at.ensures.written
    c.put_text-2.ensures.bytes

pub returns-clause-within : goal.returns-clause-within
returns-clause-within c =
    let room = raw_room c.args.kind c.args.text.now c.args.inside.now c.args.suffix.now c.in-Some.hashes c.utf8.text
    c.utf8.inside c.utf8.suffix c.requires.parts c.in-Some.ensures.some in
    omega (arith, room, grown_least c.args.style (length c.args.text.now), c.write_raw_into-at.ensures.within, c.put_text-2.ensures.end)
