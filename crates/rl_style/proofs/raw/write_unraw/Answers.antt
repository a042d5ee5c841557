use Rattle.rl_syntax.proofs.Common.{◌∙◌, length, ap, arith}
use Rattle.std.specs.Str.{chars}
use Rattle.rl_style.proofs.WrittenUnraw.{unraw_pieces, unraw_room, unraw_written}
use Rattle.rl_style.proofs.raw.write_unraw.Goals as goal

pub put_text-at-requires : goal.put_text-at-requires
put_text-at-requires c =
    let room = unraw_room c.args.style c.args.kind c.args.text.now c.args.inside.now c.args.suffix.now c.utf8.text c.utf8.inside
    c.utf8.suffix c.requires.parts in
    omega (arith, room, ap length c.opener.ensures, c.requires.room)

pub put_inside-at-requires-clause-bare : goal.put_inside-at-requires-clause-bare
put_inside-at-requires-clause-bare c = c.requires.bare

pub put_inside-at-requires-clause-room : goal.put_inside-at-requires-clause-room
put_inside-at-requires-clause-room c =
    let room = unraw_room c.args.style c.args.kind c.args.text.now c.args.inside.now c.args.suffix.now c.utf8.text c.utf8.inside
    c.utf8.suffix c.requires.parts in
    let at = c.put_text-at.ensures in
    omega (arith, room, ap length c.opener.ensures, c.requires.room, at.end, at.len)

pub put_byte-at-requires : goal.put_byte-at-requires
put_byte-at-requires c =
    let room = unraw_room c.args.style c.args.kind c.args.text.now c.args.inside.now c.args.suffix.now c.utf8.text c.utf8.inside
    c.utf8.suffix c.requires.parts in
    let at = c.put_text-at.ensures in
    let inside = c.put_inside-at.ensures in
    omega (arith, room, ap length c.opener.ensures, c.requires.room, at.end, at.len, inside.end, inside.len)

pub put_text-requires : goal.put_text-requires
put_text-requires c =
    let room = unraw_room c.args.style c.args.kind c.args.text.now c.args.inside.now c.args.suffix.now c.utf8.text c.utf8.inside
    c.utf8.suffix c.requires.parts in
    let at = c.put_text-at.ensures in
    let inside = c.put_inside-at.ensures in
    let quote = c.put_byte-at.ensures in
    omega (
      arith,
      room,
      ap length c.opener.ensures,
      c.requires.room,
      at.end,
      at.len,
      inside.end,
      inside.len,
      quote.end,
      quote.len,
    )

pub returns-clause-written : goal.returns-clause-written
returns-clause-written c = (unraw_written c.args.style c.args.kind (chars c.args.text.now) c.args.inside.now
    c.args.suffix.now _
    c.utf8.inside c.utf8.suffix c.requires.parts (unraw_pieces _ _ _ _ _ _ _ c.put_text.ensures.bytes
    c.put_byte-at.ensures.bytes c.put_inside-at.ensures.bytes (c.put_text-at.ensures.bytes ∙ c.opener.ensures))).1

pub returns-clause-utf8 : goal.returns-clause-utf8
returns-clause-utf8 c = (unraw_written c.args.style c.args.kind (chars c.args.text.now) c.args.inside.now
    c.args.suffix.now _
    c.utf8.inside c.utf8.suffix c.requires.parts (unraw_pieces _ _ _ _ _ _ _ c.put_text.ensures.bytes
    c.put_byte-at.ensures.bytes c.put_inside-at.ensures.bytes (c.put_text-at.ensures.bytes ∙ c.opener.ensures))).0

pub returns-clause-within : goal.returns-clause-within
returns-clause-within c =
    let room = unraw_room c.args.style c.args.kind c.args.text.now c.args.inside.now c.args.suffix.now c.utf8.text c.utf8.inside
    c.utf8.suffix c.requires.parts in
    omega (
      arith,
      room,
      ap length c.opener.ensures,
      c.put_text-at.ensures.end,
      c.put_inside-at.ensures.end,
      c.put_byte-at.ensures.end,
      c.put_text.ensures.end,
    )
