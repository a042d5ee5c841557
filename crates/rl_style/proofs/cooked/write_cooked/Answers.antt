use Rattle.rl_syntax.proofs.Common.{◌∙◌, length, ap, arith, encode_utf8}
use Rattle.rl_style.proofs.WrittenQuoted.{closer_length, cooked_room, cooked_written, joined}
use Rattle.rl_style.proofs.cooked.write_cooked.Goals as goal

pub put_text-at-requires : goal.put_text-at-requires
put_text-at-requires c =
    let whole = cooked_room c.args.style c.args.kind c.args.text.now c.args.inside.now c.args.suffix.now c.utf8.text c.utf8.inside
    c.utf8.suffix c.requires.parts in
    let opener = ap length c.opener.ensures in
    omega (arith, whole, opener, c.requires.room)

pub put_units-at-requires : goal.put_units-at-requires
put_units-at-requires c =
    let whole = cooked_room c.args.style c.args.kind c.args.text.now c.args.inside.now c.args.suffix.now c.utf8.text c.utf8.inside
    c.utf8.suffix c.requires.parts in
    let opener = ap length c.opener.ensures in
    let at = c.put_text-at.ensures in
    omega (arith, whole, opener, c.requires.room, at.end, at.len)

pub put_char-at-requires : goal.put_char-at-requires
put_char-at-requires c =
    let whole = cooked_room c.args.style c.args.kind c.args.text.now c.args.inside.now c.args.suffix.now c.utf8.text c.utf8.inside
    c.utf8.suffix c.requires.parts in
    let opener = ap length c.opener.ensures in
    let one = ap (λ z. length (encode_utf8 z)) c.quote.ensures.value ∙ closer_length c.args.kind in
    let at = c.put_text-at.ensures in
    let inside = c.put_units-at.ensures in
    omega (arith, whole, opener, one, c.requires.room, at.end, at.len, inside.end, inside.len)

pub put_text-requires : goal.put_text-requires
put_text-requires c =
    let whole = cooked_room c.args.style c.args.kind c.args.text.now c.args.inside.now c.args.suffix.now c.utf8.text c.utf8.inside
    c.utf8.suffix c.requires.parts in
    let opener = ap length c.opener.ensures in
    let one = ap (λ z. length (encode_utf8 z)) c.quote.ensures.value ∙ closer_length c.args.kind in
    let at = c.put_text-at.ensures in
    let inside = c.put_units-at.ensures in
    let closing = c.put_char-at.ensures in
    omega (
      arith,
      whole,
      opener,
      one,
      c.requires.room,
      at.end,
      at.len,
      inside.end,
      inside.len,
      closing.end,
      closing.len,
    )

pub returns-clause-written : goal.returns-clause-written
returns-clause-written c = (cooked_written c.args.style c.args.kind c.args.text.now c.args.inside.now c.args.suffix.now
    _
    c.utf8.inside c.utf8.suffix c.requires.parts (λ us a. joined _ _ _ _ _ _ _ _ _ c.put_text.ensures.bytes
    c.put_char-at.ensures.bytes c.quote.ensures.value (c.put_units-at.ensures.bytes us a)
    (c.put_text-at.ensures.bytes ∙ c.opener.ensures))).1

pub returns-clause-utf8 : goal.returns-clause-utf8
returns-clause-utf8 c = (cooked_written c.args.style c.args.kind c.args.text.now c.args.inside.now c.args.suffix.now _
    c.utf8.inside c.utf8.suffix c.requires.parts (λ us a. joined _ _ _ _ _ _ _ _ _ c.put_text.ensures.bytes
    c.put_char-at.ensures.bytes c.quote.ensures.value (c.put_units-at.ensures.bytes us a)
    (c.put_text-at.ensures.bytes ∙ c.opener.ensures))).0

pub returns-clause-within : goal.returns-clause-within
returns-clause-within c =
    let whole = cooked_room c.args.style c.args.kind c.args.text.now c.args.inside.now c.args.suffix.now c.utf8.text c.utf8.inside
    c.utf8.suffix c.requires.parts in
    let opener = ap length c.opener.ensures in
    let one = ap (λ z. length (encode_utf8 z)) c.quote.ensures.value ∙ closer_length c.args.kind in
    omega (
      arith,
      whole,
      opener,
      one,
      c.put_text-at.ensures.end,
      c.put_units-at.ensures.end,
      c.put_char-at.ensures.end,
      c.put_text.ensures.end,
    )
