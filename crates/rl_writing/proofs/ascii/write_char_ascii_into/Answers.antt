use Rattle.rl_syntax.proofs.Common.{◌∷◌, [], ◌∙◌, ap, length, refl, arith, and_from}
use Rattle.rl_syntax.specs.declared.kind.Kind.TheVariants.{Char}
use Rattle.rl_writing.proofs.AsciiLaws.{char_fine, char_form, form_of, form_utf8, literal_pieces, one_piece}
use Rattle.rl_writing.proofs.ascii.write_char_ascii_into.Goals as goal

pub put_ascii-at-requires-clause-room : goal.put_ascii-at-requires-clause-room
put_ascii-at-requires-clause-room c =
    let f = char_fine c.args.value c.ranges.value.0 in
    omega (arith, f.short, c.requires, c.put_text-at.ensures.end, c.put_text-at.ensures.len, ap length c.opener.ensures)

pub put_byte-requires : goal.put_byte-requires
put_byte-requires c =
    let f = char_fine c.args.value c.ranges.value.0 in
    omega (
      arith,
      f.short,
      c.requires,
      c.put_text-at.ensures.end,
      c.put_text-at.ensures.len,
      ap length c.opener.ensures,
      c.put_ascii-at.ensures.end,
      c.put_ascii-at.ensures.len,
    )

pub returns-clause-within : goal.returns-clause-within
returns-clause-within c =
    let f = char_fine c.args.value c.ranges.value.0 in
    omega (
      arith,
      f.short,
      c.put_text-at.ensures.end,
      ap length c.opener.ensures,
      c.put_ascii-at.ensures.end,
      c.put_byte.ensures.end,
    )

pub returns-clause-written : goal.returns-clause-written
returns-clause-written c =
    let v = c.args.value ∷ [] in
    let form = char_form v (and_from _ _ c.ranges.value.0 refl) refl in
    form_of Char v _ form (literal_pieces Char v _ _ (one_piece Char c.args.value _ _
    (c.put_text-at.ensures.bytes ∙ c.opener.ensures) c.put_ascii-at.ensures.bytes) c.put_byte.ensures.bytes)

pub returns-clause-utf8 : goal.returns-clause-utf8
returns-clause-utf8 c =
    let v = c.args.value ∷ [] in
    let form = char_form v (and_from _ _ c.ranges.value.0 refl) refl in
    form_utf8 Char v _ form (literal_pieces Char v _ _ (one_piece Char c.args.value _ _
    (c.put_text-at.ensures.bytes ∙ c.opener.ensures) c.put_ascii-at.ensures.bytes) c.put_byte.ensures.bytes)
