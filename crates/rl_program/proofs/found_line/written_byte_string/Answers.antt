use Rattle.rl_lenient.proofs.Names.{ByteStr, Bytes, is_string}
use Rattle.rl_syntax.proofs.Common.{ap, chars, inl, refl}
use Rattle.rl_fronts.proofs.ByteContents.{plain_contents_bytes}
use Rattle.rl_program.proofs.FoundLineLemmas.{written_shown}
use Rattle.rl_program.proofs.found_line.written_byte_string.Goals as goal

pub returns-then-found : goal.returns-then-found
returns-then-found g c =
    let kind = c.args.found.now.kind in
    let has = plain_contents_bytes kind c.args.text.now c.body_in-body.result.now c.args.found.now.body.plain
    (inl c.requires.kind) c.if-found.true (c.body_in-body.ensures.string c.requires.found
    (ap is_string c.requires.kind)) c.body_in-body.utf8 in
    written_shown c.byte_string.result kind ByteStr (chars c.args.text.now) c.as_bytes.result.now
    (Bytes c.as_bytes.result.now) c.requires.kind refl (rw c.as_bytes.ensures.value has) c.byte_string.ensures.text

pub returns : goal.returns
returns g c =
    let has = c.in_ok-value.ensures.value (chars c.args.text.now)
    (c.body_in-body.ensures.string c.requires.found (ap is_string c.requires.kind)) in
    written_shown c.byte_string-2.result c.args.found.now.kind ByteStr (chars c.args.text.now) c.as_slice.result.now
    (Bytes c.as_slice.result.now) c.requires.kind refl (rw c.as_slice.ensures.value has)
    c.byte_string-2.ensures.text
