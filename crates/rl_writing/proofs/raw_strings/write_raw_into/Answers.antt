use Rattle.rl_writing.proofs.RawLaws.{raw_chars, raw_pieces, raw_utf8}
use Rattle.rl_writing.proofs.raw_strings.write_raw_into.Goals as goal

pub returns-clause-written : goal.returns-clause-written
returns-clause-written c =
    let pieces = raw_pieces c.args.kind c.args.hashes _ _ _ _ _ _ _ _ c.raw_opener.ensures.text
    c.put_text-at.ensures.bytes c.put_hashes-at.ensures.bytes c.put_byte-at.ensures.bytes
    c.put_text-at-2.ensures.bytes c.put_byte-at-2.ensures.bytes c.put_hashes.ensures.bytes in
    raw_chars c.args.kind c.args.hashes c.args.text.now _ c.requires.kind c.utf8.text pieces

pub returns-clause-utf8 : goal.returns-clause-utf8
returns-clause-utf8 c =
    let pieces = raw_pieces c.args.kind c.args.hashes _ _ _ _ _ _ _ _ c.raw_opener.ensures.text
    c.put_text-at.ensures.bytes c.put_hashes-at.ensures.bytes c.put_byte-at.ensures.bytes
    c.put_text-at-2.ensures.bytes c.put_byte-at-2.ensures.bytes c.put_hashes.ensures.bytes in
    raw_utf8 c.args.kind c.args.hashes c.args.text.now _ c.requires.kind c.utf8.text pieces
