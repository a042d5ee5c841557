use Rattle.rl_syntax.proofs.Common.{◌∙◌, ◌∷◌, [], ◌++◌, ap, length, length-append, sym, append_assoc, arith, rules, encode_utf8, chars}
use Rattle.std.proofs.lemmas.Str.{scalars-chars}
use Rattle.rl_syntax.specs.declared.kind.Kind.TheVariants.{Str}
use Rattle.rl_writing.proofs.AsciiLaws.{first_scalar, form_of, form_utf8, piece_more, str_fine, str_form, whole_pieces}
use Rattle.rl_writing.proofs.ascii.write_str_ascii_into.Goals as goal

pub put_ascii-at-requires-clause-room : goal.put_ascii-at-requires-clause-room
put_ascii-at-requires-clause-room c =
    let l = c.loop-c in
    let s = c.in-Some.ensures in
    let f = str_fine c.in-Some.c (first_scalar l.rest.now _ c.in-Some.c l.invariant.utf8 s.chars) in
    let whole = ap length s.bytes ∙ length-append (encode_utf8 c.in-Some.c) c.in-Some.after.now in
    omega (arith, f.fits, whole, l.invariant.room, l.invariant.len, c.put_text-at.ensures.len, c.requires)

pub loop-c-preserved : goal.loop-c-preserved
loop-c-preserved c =
    let l = c.loop-c in
    let (xs, cut, bytes) = l.invariant.passed in
    let s = c.in-Some.ensures in
    let w = c.put_ascii-at.ensures in
    let first = c.in-Some.c in
    let f = str_fine first (first_scalar l.rest.now _ first l.invariant.utf8 s.chars) in
    let whole = ap length s.bytes ∙ length-append (encode_utf8 first) c.in-Some.after.now in
    record {
      utf8 = search rules;
      passed = (
        xs ++ (first ∷ []),
        cut ∙ ap (λ z. xs ++ z) s.chars ∙ sym (append_assoc xs (first ∷ []) (chars c.in-Some.after.now)),
        piece_more Str xs _ _ first bytes w.bytes,
      );
      room = omega (arith, l.invariant.room, whole, f.fits, w.end);
      len = w.len ∙ l.invariant.len;
    }

pub returns-clause-written : goal.returns-clause-written
returns-clause-written c =
    let (xs, cut, bytes) = c.loop-c.invariant.passed in
    let value = chars c.args.value.now in
    form_of Str value _ (str_form value (scalars-chars c.args.value.now c.utf8.value))
    (whole_pieces Str xs _ value _ _ cut c.in_default.ensures.chars bytes c.put_byte.ensures.bytes)

pub returns-clause-utf8 : goal.returns-clause-utf8
returns-clause-utf8 c =
    let (xs, cut, bytes) = c.loop-c.invariant.passed in
    let value = chars c.args.value.now in
    form_utf8 Str value _ (str_form value (scalars-chars c.args.value.now c.utf8.value))
    (whole_pieces Str xs _ value _ _ cut c.in_default.ensures.chars bytes c.put_byte.ensures.bytes)
