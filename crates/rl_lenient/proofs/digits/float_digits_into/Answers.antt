use Rattle.rl_syntax.proofs.Common.{◌≡◌, ◌∙◌, ◌+◌, ◌∷◌, [], ◌++◌, length, ap, sym, append_assoc, append-nil, arith, rules, encode_utf8, encode_utf8_all}
use Rattle.rl_lenient.proofs.Names.{float_digits}
use Rattle.std.proofs.Common.{length-append}
use Rattle.std.specs.Str.{chars}
use Rattle.rl_lenient.proofs.DigitLemmas.{plain_more}
use Rattle.rl_lenient.proofs.RoomLemmas.{digits_text}
use Rattle.rl_lenient.proofs.digits.float_digits_into.Goals as goal

pub loop-c-preserved : goal.loop-c-preserved
loop-c-preserved c =
    let l = c.loop-c in
    let (xs, cut, bytes) = l.invariant.passed in
    let s = c.in-Some.ensures in
    let d = c.put_digit-at.ensures in
    let first = c.in-Some.c in
    let long : length l.rest.now ≡ length (encode_utf8 first) + length c.in-Some.after.now = ap length s.bytes
    ∙ length-append (encode_utf8 first) c.in-Some.after.now in
    record {
      utf8 = search rules;
      passed = (
        xs ++ (first ∷ []),
        cut ∙ ap (λ z. xs ++ z) s.chars
            ∙ sym (append_assoc xs (first ∷ []) (chars c.in-Some.after.now)),
        plain_more _ _ xs first bytes d.bytes,
      );
      room = omega (arith, l.invariant.room, long, d.end);
      len = d.len ∙ l.invariant.len;
    }

pub returns-clause-digits : goal.returns-clause-digits
returns-clause-digits c =
    let (xs, cut, bytes) = c.loop-c.invariant.passed in
    let whole = cut ∙ ap (λ z. xs ++ z) c.in_default.ensures.chars ∙ append-nil xs in
    (digits_text c.args.numeral.now _ c.utf8.numeral (bytes ∙ ap (λ z. encode_utf8_all (float_digits z)) (sym whole))).1

pub returns-clause-utf8 : goal.returns-clause-utf8
returns-clause-utf8 c =
    let (xs, cut, bytes) = c.loop-c.invariant.passed in
    let whole = cut ∙ ap (λ z. xs ++ z) c.in_default.ensures.chars ∙ append-nil xs in
    (digits_text c.args.numeral.now _ c.utf8.numeral (bytes ∙ ap (λ z. encode_utf8_all (float_digits z)) (sym whole))).0
