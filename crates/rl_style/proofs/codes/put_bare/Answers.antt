use Rattle.rl_syntax.proofs.Common.{◌≡◌, ◌∙◌, ◌+◌, ◌∷◌, [], ◌++◌, ◌==◌, length, take, ap, sym, append_assoc, arith, rules, encode_utf8, ne_eqb}
use Rattle.std.proofs.Common.{length-append}
use Rattle.std.specs.Str.{chars}
use Rattle.rl_style.proofs.CodeDigits.{bare_more, under_more}
use Rattle.rl_style.proofs.codes.put_bare.Goals as goal

pub loop-c-preserved-then-c-ne95 : goal.loop-c-preserved-then-c-ne95
loop-c-preserved-then-c-ne95 c =
    let l = c.loop-c in
    let (xs, cut, bytes) = l.invariant.passed in
    let s = c.in-Some.ensures in
    let d = c.put_char-end.ensures in
    let first = c.in-Some.c in
    let long : length l.rest.now ≡ length (encode_utf8 first) + length c.in-Some.after.now = ap length s.bytes
    ∙ length-append (encode_utf8 first) c.in-Some.after.now in
    record {
      utf8 = search rules;
      passed = (
        xs ++ (first ∷ []),
        cut ∙ ap (λ z. xs ++ z) s.chars
            ∙ sym (append_assoc xs (first ∷ []) (chars c.in-Some.after.now)),
        bare_more c.args.case _ _ _ xs first bytes (ne_eqb _ 95 c.if-c-ne95.true) (d.bytes
            ∙ ap (λ z. take l.end l.out ++ encode_utf8 z) c.cased.ensures.value),
      );
      room = omega (arith, l.invariant.room, long, d.end, c.cased.ensures.len);
      len = d.len ∙ l.invariant.len;
    }

pub loop-c-preserved : goal.loop-c-preserved
loop-c-preserved c =
    let l = c.loop-c in
    let (xs, cut, bytes) = l.invariant.passed in
    let s = c.in-Some.ensures in
    let first = c.in-Some.c in
    let long : length l.rest.now ≡ length (encode_utf8 first) + length c.in-Some.after.now = ap length s.bytes
    ∙ length-append (encode_utf8 first) c.in-Some.after.now in
    record {
      utf8 = search rules;
      passed = (
        xs ++ (first ∷ []),
        cut ∙ ap (λ z. xs ++ z) s.chars
            ∙ sym (append_assoc xs (first ∷ []) (chars c.in-Some.after.now)),
        under_more c.args.case _ _ xs first bytes (ap (λ z. z == 95) c.if-c-ne95.false),
      );
      room = omega (arith, l.invariant.room, long);
      len = l.invariant.len;
    }
