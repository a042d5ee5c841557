use Rattle.rl_syntax.proofs.Common.{◌≡◌, ◌∙◌, ◌+◌, ◌∷◌, [], ◌++◌, length, take, ap, sym, append_assoc, arith, rules, encode_utf8}
use Rattle.std.proofs.Common.{length-append}
use Rattle.std.specs.Str.{chars}
use Rattle.rl_style.proofs.CaseLemmas.{cased_more}
use Rattle.rl_style.proofs.case.put_cased.Goals as goal

pub loop-c-preserved : goal.loop-c-preserved
loop-c-preserved c =
    let l = c.loop-c in
    let (xs, cut, bytes) = l.invariant.passed in
    let s = c.in-Some.ensures in
    let d = c.put_char-end.ensures in
    let first = c.in-Some.c in
    let long : length l.rest.now ≡ length (encode_utf8 first) + length c.in-Some.after.now = ap length s.bytes
    ∙ length-append (encode_utf8 first) c.in-Some.after.now in
    record {
      utf8 = search rules;
      passed = (
        xs ++ (first ∷ []),
        cut ∙ ap (λ z. xs ++ z) s.chars
            ∙ sym (append_assoc xs (first ∷ []) (chars c.in-Some.after.now)),
        cased_more c.args.case _ _ _ xs first bytes (d.bytes
            ∙ ap (λ z. take l.end l.out ++ encode_utf8 z) c.cased.ensures.value),
      );
      room = omega (arith, l.invariant.room, long, d.end, c.cased.ensures.len);
      len = d.len ∙ l.invariant.len;
    }
