use Rattle.rl_syntax.proofs.Common.{◌≡◌, ◌∙◌, ◌+◌, ◌∷◌, [], ◌++◌, length, ap, sym, append_assoc, arith, rules, encode_utf8, encode_utf8_all, not, take}
use Rattle.std.proofs.Common.{length-append}
use Rattle.std.specs.Str.{chars}
use Rattle.rl_style.specs.Mirrors.{raw_character}
use Rattle.rl_style.proofs.WrittenUnraw.{raw_all, raw_more}
use Rattle.rl_style.proofs.raw.put_raw_inside.Goals as goal

pub loop-c-preserved : goal.loop-c-preserved
loop-c-preserved c =
    let l = c.loop-c in
    let (xs, cut, bytes) = l.invariant.passed in
    let s = c.in-Some.ensures in
    let d = c.put_raw_character-end.ensures in
    let first = c.in-Some.c in
    let long : length l.rest.now ≡ length (encode_utf8 first) + length c.in-Some.after.now = ap length s.bytes
    ∙ length-append (encode_utf8 first) c.in-Some.after.now in
    record {
      utf8 = search rules;
      passed = (
        xs ++ (first ∷ []),
        cut ∙ ap (λ z. xs ++ z) s.chars
            ∙ sym (append_assoc xs (first ∷ []) (chars c.in-Some.after.now)),
        raw_more c.args.style _ _ _ xs (chars l.rest.now) (chars c.in-Some.after.now) first s.chars bytes (d.bytes
            ∙ ap (λ b. take l.end l.out ++ encode_utf8_all (raw_character c.args.style (not b) first))
            c.begins_digit.ensures),
      );
      room = omega (arith, l.invariant.room, long, d.end);
      len = d.len ∙ l.invariant.len;
    }

pub returns-clause-bytes : goal.returns-clause-bytes
returns-clause-bytes c =
    let (xs, cut, bytes) = c.loop-c.invariant.passed in
    raw_all c.args.style _ _ xs _ _ cut c.in_default.ensures.chars bytes
