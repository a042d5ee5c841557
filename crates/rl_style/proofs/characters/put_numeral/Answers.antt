use Rattle.rl_syntax.proofs.Common.{◌≡◌, ◌∙◌, ◌+◌, ◌++◌, length, take, flat_map, ap, arith, rules, encode_utf8, encode_utf8_all}
use Rattle.std.proofs.Common.{length-append}
use Rattle.std.specs.Str.{chars}
use Rattle.rl_style.specs.Cases.{number_character}
use Rattle.rl_style.proofs.WrittenNumbers.{one_more}
use Rattle.rl_style.proofs.characters.put_numeral.Goals as goal

pub loop-c-preserved : goal.loop-c-preserved
loop-c-preserved c =
    let l = c.loop-c in
    let s = c.in-Some.ensures in
    let d = c.put_character-end.ensures in
    let first = c.in-Some.c in
    let m = c.args.manner in
    let long : length l.rest.now ≡ length (encode_utf8 first) + length c.in-Some.after.now = ap length s.bytes
    ∙ length-append (encode_utf8 first) c.in-Some.after.now in
    record {
      utf8 = search rules;
      whole = one_more _ _ _ (number_character m.style m.drops m.hex first)
          (flat_map (number_character m.style m.drops m.hex) (chars c.in-Some.after.now))
          (l.invariant.whole ∙ ap (λ z. take l.end l.out
          ++ encode_utf8_all (flat_map (number_character m.style m.drops m.hex) z)) s.chars) d.bytes;
      room = omega (arith, l.invariant.room, long, d.end);
      len = d.len ∙ l.invariant.len;
    }
