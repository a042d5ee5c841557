use Rattle.rl_syntax.proofs.Common.{◌≡◌, ◌∙◌, ◌+◌, ◌-◌, ◌∷◌, ◌++◌, ◌==◌, List, ℕ, Bool, true, false, length, take, ap, sym, append-nil, arith, rules, encode_utf8, encode_utf8_all, ne_eqb}
use Rattle.std.proofs.Common.{length-append}
use Rattle.std.specs.Str.{chars}
use Rattle.rl_syntax.specs.Spelling.{without_underscores}
use Rattle.rl_writing.specs.Integers.{group_size}
use Rattle.rl_style.specs.Cases.{number_character}
use Rattle.rl_style.specs.Groups.{ends, least_by}
use Rattle.rl_style.specs.Mirrors.{run_placed}
use Rattle.rl_style.proofs.GroupRows.{mark}
use Rattle.rl_style.proofs.Regrouped.{counted, placed_digit, placed_groups, placed_last, placed_skip, uncounted}
use Rattle.rl_style.proofs.WrittenNumbers.{one_more}
use Rattle.rl_style.proofs.groups.put_grouped.Goals as goal

pub loop-c-preserved-then-c-ne95 : goal.loop-c-preserved-then-c-ne95
loop-c-preserved-then-c-ne95 c =
    let l = c.loop-c in
    let s = c.in-Some.ensures in
    let d = c.put_digit-end.ensures in
    let first = c.in-Some.c in
    let m = c.args.manner in
    let f : ℕ → List ℕ = number_character m.style m.drops m.hex in
    let test : ℕ → Bool = ends c.args.from_first c.digit_group_size-size.result c.count_digits-count.result in
    let after : List ℕ = chars c.in-Some.after.now in
    let other : (first == 95) ≡ false = ne_eqb first 95 c.if-c-ne95.true in
    let count : l.left ≡ 1 + length (without_underscores after) = l.invariant.left
    ∙ ap (λ z. length (without_underscores z)) s.chars ∙ counted first after other in
    let less : l.left - 1 ≡ length (without_underscores after) = omega (arith, count) in
    let long : length l.rest.now ≡ length (encode_utf8 first) + length c.in-Some.after.now = ap length s.bytes
    ∙ length-append (encode_utf8 first) c.in-Some.after.now in
    record {
      utf8 = search rules;
      whole = one_more _ _ _ (f first ++ mark (test (length (without_underscores after)))) (run_placed f test after)
          (l.invariant.whole ∙ ap (λ z. take l.end l.out ++ encode_utf8_all (run_placed f test z)) s.chars
          ∙ ap (λ z. take l.end l.out ++ encode_utf8_all z) (placed_digit f test first after other))
          (d.bytes ∙ ap (λ b. take l.end l.out ++ encode_utf8_all (f first ++ mark b)) (c.ends.ensures ∙ ap test less));
      left = less;
      few = omega (arith, l.invariant.few);
      room = omega (arith, l.invariant.room, long, d.end);
      len = d.len ∙ l.invariant.len;
    }

pub loop-c-preserved-then-left-eq0 : goal.loop-c-preserved-then-left-eq0
loop-c-preserved-then-left-eq0 c =
    let l = c.loop-c in
    let s = c.in-Some.ensures in
    let d = c.put_character-end.ensures in
    let first = c.in-Some.c in
    let m = c.args.manner in
    let f : ℕ → List ℕ = number_character m.style m.drops m.hex in
    let test : ℕ → Bool = ends c.args.from_first c.digit_group_size-size.result c.count_digits-count.result in
    let after : List ℕ = chars c.in-Some.after.now in
    let under : (first == 95) ≡ true = ap (λ z. z == 95) c.if-c-ne95.false in
    let count : l.left ≡ length (without_underscores (first ∷ after)) = l.invariant.left
    ∙ ap (λ z. length (without_underscores z)) s.chars in
    let long : length l.rest.now ≡ length (encode_utf8 first) + length c.in-Some.after.now = ap length s.bytes
    ∙ length-append (encode_utf8 first) c.in-Some.after.now in
    let one : length (encode_utf8 first) ≡ length (encode_utf8 95) = ap (λ z. length (encode_utf8 z)) c.if-c-ne95.false
    in
    record {
      utf8 = search rules;
      whole = one_more _ _ _ (f 95) (run_placed f test after)
          (l.invariant.whole ∙ ap (λ z. take l.end l.out ++ encode_utf8_all (run_placed f test z)) s.chars
          ∙ ap (λ z. take l.end l.out ++ encode_utf8_all z) (placed_last f test first after under (sym count
          ∙ c.if-left-eq0.true))) d.bytes;
      left = count ∙ uncounted first after under;
      few = l.invariant.few;
      room = omega (arith, l.invariant.room, long, one, d.end);
      len = d.len ∙ l.invariant.len;
    }

pub loop-c-preserved : goal.loop-c-preserved
loop-c-preserved c =
    let l = c.loop-c in
    let s = c.in-Some.ensures in
    let first = c.in-Some.c in
    let m = c.args.manner in
    let f : ℕ → List ℕ = number_character m.style m.drops m.hex in
    let test : ℕ → Bool = ends c.args.from_first c.digit_group_size-size.result c.count_digits-count.result in
    let after : List ℕ = chars c.in-Some.after.now in
    let under : (first == 95) ≡ true = ap (λ z. z == 95) c.if-c-ne95.false in
    let count : l.left ≡ length (without_underscores (first ∷ after)) = l.invariant.left
    ∙ ap (λ z. length (without_underscores z)) s.chars in
    let long : length l.rest.now ≡ length (encode_utf8 first) + length c.in-Some.after.now = ap length s.bytes
    ∙ length-append (encode_utf8 first) c.in-Some.after.now in
    record {
      utf8 = search rules;
      whole = l.invariant.whole ∙ ap (λ z. take l.end l.out ++ encode_utf8_all (run_placed f test z)) s.chars
          ∙ ap (λ z. take l.end l.out ++ encode_utf8_all z) (placed_skip f test first after under
          (λ e. c.if-left-eq0.false (count ∙ e)));
      left = count ∙ uncounted first after under;
      few = l.invariant.few;
      room = omega (arith, l.invariant.room, long);
      len = l.invariant.len;
    }

pub returns-clause-bytes : goal.returns-clause-bytes
returns-clause-bytes c =
    let l = c.loop-c in
    let m = c.args.manner in
    let f : ℕ → List ℕ = number_character m.style m.drops m.hex in
    let test : ℕ → Bool = ends c.args.from_first c.digit_group_size-size.result c.count_digits-count.result in
    sym (l.invariant.whole
    ∙ ap (λ z. take l.end l.out ++ encode_utf8_all (run_placed f test z)) c.in_default.ensures.chars
    ∙ append-nil (take l.end l.out))
    ∙ ap (λ z. take c.args.at c.args.out.now ++ encode_utf8_all z) (placed_groups m.drops m.hex m.style.exponent_plus
    m.style.hex_digits m.style.exponent_letter c.args.from_first m.size (least_by m.style.digit_groups)
    c.digit_group_size-size.result c.count_digits-count.result (chars c.args.run.now) c.requires.no_plus
    (c.digit_group_size-size.ensures ∙ ap (λ n. group_size m.size n c.count_digits-count.result) c.least_digits.ensures)
    c.count_digits-count.ensures.digits)
