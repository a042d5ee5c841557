use Rattle.rl_syntax.proofs.Common.{◌≡◌, ◌==◌, ◌∙◌, ℕ, List, ap, arith, cond, length, list_any, not}
use Rattle.std.specs.Str.{chars}
use Rattle.rl_flaws.specs.FloatRange.{digits_only}
use Rattle.rl_flaws.specs.Mirrors.Floats.{not_below, without_zeros}
use Rattle.rl_flaws.proofs.FloatLemmas.{bound_chars, measured, none_reach, ours_of, reach_less, reach_more, reach_same}
use Rattle.rl_flaws.proofs.float_range.reaches.Goals as goal

pub returns-then-count-eq0-clause-no : goal.returns-then-count-eq0-clause-no
returns-then-count-eq0-clause-no c = λ e. none_reach (chars c.args.numeral.now) c.args.bound.now
    c.count_digits-count.result c.requires.bound (c.count_digits-count.ensures.count
    ∙ ap length (c.skip_zeros-digits.ensures ∙ ap (λ z. without_zeros (digits_only z)) c.split_letter.ensures.before))
    c.if-count-eq0.true

pub returns-then-ours-least-clause-yes : goal.returns-then-ours-least-clause-yes
returns-then-ours-least-clause-yes c =
    let n : List ℕ = chars c.args.numeral.now in
    let s = measured n c.args.bound.now _ _ _ _ c.count_digits-count.result c.count_digits-places.result
    c.capped_value-power.result c.requires.bound c.requires.short c.split_letter.ensures.before
    c.split_letter.ensures.after c.skip_zeros-digits.ensures c.count_digits-count.ensures.count
    c.if-count-eq0.false c.after_point.ensures c.count_digits-places.ensures.count
    c.capped_value-power.ensures.value c.count_digits-count.ensures.fits c.count_digits-places.ensures.fits in
    let minus = c.has_minus-is_divided.ensures ∙ ap (list_any (λ (z : ℕ). z == 45)) c.split_letter.ensures.after in
    let up = c.value_if.ensures ∙ ap (λ m. cond (not m) c.capped_value-power.result 0) minus in
    let down = c.value_if-2.ensures ∙ ap (λ m. cond m c.capped_value-power.result 0) minus in
    λ e. reach_more n c.args.bound.now c.count_digits-count.result c.count_digits-places.result
    c.capped_value-power.result s
    (omega (arith, c.if-ours-least.true, up, down))

pub returns-then-ours-least-2-clause-no : goal.returns-then-ours-least-2-clause-no
returns-then-ours-least-2-clause-no c =
    let n : List ℕ = chars c.args.numeral.now in
    let s = measured n c.args.bound.now _ _ _ _ c.count_digits-count.result c.count_digits-places.result
    c.capped_value-power.result c.requires.bound c.requires.short c.split_letter.ensures.before
    c.split_letter.ensures.after c.skip_zeros-digits.ensures c.count_digits-count.ensures.count
    c.if-count-eq0.false c.after_point.ensures c.count_digits-places.ensures.count
    c.capped_value-power.ensures.value c.count_digits-count.ensures.fits c.count_digits-places.ensures.fits in
    let minus = c.has_minus-is_divided.ensures ∙ ap (list_any (λ (z : ℕ). z == 45)) c.split_letter.ensures.after in
    let up = c.value_if.ensures ∙ ap (λ m. cond (not m) c.capped_value-power.result 0) minus in
    let down = c.value_if-2.ensures ∙ ap (λ m. cond m c.capped_value-power.result 0) minus in
    λ e. reach_less n c.args.bound.now c.count_digits-count.result c.count_digits-places.result
    c.capped_value-power.result s
    (omega (arith, c.if-ours-least-2.true, up, down))

pub returns-clause-yes : goal.returns-clause-yes
returns-clause-yes c =
    let n : List ℕ = chars c.args.numeral.now in
    let s = measured n c.args.bound.now _ _ _ _ c.count_digits-count.result c.count_digits-places.result
    c.capped_value-power.result c.requires.bound c.requires.short c.split_letter.ensures.before
    c.split_letter.ensures.after c.skip_zeros-digits.ensures c.count_digits-count.ensures.count
    c.if-count-eq0.false c.after_point.ensures c.count_digits-places.ensures.count
    c.capped_value-power.ensures.value c.count_digits-count.ensures.fits c.count_digits-places.ensures.fits in
    let minus = c.has_minus-is_divided.ensures ∙ ap (list_any (λ (z : ℕ). z == 45)) c.split_letter.ensures.after in
    let up = c.value_if.ensures ∙ ap (λ m. cond (not m) c.capped_value-power.result 0) minus in
    let down = c.value_if-2.ensures ∙ ap (λ m. cond m c.capped_value-power.result 0) minus in
    let below : c.is_not_below.result ≡ not_below (ours_of n) c.args.bound.now = c.is_not_below.ensures
    ∙ ap (λ z. not_below z (chars c.args.bound.now)) (c.skip_zeros-digits.ensures
    ∙ ap (λ z. without_zeros (digits_only z)) c.split_letter.ensures.before)
    ∙ ap (λ z. not_below (ours_of n) z) (bound_chars c.args.bound.now c.requires.bound) in
    (reach_same n c.args.bound.now c.count_digits-count.result c.count_digits-places.result
    c.capped_value-power.result s
    (omega (arith, c.if-ours-least.false, c.if-ours-least-2.false, up, down)) c.is_not_below.result below).0

pub returns-clause-no : goal.returns-clause-no
returns-clause-no c =
    let n : List ℕ = chars c.args.numeral.now in
    let s = measured n c.args.bound.now _ _ _ _ c.count_digits-count.result c.count_digits-places.result
    c.capped_value-power.result c.requires.bound c.requires.short c.split_letter.ensures.before
    c.split_letter.ensures.after c.skip_zeros-digits.ensures c.count_digits-count.ensures.count
    c.if-count-eq0.false c.after_point.ensures c.count_digits-places.ensures.count
    c.capped_value-power.ensures.value c.count_digits-count.ensures.fits c.count_digits-places.ensures.fits in
    let minus = c.has_minus-is_divided.ensures ∙ ap (list_any (λ (z : ℕ). z == 45)) c.split_letter.ensures.after in
    let up = c.value_if.ensures ∙ ap (λ m. cond (not m) c.capped_value-power.result 0) minus in
    let down = c.value_if-2.ensures ∙ ap (λ m. cond m c.capped_value-power.result 0) minus in
    let below : c.is_not_below.result ≡ not_below (ours_of n) c.args.bound.now = c.is_not_below.ensures
    ∙ ap (λ z. not_below z (chars c.args.bound.now)) (c.skip_zeros-digits.ensures
    ∙ ap (λ z. without_zeros (digits_only z)) c.split_letter.ensures.before)
    ∙ ap (λ z. not_below (ours_of n) z) (bound_chars c.args.bound.now c.requires.bound) in
    (reach_same n c.args.bound.now c.count_digits-count.result c.count_digits-places.result
    c.capped_value-power.result s
    (omega (arith, c.if-ours-least.false, c.if-ours-least-2.false, up, down)) c.is_not_below.result below).1
