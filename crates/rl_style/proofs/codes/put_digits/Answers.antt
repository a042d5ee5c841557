use Rattle.rl_syntax.proofs.Common.{◌≡◌, ◌∙◌, ◌++◌, Bool, true, false, not, take, refl, ap, sym, arith, rules, encode_utf8_all}
use Rattle.rl_style.proofs.UnitTexts.{cased_code, code_written, opened_length}
use Rattle.rl_style.proofs.codes.put_digits.Goals as goal

pub put_text-end-requires : goal.put_text-end-requires
put_text-end-requires c =
    let long = opened_length c.args.unit.now c.in-Some.inside.now _ c.utf8.unit (search rules) refl
    c.in-Some.ensures.some in
    omega (arith, long, c.requires)

pub put_code-requires : goal.put_code-requires
put_code-requires c =
    let long = opened_length c.args.unit.now c.in-Some.inside.now _ c.utf8.unit (search rules) refl
    c.in-Some.ensures.some in
    let end = c.put_text-end.ensures in
    omega (arith, long, c.requires, end.end, end.len)

pub returns-in-Some-clause-end : goal.returns-in-Some-clause-end
returns-in-Some-clause-end c =
    let long = opened_length c.args.unit.now c.in-Some.inside.now _ c.utf8.unit (search rules) refl
    c.in-Some.ensures.some in
    omega (arith, long, c.put_text-end.ensures.end, c.put_code.ensures.end)

pub returns-in-Some-clause-bytes : goal.returns-in-Some-clause-bytes
returns-in-Some-clause-bytes c = code_written c.args.style c.args.unit.now c.in-Some.inside.now _ _ _ _
    (not-false _ c.if-not-style.false) refl c.in-Some.ensures.some c.put_text-end.ensures.bytes
    c.put_code.ensures.bytes
  where
    not-false : (b : Bool) → not b ≡ false → b ≡ true
    not-false true h = refl
    not-false false h = absurd (cc)

pub returns-in-None-clause-bytes : goal.returns-in-None-clause-bytes
returns-in-None-clause-bytes c = c.put_cased-in-None.ensures.bytes
    ∙ ap (λ z. take c.args.at c.args.out.now ++ encode_utf8_all z)
    (sym (cased_code c.args.style c.args.unit.now _ refl c.in-None.ensures.none))
