use Rattle.rl_syntax.proofs.Common.{◌∙◌, ◌++◌, take, ap, arith, encode_utf8_all}
use Rattle.rl_style.specs.Mirrors.{digits_text}
use Rattle.rl_style.proofs.HiddenUnits.{put_code_chars, put_code_fits, put_code_utf8, text_short}
use Rattle.rl_style.proofs.hidden.put_styled_code.Goals as goal

pub put_code-end-requires : goal.put_code-end-requires
put_code-end-requires c = let s = text_short c.args.c c.ranges.c.0 in omega (arith, s)

pub put_digits-requires : goal.put_digits-requires
put_digits-requires c =
    let fits = put_code_fits c.args.c _ c.in-Ok.escape.now c.ranges.c.0 c.put_code-end.ensures.bytes
    c.in-Ok.ensures.cases.0 in
    omega (arith, fits, c.requires)

pub unreachable-requires : goal.unreachable-requires
unreachable-requires c = c.in-Err.ensures.cases.0 (put_code_utf8 c.args.c _ c.put_code-end.ensures.bytes)

pub returns-clause-end : goal.returns-clause-end
returns-clause-end c =
    let fits = put_code_fits c.args.c _ c.in-Ok.escape.now c.ranges.c.0 c.put_code-end.ensures.bytes
    c.in-Ok.ensures.cases.0 in
    omega (arith, fits, c.put_digits.ensures.end)

pub returns-clause-bytes : goal.returns-clause-bytes
returns-clause-bytes c = c.put_digits.ensures.bytes
    ∙ ap (λ z. take c.args.at c.args.out.now ++ encode_utf8_all (digits_text c.args.style z))
    (put_code_chars c.args.c _ c.in-Ok.escape.now c.put_code-end.ensures.bytes c.in-Ok.ensures.cases.0)
