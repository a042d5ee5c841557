use Rattle.rl_syntax.proofs.Common.{◌≤◌, ◌-◌, ◌||◌, not, ◌==◌, length, get_or, sym, ap, ◌∙◌, arith}
use Rattle.rl_style.proofs.FrontEnds.{empty_ends, ends_by_byte}
use Rattle.rl_style.proofs.raw.may_precede_quote.Goals as goal

pub returns-in-empty : goal.returns-in-empty
returns-in-empty c = empty_ends c.args.front.now
    (let e = ap length c.as_bytes.ensures.value in omega (arith, e, c.in-empty.len_below))

pub returns-in-len1-up : goal.returns-in-len1-up
returns-in-len1-up c =
    let same = c.as_bytes.ensures.value in
    let long = ap length same in
    let some : 1 ≤ length c.args.front.now = omega (arith, long, c.in-len1-up.len_at_least) in
    ap not (c.is_hash_or_dot.ensures
    ∙ ap (λ z. get_or z (length z - 1) 0 == 35 || get_or z (length z - 1) 0 == 46) same)
    ∙ sym (ends_by_byte c.args.front.now c.utf8.front some)
