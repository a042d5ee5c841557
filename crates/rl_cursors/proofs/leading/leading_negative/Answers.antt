use Rattle.rl_syntax.proofs.Common.{refl}
use Rattle.rl_syntax.proofs.TailLemmas.{tail_step}
use Rattle.rl_cursors.proofs.LeadingLemmas.{if_none, minus_bytes, negative, no_minus, no_number, no_sum}
use Rattle.rl_cursors.proofs.leading.leading_negative.Goals as goal

pub returns-in_err-unsigned-clause-none : goal.returns-in_err-unsigned-clause-none
returns-in_err-unsigned-clause-none c = if_none c.from_residual.result (no_minus c.args.text.now c.utf8.text
    c.in_err-unsigned.ensures.rest)

pub returns-in_err-number-clause-none : goal.returns-in_err-number-clause-none
returns-in_err-number-clause-none c =
    let t = c.args.text.now in
    let u = c.in_ok-unsigned.unsigned.now in
    if_none c.from_residual-in_err-number.result (no_number t u (minus_bytes t u c.utf8.text
    c.in_ok-unsigned.ensures.following.is_text c.in_ok-unsigned.ensures.rest) c.in_err-number.ensures.none)

pub returns-in_err-found-clause-none : goal.returns-in_err-found-clause-none
returns-in_err-found-clause-none c =
    let t = c.args.text.now in
    let u = c.in_ok-unsigned.unsigned.now in
    if_none c.from_residual-in_err-found.result (no_sum t u c.in_ok-number.number (minus_bytes t u c.utf8.text
    c.in_ok-unsigned.ensures.following.is_text c.in_ok-unsigned.ensures.rest) c.in_ok-number.ensures.leads
    c.in_err-found.ensures.none)

pub before-requires : goal.before-requires
before-requires c = tail_step _ _ _ c.in_ok-unsigned.ensures.following c.in_ok-number.ensures.leads.following

pub returns-clause-leads : goal.returns-clause-leads
returns-clause-leads c = negative c.args.text.now c.in_ok-unsigned.unsigned.now c.before-2.result.now _
    c.in_ok-number.number c.in_ok-found.found c.utf8.text c.in_ok-unsigned.ensures.following.is_text
    c.in_ok-unsigned.ensures.rest c.in_ok-number.ensures.leads c.in_ok-found.ensures.found c.before-2.ensures.cut refl refl
    refl
