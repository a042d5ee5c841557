use Rattle.rl_syntax.proofs.Common.{refl, arith, common_steps}
use Rattle.rl_syntax.proofs.TailLemmas.{cut_boundary, if_none}
use Rattle.rl_lexer.proofs.CursorLemmas.{still_cutting, takes_next}
use Rattle.rl_lexer.proofs.cursor.Tokens.next.Goals as goal

pub returns-in_err-form-clause-none : goal.returns-in_err-form-clause-none
returns-in_err-form-clause-none c = if_none c.from_residual.result (rw (← c.self.view_is) c.in_err-form.ensures.none)

pub range-text-requires-clause-end_boundary : goal.range-text-requires-clause-end_boundary
range-text-requires-clause-end_boundary c = cut_boundary c.self.inside.rest.now c.in_ok-form.following.now
    c.in_ok-form.ensures.following

pub invariant_of-self : goal.invariant_of-self
invariant_of-self c =
    still_cutting c.self.inside.text.now c.self.inside.rest.now c.in_ok-form.following.now c.skip-self-inside.result.now
    c.self.invariant c.in_ok-form.ensures.following c.skip-self-inside.ensures.following

pub returns-clause-next : goal.returns-clause-next
returns-clause-next c =
    rw (← c.self.view_is)
    (takes_next c.self.inside.text.now c.self.inside.rest.now c.in_ok-form.following.now c.skip-self-inside.result.now _
    c.self.invariant c.in_ok-form.ensures.found c.in_ok-form.ensures.following c.range-text.utf8
    c.range-text.ensures.value refl refl c.skip-self-inside.ensures.skipped c.skip-self-inside.ensures.following)

pub overflow_sub-lo : goal.overflow_sub-lo
overflow_sub-lo c = grind (arith, common_steps)

pub overflow_sub-hi : goal.overflow_sub-hi
overflow_sub-hi c = grind (arith, common_steps)

pub overflow_sub-self-inside : goal.overflow_sub-self-inside
overflow_sub-self-inside c = grind (arith, common_steps)

pub returns-clause-shorter : goal.returns-clause-shorter
returns-clause-shorter c = grind (arith, common_steps)
