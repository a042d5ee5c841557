use Rattle.rl_syntax.proofs.TailLemmas.{if_none}
use Rattle.rl_fronts.proofs.FrontLemmas.{no_minus_at, negative_front}
use Rattle.rl_syntax.proofs.Common.{◌≡◌, sym, ◌∙◌, arith, common_steps}
use Rattle.rl_fronts.proofs.front.take_negative.Goals as goal

pub returns-clause-taken : goal.returns-clause-taken
returns-clause-taken g c = let minus : c.in_ok-minus.minus.now.ch ≡ 45 = sym c.as_char.ensures.ch
    ∙ c.if-as_char-ne45.false in
    negative_front _ _ _ c.in_ok-minus.minus.now c.in_ok-number.number.now c.in_ok-found.found
    (sym c.fork-ahead.ensures.trees ∙ c.in_ok-minus.ensures.taken) c.in_ok-number.ensures.taken minus
    (rw c.text.ensures at c.in_ok-found.ensures.found)

pub returns-in_err-minus-clause-none : goal.returns-in_err-minus-clause-none
returns-in_err-minus-clause-none g c = grind (arith, common_steps) steps 300000

pub returns-then-as_char-ne45-clause-none : goal.returns-then-as_char-ne45-clause-none
returns-then-as_char-ne45-clause-none g c = grind (arith, common_steps) steps 300000

pub returns-in_err-number-clause-taken : goal.returns-in_err-number-clause-taken
returns-in_err-number-clause-taken g c = grind (arith, common_steps) steps 300000

pub returns-in_err-number-clause-none : goal.returns-in_err-number-clause-none
returns-in_err-number-clause-none g c = grind (arith, common_steps) steps 300000

pub returns-in_err-number-clause-left : goal.returns-in_err-number-clause-left
returns-in_err-number-clause-left g c = grind (arith, common_steps) steps 300000

pub returns-in_err-found-clause-taken : goal.returns-in_err-found-clause-taken
returns-in_err-found-clause-taken g c = grind (arith, common_steps) steps 300000

pub returns-in_err-found-clause-left : goal.returns-in_err-found-clause-left
returns-in_err-found-clause-left g c = grind (arith, common_steps) steps 300000

pub invariant_of-result : goal.invariant_of-result
invariant_of-result g c = grind (arith, common_steps) steps 300000

pub returns-clause-scope : goal.returns-clause-scope
returns-clause-scope g c = grind (arith, common_steps) steps 300000

pub returns-in_err-minus-clause-taken : goal.returns-in_err-minus-clause-taken
returns-in_err-minus-clause-taken g c = grind (arith, common_steps) steps 200000

pub returns-in_err-minus-clause-left : goal.returns-in_err-minus-clause-left
returns-in_err-minus-clause-left g c = grind (arith, common_steps) steps 200000

pub returns-in_err-found-clause-scope : goal.returns-in_err-found-clause-scope
returns-in_err-found-clause-scope g c = grind (arith, common_steps) steps 200000

pub returns-in_err-found-clause-none : goal.returns-in_err-found-clause-none
returns-in_err-found-clause-none g c = if_none _ (no_minus_at _ _ _ _ _ _
    (sym c.fork-ahead.ensures.trees ∙ c.in_ok-minus.ensures.taken) c.in_ok-number.ensures.taken c.text.ensures
    c.in_err-found.ensures.none)
