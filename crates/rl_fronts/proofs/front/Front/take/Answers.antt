use Rattle.rl_syntax.proofs.Common.{common_steps, subst, sym, ◌∙◌, arith}
use Rattle.rl_tokens.specs.Buffers.{trees_in, IsRest}
use Rattle.rl_fronts.proofs.FrontLemmas.{front_rest}
use Rattle.rl_tokens.proofs.TreeRests.{rest_one}
use Rattle.rl_fronts.proofs.front.Front.take.Goals as goal

pub returns-in-Some-clause-rest : goal.returns-in-Some-clause-rest
returns-in-Some-clause-rest g c = rest_one _ _ _ c.in-Some.ensures.taken

pub returns-in-Some-take_word-clause-rest : goal.returns-in-Some-take_word-clause-rest
returns-in-Some-take_word-clause-rest g c = rest_one _ _ _ (sym c.in_default.ensures.left
    ∙ c.in-Some-take_word.ensures.taken.0)

pub returns-clause-rest : goal.returns-clause-rest
returns-clause-rest g c = subst (λ ts. IsRest ts (trees_in c.take_negative.new.input))
    (c.in_default-take_word.ensures.left ∙ c.in_default.ensures.left) (front_rest _ _ _ c.in_ok-negative.ensures.taken)

pub returns-in-Some-clause-taken : goal.returns-in-Some-clause-taken
returns-in-Some-clause-taken g c = grind (arith, common_steps) steps 200000

pub returns-in-Some-take_word-clause-taken : goal.returns-in-Some-take_word-clause-taken
returns-in-Some-take_word-clause-taken g c = grind (arith, common_steps) steps 200000

pub returns-in_err-negative-clause-taken : goal.returns-in_err-negative-clause-taken
returns-in_err-negative-clause-taken g c = grind (arith, common_steps) steps 200000

pub returns-in_err-negative-clause-none : goal.returns-in_err-negative-clause-none
returns-in_err-negative-clause-none g c = grind (arith, common_steps) steps 200000

pub returns-in_err-negative-clause-left : goal.returns-in_err-negative-clause-left
returns-in_err-negative-clause-left g c = grind (arith, common_steps) steps 200000

pub returns-in_err-negative-clause-rest : goal.returns-in_err-negative-clause-rest
returns-in_err-negative-clause-rest g c = grind (arith, common_steps) steps 200000

pub returns-in_err-negative-clause-scope : goal.returns-in_err-negative-clause-scope
returns-in_err-negative-clause-scope g c = grind (arith, common_steps) steps 200000

pub returns-clause-taken : goal.returns-clause-taken
returns-clause-taken g c = grind (arith, common_steps) steps 200000

pub returns-clause-scope : goal.returns-clause-scope
returns-clause-scope g c = grind (arith, common_steps) steps 200000
