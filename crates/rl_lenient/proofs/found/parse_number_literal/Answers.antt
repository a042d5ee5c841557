use Rattle.rl_syntax.proofs.Common.{common_steps, subst, arith}
use Rattle.rl_lenient.specs.NumbersRead.{IsNumberOf}
use Rattle.rl_lenient.proofs.FoundLemmas.{float_alone}
use Rattle.rl_lenient.proofs.found.parse_number_literal.Goals as goal

pub returns-in-Float-clause-found : goal.returns-in-Float-clause-found
returns-in-Float-clause-found c =
    let h = subst (IsNumberOf c.args.text.now) c.in-Float.is c.in_ok-magnitude.ensures.reads in
    float_alone _ _ h.1 c.float_found.ensures

pub returns-in_err-magnitude-clause-none : goal.returns-in_err-magnitude-clause-none
returns-in_err-magnitude-clause-none c = grind (arith, common_steps) steps 200000

pub returns-in-Integer-clause-number : goal.returns-in-Integer-clause-number
returns-in-Integer-clause-number c = grind (arith, common_steps) steps 200000

pub returns-in-Float-clause-number : goal.returns-in-Float-clause-number
returns-in-Float-clause-number c = grind (arith, common_steps) steps 200000

pub integer_found-requires-clause-within : goal.integer_found-requires-clause-within
integer_found-requires-clause-within c = (rw c.in-Integer.is at c.in_ok-magnitude.ensures.reads).0

pub integer_found-requires-clause-following : goal.integer_found-requires-clause-following
integer_found-requires-clause-following c = (rw c.in-Integer.is at c.in_ok-magnitude.ensures.reads).1

pub float_found-requires-clause-reads : goal.float_found-requires-clause-reads
float_found-requires-clause-reads c = (rw c.in-Float.is at c.in_ok-magnitude.ensures.reads).0

pub float_found-requires-clause-following : goal.float_found-requires-clause-following
float_found-requires-clause-following c = (rw c.in-Float.is at c.in_ok-magnitude.ensures.reads).2
