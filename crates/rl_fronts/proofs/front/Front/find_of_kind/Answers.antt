use Rattle.rl_lenient.proofs.FoundLemmas.{kinds_same, kinds_differ, found_reads}
use Rattle.rl_syntax.proofs.Common.{common_steps, arith}
use Rattle.std.specs.Str.{chars}
use Rattle.rl_fronts.specs.FrontTokens.{front_token}
use Rattle.rl_fronts.proofs.FrontLemmas.{one_kind}
use Rattle.rl_fronts.proofs.front.Front.find_of_kind.Goals as goal

pub returns-else-eq-clause-none : goal.returns-else-eq-clause-none
returns-else-eq-clause-none g c = λ r. kinds_differ _ _ _ c.eq.ensures c.if-eq.false
    (one_kind (chars (front_token c.args.self.now).text) _ _ (found_reads _ _ c.in_ok-found.ensures.found) r)

pub returns-in_err-found-clause-none : goal.returns-in_err-found-clause-none
returns-in_err-found-clause-none g c = grind (arith, common_steps) steps 200000

pub returns-then-eq-clause-found : goal.returns-then-eq-clause-found
returns-then-eq-clause-found g c = grind (arith, common_steps) steps 200000

pub returns-then-eq-clause-kind : goal.returns-then-eq-clause-kind
returns-then-eq-clause-kind g c = kinds_same _ _ _ c.eq.ensures c.if-eq.true
