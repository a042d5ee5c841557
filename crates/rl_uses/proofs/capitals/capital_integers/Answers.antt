use Rattle.std.proofs.Common.{◌≡◌, List, [], ◌∷◌, ◌++◌, rules, subst, sym}
use Rattle.rl_cursors.specs.Linters.{HasReported}
use Rattle.rl_cursors.proofs.Linters.{ended, failed, other, reported}
use Rattle.rl_uses.specs.declared.capitals.Place.{Place}
use Rattle.rl_uses.specs.Capitals.{IsCapital, place_of}
use Rattle.rl_uses.proofs.capitals.capital_integers.Goals as goal

pub loop-token-preserved-else-is_err : goal.loop-token-preserved-else-is_err
loop-token-preserved-else-is_err g c =
    let l = c.in-Literal.token in
    let grown : c.push.new.self.items ≡ c.loop-token.places.items ++ (place_of l.lo l.hi ∷ []) = search rules in
    subst (λ (z : List Place). HasReported IsCapital place_of c.args.source.now c.next_source_literal.new.tokens z)
    (sym grown) (reported c.loop-token.invariant (rw c.in-Literal.is at c.next_source_literal.ensures.steps).0
    (c.is_capital.ensures.yes c.if-is_capital.true))

pub loop-token-preserved : goal.loop-token-preserved
loop-token-preserved g c =
    other c.loop-token.invariant (rw c.in-Literal.is at c.next_source_literal.ensures.steps).0
    (c.is_capital.ensures.no c.if-is_capital.false)

pub returns-in-Rejected-clause-failed : goal.returns-in-Rejected-clause-failed
returns-in-Rejected-clause-failed g c =
    let s = rw c.in-Rejected.is at c.next_source_literal.ensures.steps in
    failed _ _ c.utf8.source c.loop-token.invariant s.0 s.1 s.2

pub returns-in-End-clause-found : goal.returns-in-End-clause-found
returns-in-End-clause-found g c =
    let s = rw c.in-End.is at c.next_source_literal.ensures.steps in ended c.loop-token.invariant s.0 s.1
