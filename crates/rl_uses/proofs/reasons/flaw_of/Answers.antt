use Rattle.rl_uses.proofs.reasons.flaw_of.Goals as goal

pub returns-clause-some : goal.returns-clause-some
returns-clause-some g c = rw c.text.ensures at c.explain_missing_value.ensures.some
