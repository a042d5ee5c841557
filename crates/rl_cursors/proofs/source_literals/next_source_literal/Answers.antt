use Rattle.rl_cursors.proofs.SourceLiteralLemmas.{at_end}
use Rattle.rl_cursors.proofs.source_literals.next_source_literal.Goals as goal

pub returns-in-None-error-clause-steps : goal.returns-in-None-error-clause-steps
returns-in-None-error-clause-steps c =
    (c.in-None.ensures.passed, at_end c.next_literal.new.self.rest c.in-None.ensures.none c.in-None-error.ensures.none)
