use Rattle.rl_cursors.proofs.NextValueLemmas.{minus_sign}
use Rattle.rl_cursors.proofs.next_literals.NextLiteral.is_minus.Goals as goal

pub returns-in-Some : goal.returns-in-Some
returns-in-Some c = minus_sign c.args.self.now.minus_at c.in-Some.field-0 c.args.self.now.token.text.now c.in-Some.is
