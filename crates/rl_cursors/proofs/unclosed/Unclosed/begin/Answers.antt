use Rattle.rl_syntax.proofs.Common.{chars}
use Rattle.rl_cursors.proofs.ClosingLemmas.{known_stuck}
use Rattle.rl_cursors.proofs.unclosed.Unclosed.begin.Goals as goal

pub returns-in-Some : goal.returns-in-Some
returns-in-Some c = λ is. known_stuck c.args.self c.in-Some.opener (chars c.args.text.now) (chars c.in-Some.field-0-1.now)
    c.requires (c.includes.ensures is) c.in-Some.ensures
