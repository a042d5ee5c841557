use Rattle.rl_syntax.proofs.Common.{chars}
use Rattle.rl_cursors.proofs.ClosingLemmas.{known_lines, lines_unclosed}
use Rattle.rl_cursors.proofs.unclosed.Unclosed.after.Goals as goal

pub returns-in-Some : goal.returns-in-Some
returns-in-Some c = λ joins lines h.
    c.with.ensures lines (known_lines c.args.self joins (chars c.args.text.now) lines h c.requires.unclosed)
    (lines_unclosed c.in-Some.opener joins (chars c.args.text.now) (chars c.in-Some.field-0-1.now) lines c.requires.none
    c.in-Some.ensures h)

pub returns-in-None : goal.returns-in-None
returns-in-None c = λ joins lines h. known_lines c.args.self joins (chars c.args.text.now) lines h c.requires.unclosed
