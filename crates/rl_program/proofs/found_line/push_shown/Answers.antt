use Rattle.rl_syntax.proofs.Common.{chars, on_ok_weaker}
use Rattle.rl_program.proofs.FoundLineLemmas.{shows_line}
use Rattle.rl_program.proofs.found_line.push_shown.Goals as goal

pub returns : goal.returns
returns g c =
    on_ok_weaker c.push_line_of_kind.result (shows_line c.args.kind (chars c.args.text.now) _ _ (chars c.args.shown.now)
    (chars c.args.suffix.now) c.requires.shown c.requires.suffix) c.push_line_of_kind.ensures
