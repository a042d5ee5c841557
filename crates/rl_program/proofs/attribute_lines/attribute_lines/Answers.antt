use Rattle.rl_syntax.proofs.Common.{chars, string_bytes}
use Rattle.rl_program.proofs.EntryLineLemmas.{shows_attributes}
use Rattle.rl_program.proofs.attribute_lines.attribute_lines.Goals as goal

pub returns-clause-lines : goal.returns-clause-lines
returns-clause-lines g c =
    shows_attributes (chars c.args.text.now) c.entries.result.now (chars (string_bytes c.in_ok-lines.lines))
    (rw c.entries.ensures.entries c.in-Ok.ensures.attributes) (rw c.entries.ensures.entries c.in-Ok.ensures.values)
    c.in_ok-lines.ensures
