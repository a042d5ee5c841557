use Rattle.rl_syntax.proofs.Common.{ap, chars, ◌∙◌, ◌≡◌}
use Rattle.rl_program.specs.Lines.{kind_label}
use Rattle.rl_program.proofs.PrintLemmas.{word_chars}
use Rattle.rl_program.proofs.line.push_line_of_kind.Goals as goal

pub returns : goal.returns
returns g c =
    let w : chars c.word.result.now ≡ kind_label c.args.kind = ap chars c.word.ensures ∙ word_chars c.args.kind in
    rw w at c.push_line.ensures
