use Rattle.rl_syntax.proofs.Common.{ap, ◌∙◌}
use Rattle.rl_lenient.proofs.Names.{first_passes}
use Rattle.rl_lenient.specs.WholeShapes.{is_number_front}
use Rattle.rl_lenient.proofs.ReadingLemmas.{front_same}
use Rattle.rl_lenient.proofs.found.begins_number.Goals as goal

pub returns : goal.returns
returns c = c.is_number_front.ensures ∙ ap (first_passes is_number_front) c.as_bytes.ensures.value
    ∙ front_same c.args.text.now c.utf8.text
