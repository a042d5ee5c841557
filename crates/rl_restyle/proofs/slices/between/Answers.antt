use Rattle.rl_syntax.proofs.Common.{◌∙◌, ap, chars}
use Rattle.rl_restyle.proofs.TextSlices.{slice}
use Rattle.rl_restyle.proofs.slices.between.Goals as goal

pub range-requires-clause-start_le_end : goal.range-requires-clause-start_le_end
range-requires-clause-start_le_end c =
    (slice c.args.text.now c.args.lo c.args.hi c.requires.0 c.utf8.text c.requires.1).ordered

pub range-requires-clause-start_boundary : goal.range-requires-clause-start_boundary
range-requires-clause-start_boundary c = λ positive.
    (slice c.args.text.now c.args.lo c.args.hi c.requires.0 c.utf8.text c.requires.1).begins

pub range-requires-clause-end_boundary : goal.range-requires-clause-end_boundary
range-requires-clause-end_boundary c =
    (slice c.args.text.now c.args.lo c.args.hi c.requires.0 c.utf8.text c.requires.1).ends

pub returns : goal.returns
returns c = λ middle stands. ap chars c.range.ensures.value
    ∙ (slice c.args.text.now c.args.lo c.args.hi middle c.utf8.text stands).chars_are
