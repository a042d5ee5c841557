use Rattle.rl_syntax.proofs.Common.{◌∙◌}
use Rattle.std.specs.Str.{chars}
use Rattle.rl_lenient.proofs.HeadLemmas.{no_head_int, head_int}
use Rattle.rl_lenient.proofs.number_forms.integer_magnitude_and_suffix.Goals as goal

pub returns-in-None-clause-value : goal.returns-in-None-clause-value
returns-in-None-clause-value c = no_head_int (chars c.args.text.now) c.in-None.ensures.none

pub returns-in-Some-clause-value : goal.returns-in-Some-clause-value
returns-in-Some-clause-value c = c.integer_of.ensures.value ∙ head_int (chars c.args.text.now) _ _ _ _
    c.in-Some.ensures.head
