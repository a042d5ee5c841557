use Rattle.rl_syntax.proofs.Common.{◌∙◌}
use Rattle.std.specs.Str.{chars}
use Rattle.rl_syntax.proofs.TailLemmas.{some_tail}
use Rattle.rl_lenient.proofs.HeadLemmas.{head_float}
use Rattle.rl_lenient.proofs.number_forms.head_suffix.Goals as goal

pub returns-then-head-eq10-clause-value : goal.returns-then-head-eq10-clause-value
returns-then-head-eq10-clause-value c = c.tail_suffix.ensures.value
    ∙ head_float (chars c.args.text.now) _ _ _ _ c.requires.head c.if-head-eq10.true

pub returns-then-head-eq10-clause-following : goal.returns-then-head-eq10-clause-following
returns-then-head-eq10-clause-following c = some_tail (λ x. x.now) _ _ c.tail_suffix.result c.requires.following
    c.tail_suffix.ensures.following
