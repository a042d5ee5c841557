use Rattle.rl_syntax.proofs.Common.{rules}
use Rattle.std.specs.Str.{chars}
use Rattle.rl_lenient.proofs.MinusLemmas.{minus_chars}
use Rattle.rl_fronts.proofs.FrontLemmas.{no_negative_truth}
use Rattle.rl_fronts.proofs.front.Front.bool_value.Goals as goal

pub returns-in-Negative-clause-none : goal.returns-in-Negative-clause-none
returns-in-Negative-clause-none g c = rw c.in-Negative.is (rw (minus_chars c.in-Negative.field-0.1.text)
    (no_negative_truth (chars c.in-Negative.field-0.1.text)))

pub returns-in-Word-clause-some : goal.returns-in-Word-clause-some
returns-in-Word-clause-some g c = search rules steps 300000

pub returns-in-Word-clause-bytes : goal.returns-in-Word-clause-bytes
returns-in-Word-clause-bytes g c = search rules steps 300000
