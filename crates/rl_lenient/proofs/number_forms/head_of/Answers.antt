use Rattle.std.specs.Str.{chars}
use Rattle.rl_lenient.proofs.HeadLemmas.{head_read}
use Rattle.rl_lenient.proofs.number_forms.head_of.Goals as goal

pub returns-clause-head : goal.returns-clause-head
returns-clause-head c =
    let run = c.read_digit_run-run.ensures in
    head_read (chars c.args.unsigned.now) _ _ _ _ _ c.requires c.split_radix-radix.ensures.value run.has_digit
    run.magnitude run.rest
