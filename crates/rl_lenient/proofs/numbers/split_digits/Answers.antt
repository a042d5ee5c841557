use Rattle.rl_syntax.proofs.Common.{chars}
use Rattle.rl_lenient.proofs.PartLemmas.{row_front}
use Rattle.rl_lenient.proofs.numbers.split_digits.Goals as goal

pub returns-clause-run : goal.returns-clause-run
returns-clause-run c = row_front (chars c.args.text.now) (chars c.before-2.result.now) (chars c.skip_digits.result.rest.now)
    c.before-2.ensures.chars c.skip_digits.ensures.rest
