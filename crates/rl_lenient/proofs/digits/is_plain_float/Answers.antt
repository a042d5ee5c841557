use Rattle.std.specs.Str.{chars}
use Rattle.rl_lenient.proofs.PlainLemmas.{changed_none, changed_some}
use Rattle.rl_lenient.proofs.digits.is_plain_float.Goals as goal

pub returns-in-Some : goal.returns-in-Some
returns-in-Some c = changed_some (chars c.args.numeral.now) _ _ c.in-Some.ensures.some

pub returns-in-None : goal.returns-in-None
returns-in-None c = changed_none (chars c.args.numeral.now) c.in-None.ensures.none
