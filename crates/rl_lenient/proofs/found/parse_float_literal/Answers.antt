use Rattle.rl_syntax.proofs.Common.{sym}
use Rattle.std.specs.Str.{chars}
use Rattle.rl_syntax.proofs.TailLemmas.{if_none}
use Rattle.rl_syntax.proofs.OneNumber.{float_once}
use Rattle.rl_lenient.proofs.FloatLemmas.{no_float, float_sound}
use Rattle.rl_lenient.proofs.found.parse_float_literal.Goals as goal

pub returns-in_err-suffix-clause-none : goal.returns-in_err-suffix-clause-none
returns-in_err-suffix-clause-none c = if_none _ (no_float _ c.in_err-suffix.ensures.value)

pub returns-in_err-suffix-clause-once : goal.returns-in_err-suffix-clause-once
returns-in_err-suffix-clause-once c = float_once (chars c.args.text.now)

pub float_found-requires-clause-reads : goal.float_found-requires-clause-reads
float_found-requires-clause-reads c = float_sound _ _ (sym c.in_ok-suffix.ensures.value)

pub returns-clause-once : goal.returns-clause-once
returns-clause-once c = float_once (chars c.args.text.now)
