use Rattle.rl_syntax.proofs.Common.{sym}
use Rattle.std.specs.Str.{chars}
use Rattle.rl_lenient.proofs.ReadingLemmas.{only_number}
use Rattle.rl_lenient.proofs.OptionLemmas.{none_then}
use Rattle.rl_lenient.proofs.found.parse_literal.Goals as goal

pub returns-then-begins_number-clause-none : goal.returns-then-begins_number-clause-none
returns-then-begins_number-clause-none c = none_then c.parse_number_literal.result
    (only_number (chars c.args.text.now) (sym c.if-begins_number.ensures)) c.parse_number_literal.ensures.none
