use Rattle.std.specs.Str.{chars}
use Rattle.rl_lenient.proofs.MinusLemmas.{negative_none, negative_twice, negative_no_reading}
use Rattle.rl_lenient.proofs.OptionLemmas.{none_then, if_some}
use Rattle.rl_lenient.proofs.found.parse_unsigned_literal.Goals as goal

pub returns-then-is_negative-clause-none : goal.returns-then-is_negative-clause-none
returns-then-is_negative-clause-none c = negative_no_reading (chars c.args.text.now)
    (negative_twice (chars c.args.text.now) c.if-is_negative.ensures)

pub returns-clause-none : goal.returns-clause-none
returns-clause-none c =
    let t = chars c.args.text.now in
    none_then c.parse_number_literal.result (λ h. negative_no_reading t (negative_none t c.if-is_negative.ensures h))
    c.parse_number_literal.ensures.none

pub returns-clause-unsigned : goal.returns-clause-unsigned
returns-clause-unsigned c = if_some c.parse_number_literal.result c.if-is_negative.ensures
