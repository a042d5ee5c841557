use Rattle.rl_cursors.specs.NextLiterals.{whole_text}
use Rattle.std.specs.Str.{chars}
use Rattle.rl_cursors.proofs.NextValueLemmas.{value_without_suffix, no_bare_value, suffixed_none}
use Rattle.rl_cursors.proofs.next_literals.NextLiteral.value_if_unsuffixed.Goals as goal

pub returns-then-has_suffix-clause-none : goal.returns-then-has_suffix-clause-none
returns-then-has_suffix-clause-none c = suffixed_none (chars (whole_text c.args.self.now)) c.if-has_suffix.ensures.reads

pub returns-clause-some : goal.returns-clause-some
returns-clause-some c =
    value_without_suffix (chars (whole_text c.args.self.now)) c.signed.result c.signed.ensures.some c.if-has_suffix.ensures.reads

pub returns-clause-none : goal.returns-clause-none
returns-clause-none c =
    no_bare_value (chars (whole_text c.args.self.now)) c.signed.result c.signed.ensures.none
