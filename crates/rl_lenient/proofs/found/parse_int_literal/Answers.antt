use Rattle.rl_syntax.proofs.Common.{refl}
use Rattle.std.specs.Str.{chars}
use Rattle.rl_syntax.proofs.TailLemmas.{if_none}
use Rattle.rl_syntax.proofs.OneNumber.{int_once}
use Rattle.rl_lenient.proofs.IntegerLemmas.{no_int, is_past_at, is_within_at}
use Rattle.rl_lenient.proofs.found.parse_int_literal.Goals as goal

pub returns-in_err-integer-clause-none : goal.returns-in_err-integer-clause-none
returns-in_err-integer-clause-none c = if_none _ (no_int _ c.in_err-integer.ensures.value)

pub returns-in_err-integer-clause-once : goal.returns-in_err-integer-clause-once
returns-in_err-integer-clause-once c = int_once (chars c.args.text.now)

pub integer_found-requires-clause-within : goal.integer_found-requires-clause-within
integer_found-requires-clause-within c = is_within_at _ _ _ _ _ c.in_ok-integer.ensures.value c.in-Some.is refl

pub returns-in-Some-clause-once : goal.returns-in-Some-clause-once
returns-in-Some-clause-once c = int_once (chars c.args.text.now)

pub returns-in-None-clause-past : goal.returns-in-None-clause-past
returns-in-None-clause-past c = is_past_at (chars c.args.text.now) _ _ c.in_ok-integer.ensures.value c.in-None.is

pub returns-in-None-clause-once : goal.returns-in-None-clause-once
returns-in-None-clause-once c = int_once (chars c.args.text.now)

pub integer_found-requires-clause-following : goal.integer_found-requires-clause-following
integer_found-requires-clause-following c = c.in_ok-integer.ensures.following
