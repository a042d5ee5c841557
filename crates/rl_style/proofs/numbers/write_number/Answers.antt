use Rattle.rl_syntax.proofs.Common.{inl, inr}
use Rattle.std.specs.Str.{chars}
use Rattle.rl_style.proofs.WrittenNumbers.{float_of, integer_of}
use Rattle.rl_style.proofs.numbers.write_number.Goals as goal

pub write_integer-requires-clause-integer : goal.write_integer-requires-clause-integer
write_integer-requires-clause-integer c = integer_of (chars c.args.text.now) c.args.number _ c.in-Integer.suffix
    c.requires.number c.in-Integer.is

pub write_float-requires-clause-float : goal.write_float-requires-clause-float
write_float-requires-clause-float c = float_of (chars c.args.text.now) c.args.number c.in-Float.suffix c.requires.number
    c.in-Float.is

pub returns-in-Integer-clause-written : goal.returns-in-Integer-clause-written
returns-in-Integer-clause-written c = λ front. inl c.write_integer.ensures.written

pub returns-in-Float-clause-written : goal.returns-in-Float-clause-written
returns-in-Float-clause-written c = λ front. inr (inl c.write_float.ensures.written)
