use Rattle.rl_syntax.proofs.Common.{arith, length-encode, len_utf8_bounds}
use Rattle.rl_style.specs.Cases.{number_character}
use Rattle.rl_style.proofs.WrittenNumbers.{digit_marked}
use Rattle.rl_style.proofs.groups.put_digit.Goals as goal

pub put_byte-requires : goal.put_byte-requires
put_byte-requires c = omega (
  arith,
  c.requires,
  c.put_character-end.ensures.end,
  c.put_character-end.ensures.len,
  length-encode c.args.digit,
  len_utf8_bounds c.args.digit,
)

pub returns-then-ends-clause-end : goal.returns-then-ends-clause-end
returns-then-ends-clause-end c = omega (
  arith,
  c.put_byte.ensures.end,
  c.put_character-end.ensures.end,
  length-encode c.args.digit,
  len_utf8_bounds c.args.digit,
)

pub returns-then-ends-clause-bytes : goal.returns-then-ends-clause-bytes
returns-then-ends-clause-bytes c = digit_marked _ _ _ (number_character c.args.manner.style c.args.manner.drops
    c.args.manner.hex c.args.digit) c.args.ends c.put_character-end.ensures.bytes c.put_byte.ensures.bytes
    c.if-ends.true
