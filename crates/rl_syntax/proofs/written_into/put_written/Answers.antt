use Rattle.rl_syntax.proofs.Common.{arith, length-encode, len_utf8_bounds}
use Rattle.rl_syntax.proofs.written_into.put_written.Goals as goal

pub put_char-requires : goal.put_char-requires
put_char-requires c = omega (arith, c.requires.room, length-encode c.args.c, len_utf8_bounds c.args.c)

pub returns-in-None-clause-end : goal.returns-in-None-clause-end
returns-in-None-clause-end c = omega (arith, c.put_char.ensures.end, length-encode c.args.c, len_utf8_bounds c.args.c)
