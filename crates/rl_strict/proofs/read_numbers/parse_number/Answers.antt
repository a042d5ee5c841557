use Rattle.rl_strict.proofs.Names.{ok_tail, tail_step, suffix_of}
use Rattle.rl_strict.proofs.read_numbers.parse_number.Goals as goal

pub returns-then-radix-eq10-clause-following : goal.returns-then-radix-eq10-clause-following
returns-then-radix-eq10-clause-following c = ok_tail suffix_of _ _ _
    (tail_step _ _ _ c.split_radix-radix.ensures.following c.read_digit_run.ensures.following) c.read_whole.ensures.following

pub returns-else-radix-eq10-clause-following : goal.returns-else-radix-eq10-clause-following
returns-else-radix-eq10-clause-following c = ok_tail suffix_of _ _ _ c.split_radix-radix.ensures.following
    c.read_based.ensures.following
