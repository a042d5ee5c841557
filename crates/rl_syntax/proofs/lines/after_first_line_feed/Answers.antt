use Rattle.rl_syntax.proofs.TailLemmas.{tail_step}
use Rattle.rl_syntax.proofs.lines.after_first_line_feed.Goals as goal

pub returns-clause-following : goal.returns-clause-following
returns-clause-following c = tail_step _ _ _ c.split_line.ensures.following c.in_ok-following.ensures.following
