use Rattle.rl_syntax.proofs.TailLemmas.{some_tail}
use Rattle.rl_syntax.proofs.scan.split_after_mark.Goals as goal

pub returns-clause-following : goal.returns-clause-following
returns-clause-following c = some_tail (λ p. p.1.now) _ _ c.split_ascii.result c.split_before_mark.ensures.following
    c.split_ascii.ensures.following
