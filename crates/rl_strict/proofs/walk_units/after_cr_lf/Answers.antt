use Rattle.rl_strict.proofs.Names.{Bor, List, ℕ, some_tail}
use Rattle.rl_strict.proofs.walk_units.after_cr_lf.Goals as goal

pub returns-clause-following : goal.returns-clause-following
returns-clause-following c = some_tail (λ (r : Bor (List ℕ)). r.now) _ _ c.strip_byte-2.result
    c.in_ok-line_feed.ensures.following c.strip_byte-2.ensures.following
