use Rattle.std.proofs.Common.{inr}
use Rattle.std.proofs.lemmas.Result.{IfOk-weaker, IfErr-weaker}
use Rattle.rl_uses.proofs.count.count_literals.Goals as goal

pub returns-clause-counts : goal.returns-clause-counts
returns-clause-counts g c =
    IfOk-weaker c.tally.result _ _ (λ counts h. (c.in_ok-literals.literals.items, c.in_ok-literals.ensures.read, h))
    c.tally.ensures.counts

pub returns-clause-rejected : goal.returns-clause-rejected
returns-clause-rejected g c =
    IfErr-weaker c.tally.result _ _ (λ e h. inr (record {
      list = c.in_ok-literals.literals.items;
      read = c.in_ok-literals.ensures.read;
      short = h;
    })) c.tally.ensures.memory
