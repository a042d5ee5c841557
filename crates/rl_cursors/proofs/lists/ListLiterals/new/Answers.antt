use Rattle.std.proofs.Common.{false, refl}
use Rattle.rl_cursors.proofs.TakenLemmas.{all_left}
use Rattle.rl_cursors.proofs.lists.ListLiterals.new.Goals as goal

pub returns-clause-left : goal.returns-clause-left
returns-clause-left c = all_left c.args.text.now (record { cursor = c.new.result; is_done = false }) c.new.ensures.text refl c.new.ensures.skipped
