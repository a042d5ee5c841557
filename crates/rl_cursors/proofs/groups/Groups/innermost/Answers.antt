use Rattle.rl_syntax.proofs.Common.{arith, drop, map, ◌+◌}
use Rattle.rl_cursors.specs.Groups.{open_view}
use Rattle.rl_cursors.proofs.GroupLemmas.{one_from}
use Rattle.rl_cursors.proofs.groups.Groups.innermost.Goals as goal

pub returns : goal.returns
returns c =
    let g = c.args.self.now in
    (map open_view (drop (g.start + 1) g.groups), one_from g.groups g.start _ (omega arith))
