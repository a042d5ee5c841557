use Rattle.rl_files.proofs.WalkLemmas.{enters}
use Rattle.rl_files.proofs.walk.Walk.enter.Goals as goal

pub returns : goal.returns
returns g c = enters c.args.selection c.args.from c.args.directory.now _ _ c.args.self.now _ c.sort_unstable.ensures.permutation
    c.sort_unstable.ensures.sorted c.in_ok-push_names.ensures
