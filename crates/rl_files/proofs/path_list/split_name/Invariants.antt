use Rattle.std.proofs.Common.{◌≡◌, false, take, All}
use Rattle.rl_files.proofs.ListedLemmas.{ends}
use Rattle.rl_files.proofs.path_list.split_name.Given as goal

abbrev pub invariant-loop-at : goal.invariant-loop-at
invariant-loop-at l = All (λ x. ends l.between x ≡ false) (take l.at l.list)
