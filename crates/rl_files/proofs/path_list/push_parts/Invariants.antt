use Rattle.std.proofs.Common.{◌≡◌, ◌++◌, length}
use Rattle.rl_files.specs.Trees.{string_texts}
use Rattle.rl_files.specs.Listed.{names_between}
use Rattle.rl_files.proofs.path_list.push_parts.Given as goal

abbrev pub invariant-loop-rest : goal.invariant-loop-rest
invariant-loop-rest g l = string_texts l.paths.items ++ names_between l.between l.rest
    ≡ string_texts l.initial.paths.items ++ names_between l.between l.list

abbrev pub decreases-loop-rest : goal.decreases-loop-rest
decreases-loop-rest g l = length l.rest
