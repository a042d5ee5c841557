use Rattle.std.proofs.Common.{All, false, take, ◌==◌, ◌≡◌}
use Prim.Native.Char.{code}
use Rattle.rl_files.proofs.glob.first_part.Given as goal

abbrev pub invariant-loop-at : goal.invariant-loop-at
invariant-loop-at l = All (λ b. (b == code "/") ≡ false) (take l.at l.path)
