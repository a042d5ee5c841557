use Rattle.rl_lenient.proofs.Theorems.{bytes_without_returns_are_strict}
use Rattle.rl_lenient.proofs.laws.byte_literals_without_cr_are_strict.Goals as goal

pub returns : goal.returns
returns c = bytes_without_returns_are_strict
