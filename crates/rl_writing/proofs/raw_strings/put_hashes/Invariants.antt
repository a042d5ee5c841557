-- The loop's invariant: the slice contains as many hashes as the loop has counted.
use Rattle.rl_syntax.proofs.Common.{◌≡◌, ◌+◌, ◌++◌, length, replicate, take}
use Rattle.rl_syntax.specs.Texts.{code}
use Rattle.rl_writing.proofs.raw_strings.put_hashes.Given as goal

abbrev pub invariant-loop : goal.invariant-loop
invariant-loop l = record {
  end : l.end ≡ l.at + l.counter;
  bytes : take l.end l.out ≡ take l.at l.initial.out ++ replicate l.counter (code "#");
  len : length l.out ≡ length l.initial.out;
}
