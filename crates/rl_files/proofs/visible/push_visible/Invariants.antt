use Rattle.std.proofs.Common.{◌≡◌, ◌++◌, string_bytes, encode_utf8_all}
use Rattle.rl_files.specs.Visible.{visible}
use Rattle.rl_files.proofs.visible.push_visible.Given as goal

abbrev pub invariant-loop-c : goal.invariant-loop-c
invariant-loop-c g l = string_bytes l.out ≡ string_bytes l.fn.out ++ encode_utf8_all (visible l.yielded)
