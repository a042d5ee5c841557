use Rattle.std.proofs.Common.{◌≡◌, ◌++◌, string_bytes, encode_utf8_all}
use Rattle.std.specs.Char.Iter.{escape_rest}
use Rattle.std.specs.Char.Escape.{escape_default}
use Rattle.rl_files.proofs.visible.push_escape.Given as goal

abbrev pub invariant-loop-piece : goal.invariant-loop-piece
invariant-loop-piece g l = string_bytes l.out ++ encode_utf8_all (escape_rest l.piece-iterator) ≡ string_bytes l.fn.out
    ++ encode_utf8_all (escape_default l.fn.c)
