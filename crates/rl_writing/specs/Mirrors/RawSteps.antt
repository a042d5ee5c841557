-- Executable models of private code: the tests and counts for each character of a raw string. Only private functions and
-- proofs use them.
use Rattle.std.specs.Prelude.{ℕ, ◌+◌, ◌&&◌, ◌==◌, not, nat_lt, Bool, if◌then◌else◌}
use Prim.Native.Char.{code}
use Rattle.rl_syntax.specs.declared.kind.Kind.{Kind}
use Rattle.rl_syntax.specs.declared.kind.Kind.TheVariants.{ByteStr, CStr}

-- A raw string of the kind may contain the character.
abbrev pub raw_may_contain : Kind → ℕ → Bool
raw_may_contain ByteStr c = not (c == code "\r") && nat_lt c 128
raw_may_contain CStr c = not (c == code "\r") && not (c == 0)
raw_may_contain _ c = not (c == code "\r")

-- The number of hashes that a raw string needs so that it doesn't end after the character `c`. After a quote, the number is
-- 1. After a hash that directly follows a quote or its hashes, the number is one more than before the hash. Otherwise the
-- number is 0. `opened` is the number for the character before `c`.
abbrev pub hashes_opened : ℕ → ℕ → ℕ
hashes_opened opened c =
    if c == code "\"" then 1 else (if c == code "#" && nat_lt 0 opened then opened + 1 else 0)
