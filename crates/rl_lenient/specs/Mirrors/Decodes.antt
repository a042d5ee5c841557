-- An executable model of private code: the output of the loop that decodes characters and escapes. Only proofs use it.
use Rattle.std.specs.Prelude.{◌≡◌, ℕ, List, None}
use Rattle.rl_syntax.specs.declared.kind.Kind.{Kind}
use Rattle.rl_lenient.specs.Mirrors.UnitAt.{unit_at}
use Rattle.rl_lenient.specs.UnitRuns.{BeginsRun}
use Rattle.rl_lenient.specs.Decoded.{in_bytes}

-- The bytes are the decoded values of the characters and escapes at the start of the text, up to the first one that a
-- literal of the kind doesn't allow.
pub record Decodes (kind : Kind) (text bytes : List ℕ) : Type 0 where
  pub value : List ℕ
  pub rest : List ℕ
  pub run : BeginsRun kind text value rest
  pub stuck : unit_at kind rest ≡ None
  pub bytes_are : bytes ≡ in_bytes kind value
