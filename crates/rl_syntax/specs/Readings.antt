-- Parse results as records. The prover infers each argument of these records, but infers no argument of `Reads` and
-- `Strict`, which are defined by the kind.
use Rattle.std.specs.Prelude.{◌≡◌, List, ℕ}
use Rattle.rl_syntax.specs.declared.kind.Kind.{Kind}
use Rattle.rl_syntax.specs.Reading.{Contents, Reads}
use Rattle.rl_syntax.specs.Strict.{Strict}

-- A parse result: a literal's kind, its value and its suffix.
pub record Reading : Type 0 where
  pub kind : Kind
  pub contents : Contents
  pub suffix : List ℕ

-- By `syn`'s grammar, the text has the given parse result.
pub record IsReading (text : List ℕ) (reading : Reading) : Type 0 where
  pub reads : Reads text reading.kind reading.contents reading.suffix

-- By Rust's grammar, the text has the given parse result.
pub record ReadsStrictly (text : List ℕ) (reading : Reading) : Type 0 where
  pub strict : Strict text reading.kind reading.contents reading.suffix

-- By `syn`'s grammar, the text has the parse result `r`, and no other.
pub record IsTheReading (text : List ℕ) (r : Reading) : Type 0 where
  pub reads : IsReading text r
  pub only : (s : Reading) → IsReading text s → s ≡ r
