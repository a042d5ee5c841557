-- Parse results by the rules, and by the definitions that proofs use.
use Rattle.std.proofs.Common.{ℕ, List}
use Rattle.rl_syntax.specs.Reading.{Reads}
use Rattle.rl_syntax.specs.Readings.{Reading, IsTheReading}
use Rattle.rl_syntax.specs.Strict.{Strict}
use Rattle.rl_syntax.proofs.ReadingRecords.{one_is, the_reading}
use Rattle.rl_theorem.specs.RustRules.{IsLiteral}
use Rattle.rl_theorem.specs.SynRules.{IsSynLiteral}
use Rattle.rl_theorem.specs.Headline.{HasTheReading}
use Rattle.rl_theorem.proofs.RustLaw.{strict_is_by_the_rules}
use Rattle.rl_theorem.proofs.SynLaw.{reads_is_by_the_rules}

pub strict_by : (t : List ℕ) (r : Reading) → Strict t r.kind r.contents r.suffix → IsLiteral t r
strict_by t r s = (strict_is_by_the_rules t r.kind r.contents r.suffix).0 s

pub by_strict : (t : List ℕ) (r : Reading) → IsLiteral t r → Strict t r.kind r.contents r.suffix
by_strict t r l = (strict_is_by_the_rules t r.kind r.contents r.suffix).1 l

pub by_reads : (t : List ℕ) (r : Reading) → IsSynLiteral t r → Reads t r.kind r.contents r.suffix
by_reads t r l = (reads_is_by_the_rules t r.kind r.contents r.suffix).1 l

-- A parse result is the only one.
pub reads_by : (t : List ℕ) (r : Reading) → Reads t r.kind r.contents r.suffix → HasTheReading t r
reads_by t r reads = record {
  is = (reads_is_by_the_rules t r.kind r.contents r.suffix).0 reads;
  only = λ s l. one_is t s r (record { reads = by_reads t s l }) (record { reads = reads });
}

pub the_only : (t : List ℕ) (r : Reading) → HasTheReading t r → IsTheReading t r
the_only t r has = the_reading t r (by_reads t r has.is)
