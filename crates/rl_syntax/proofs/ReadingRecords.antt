-- Parse results as records. A text has at most one parse result.
use Rattle.std.proofs.Common.{◌≡◌, ℕ, List}
use Rattle.rl_syntax.specs.declared.kind.Kind.{Kind}
use Rattle.rl_syntax.specs.Reading.{Contents, Reads}
use Rattle.rl_syntax.specs.Readings.{Reading, IsReading, ReadsStrictly, IsTheReading}
use Rattle.rl_syntax.proofs.OneReading.{one_reading, one_strict, read_and_strict}

same_reading : (k l : Kind) (v w : Contents) (x y : List ℕ) → k ≡ l → v ≡ w → x ≡ y
    → ◌≡◌ {A = Reading} (record { kind = k; contents = v; suffix = x }) (record { kind = l; contents = w; suffix = y })
same_reading k l v w x y e f g = cc

pub one_is : (t : List ℕ) (a b : Reading) → IsReading t a → IsReading t b → a ≡ b
one_is t a b p q =
    let e = one_reading t a.kind b.kind a.contents b.contents a.suffix b.suffix p.reads q.reads in
    same_reading a.kind b.kind a.contents b.contents a.suffix b.suffix e.0 e.1 e.2

pub one_strict_is : (t : List ℕ) (a b : Reading) → ReadsStrictly t a → ReadsStrictly t b → a ≡ b
one_strict_is t a b p q =
    let e = one_strict t a.kind b.kind a.contents b.contents a.suffix b.suffix p.strict q.strict in
    same_reading a.kind b.kind a.contents b.contents a.suffix b.suffix e.0 e.1 e.2

pub both_are : (t : List ℕ) (a b : Reading) → IsReading t a → ReadsStrictly t b → a ≡ b
both_are t a b p q =
    let e = read_and_strict t a.kind b.kind a.contents b.contents a.suffix b.suffix p.reads q.strict in
    same_reading a.kind b.kind a.contents b.contents a.suffix b.suffix e.0 e.1 e.2

-- A parse result of a text is its only one.
pub the_reading : (t : List ℕ) (r : Reading) → Reads t r.kind r.contents r.suffix → IsTheReading t r
the_reading t r reads =
    record { reads = record { reads = reads }; only = λ s is. one_is t s r is (record { reads = reads }) }

-- Two parse results of a text are equal. The prover infers the arguments of this lemma from its use.
inferred : (t : List ℕ) (a b : Reading) → IsReading t a → IsReading t b → a ≡ b
inferred t a b p q = one_is _ _ _ p q
