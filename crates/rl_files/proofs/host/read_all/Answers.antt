use Rattle.std.proofs.Common.{arith, rules}
use Rattle.std.proofs.KnownBytes.{Consumes-kept}
use Rattle.rl_files.proofs.HostLemmas.{consumed_all, read_more, holds_for_all}
use Rattle.rl_files.specs.SystemErrors.{IsTrueOf}
use Rattle.rl_files.proofs.host.read_all.Goals.{in-Ok-read+else-is_err+in_default-why_stopped, in-Err}
use Rattle.rl_files.proofs.host.read_all.Goals as goal

pub returns-in-Ok-eq0-clause-bytes : goal.returns-in-Ok-eq0-clause-bytes
returns-in-Ok-eq0-clause-bytes g c = consumed_all _ _ _ c.loop.bytes.items c.read.new.buf c.in-Ok-eq0.field-0
    c.loop.invariant.read c.in-Ok-eq0.field-0-test (rw c.in-Ok-eq0.is at c.read.ensures.bytes) (omega arith)

pub returns-in-Some-clause-error : goal.returns-in-Some-clause-error
returns-in-Some-clause-error g c = holds_for_all (λ all. IsTrueOf c.args.is_text c.in-Some.why all) _ _
    c.extend_from_slice.new.self.items
    (read_more _ _ _ c.loop.bytes.items _ _ c.loop.invariant.read c.in-Ok-read.ensures.bytes.0 (search rules))
    (rw c.as_slice.ensures.value at c.in-Some.ensures)

pub loop-preserved : goal.loop-preserved
loop-preserved g c = elim c.match-read.branch [
  | in-Ok-read+else-is_err+in_default-why_stopped w ↦ record {
    read = read_more _ _ _ c.loop.bytes.items _ _ c.loop.invariant.read w.in-Ok-read.ensures.bytes.0 (search rules);
    within = search rules;
  }
  | in-Err w ↦ record { read = rw w.bytes-is (Consumes-kept _ _ _ _ c.loop.invariant.read w.in-Err.ensures.bytes); within = search rules }
]
