use Rattle.rl_syntax.proofs.Common.{arith}
use Rattle.rl_lenient.proofs.Names.{is_plain}
use Rattle.rl_lenient.proofs.UnitLemmas.{backslash_not_plain}
use Rattle.rl_syntax.proofs.ScanLemmas.{none_passes}
use Rattle.rl_lenient.proofs.units.plain_len.Goals as goal

pub returns-then-bytes-eq92 : goal.returns-then-bytes-eq92
returns-then-bytes-eq92 c = none_passes (is_plain c.args.kind) c.args.bytes.now 92 (omega arith)
    (backslash_not_plain c.args.kind)
