use Rattle.std.specs.Str.{chars}
use Rattle.rl_syntax.proofs.Agreeing.{strict_reads, strict_minus}
use Rattle.rl_lenient.proofs.StrictBytesLemmas.{bytes_are_strict}
use Rattle.rust_literals.proofs.StrictLits.{found_agrees}
use Rattle.rust_literals.proofs.lit.Lit.new.Goals as goal

pub returns-clause-strict_found : goal.returns-clause-strict_found
returns-clause-strict_found g c = found_agrees c.args.token c.of_found.result c.of_found.ensures.reads

pub returns-clause-strict : goal.returns-clause-strict
returns-clause-strict g c = strict_reads (chars c.args.token.text)

pub returns-clause-strict_after_minus : goal.returns-clause-strict_after_minus
returns-clause-strict_after_minus g c = strict_minus (chars c.args.token.text)

pub returns-clause-strict_bytes : goal.returns-clause-strict_bytes
returns-clause-strict_bytes g c = bytes_are_strict (chars c.args.token.text)
