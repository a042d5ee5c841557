use Rattle.rl_lenient.proofs.StrictBytesLemmas.{bytes_are_strict}
use Rattle.rl_syntax.proofs.Common.{common_steps, arith}
use Rattle.rl_lenient.proofs.found.shape.Goals as goal

pub returns-in_err-found-clause-none : goal.returns-in_err-found-clause-none
returns-in_err-found-clause-none c = grind (arith, common_steps) steps 200000

pub returns-clause-reads : goal.returns-clause-reads
returns-clause-reads c = grind (arith, common_steps) steps 200000

pub returns-clause-cut : goal.returns-clause-cut
returns-clause-cut c = grind (arith, common_steps) steps 200000

pub parts-requires : goal.parts-requires
parts-requires c = c.in_ok-found.ensures.found.stands

pub returns-in_err-found-clause-strict_bytes : goal.returns-in_err-found-clause-strict_bytes
returns-in_err-found-clause-strict_bytes c = bytes_are_strict _

pub returns-clause-strict_bytes : goal.returns-clause-strict_bytes
returns-clause-strict_bytes c = bytes_are_strict _
