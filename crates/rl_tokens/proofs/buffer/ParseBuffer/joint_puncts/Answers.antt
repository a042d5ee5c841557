use Rattle.rl_syntax.proofs.Common.{sym}
use Rattle.std.specs.Str.{chars}
use Rattle.rl_tokens.specs.Buffers.{trees_in}
use Rattle.rl_tokens.proofs.MarkLemmas.{rest_marks}
use Rattle.rl_tokens.proofs.TreeRests.{stays_rest}
use Rattle.rl_tokens.proofs.buffer.ParseBuffer.joint_puncts.Goals as goal

pub returns-in_default-clause-other : goal.returns-in_default-clause-other
returns-in_default-clause-other g c s r q =
    c.in_default.ensures.other s r (rw c.fork-ahead.ensures.trees (rw c.span-file.ensures q))

pub returns-clause-rest : goal.returns-clause-rest
returns-clause-rest g c =
    rw (sym c.fork-ahead.ensures.trees)
    (rest_marks (chars c.args.marks.now) _ (trees_in c.fork-ahead.result) c.in-Some.span _ c.in-Some.ensures.taken)

pub returns-clause-onward : goal.returns-clause-onward
returns-clause-onward g c = stays_rest _ _ (returns-clause-rest g c)
