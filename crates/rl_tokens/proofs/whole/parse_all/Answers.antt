use Rattle.rl_syntax.proofs.Common.{arith, chars, inl, inr, common_steps, IfErr-weaker}
use Rattle.std.proofs.lemmas.Result.{IfOk-weaker}
use Rattle.rl_tokens.proofs.WholeLemmas.{memory_alone, parsed_exactly}
use Rattle.rl_tokens.specs.Trees.{stream_view}
use Rattle.rl_tokens.proofs.whole.parse_all.Goals as goal

pub returns-in-Err-clause-parsed : goal.returns-in-Err-clause-parsed
returns-in-Err-clause-parsed g c = grind (arith, common_steps)

pub returns-in-Err-clause-rejected : goal.returns-in-Err-clause-rejected
returns-in-Err-clause-rejected g c = grind (arith, common_steps)

pub returns-in-Ok-clause-parsed : goal.returns-in-Ok-clause-parsed
returns-in-Ok-clause-parsed g c =
    IfOk-weaker c.parse_trees.result _ _
    (λ x h. record { trees = stream_view c.in-Ok.stream; lexes = c.in-Ok.ensures.ok; ran = rw c.new-end.ensures at h })
    c.parse_trees.ensures.parsed

pub returns-in-Ok-clause-rejected : goal.returns-in-Ok-clause-rejected
returns-in-Ok-clause-rejected g c =
    IfErr-weaker c.parse_trees.result _ _
    (λ e h. inr (record { trees = stream_view c.in-Ok.stream; lexes = c.in-Ok.ensures.ok; rejected = rw c.new-end.ensures at h }))
    c.parse_trees.ensures.rejected

pub returns-in-Ok-clause-exactly : goal.returns-in-Ok-clause-exactly
returns-in-Ok-clause-exactly g c =
    λ trees lexes. parsed_exactly g.T.Parse.runs (chars c.args.text.now) c.args.file trees (stream_view c.in-Ok.stream) _
    c.parse_trees.result c.in-Ok.ensures.ok lexes (rw c.new-end.ensures at c.parse_trees.ensures.parsed)
    (rw c.new-end.ensures at c.parse_trees.ensures.rejected)

pub returns-in-Err-clause-exactly : goal.returns-in-Err-clause-exactly
returns-in-Err-clause-exactly g c =
    λ trees lexes. inl (memory_alone (chars c.args.text.now) c.args.file trees c.in-Err.error lexes
    c.in-Err.ensures.rejected)
