use Rattle.rl_syntax.proofs.TailLemmas.{mapped, mapped_tail, some_nearer}
use Rattle.rl_lexer.proofs.source.other_token.Goals as goal

pub returns-in-Some-eq47-default-clause-following : goal.returns-in-Some-eq47-default-clause-following
returns-in-Some-eq47-default-clause-following c = mapped_tail _ _ c.args.text.now c.in-Some-eq47-default.following.now
    c.after_doc.result c.ended.result c.ended.ensures c.in-Some-eq47-default.ensures.following
    c.after_doc.ensures.following

pub returns-in-Some-eq47-default-clause-shorter : goal.returns-in-Some-eq47-default-clause-shorter
returns-in-Some-eq47-default-clause-shorter c = some_nearer _ c.args.text.now c.in-Some-eq47-default.following.now
    c.ended.result c.in-Some-eq47-default.ensures.shorter (mapped _ _ c.after_doc.result c.ended.result c.ended.ensures
    c.after_doc.ensures.following)

pub returns-in-Some-eq39-default-clause-following : goal.returns-in-Some-eq39-default-clause-following
returns-in-Some-eq39-default-clause-following c = mapped_tail _ _ c.args.text.now c.in-Some-eq39-default.following.now
    c.after_lifetime.result c.ended-in-Some-eq39-default.result c.ended-in-Some-eq39-default.ensures
    c.in-Some-eq39-default.ensures.following c.after_lifetime.ensures.following

pub returns-in-Some-eq39-default-clause-shorter : goal.returns-in-Some-eq39-default-clause-shorter
returns-in-Some-eq39-default-clause-shorter c = some_nearer _ c.args.text.now c.in-Some-eq39-default.following.now
    c.ended-in-Some-eq39-default.result c.in-Some-eq39-default.ensures.shorter
    (mapped _ _ c.after_lifetime.result c.ended-in-Some-eq39-default.result c.ended-in-Some-eq39-default.ensures
    c.after_lifetime.ensures.following)

pub returns-in-Some-eq114-default-clause-following : goal.returns-in-Some-eq114-default-clause-following
returns-in-Some-eq114-default-clause-following c = mapped_tail _ _ c.args.text.now c.in-Some-eq114-default.following.now
    c.after_marked.result c.ended-in-Some-eq114-default.result c.ended-in-Some-eq114-default.ensures
    c.in-Some-eq114-default.ensures.following c.after_marked.ensures.following

pub returns-in-Some-eq114-default-clause-shorter : goal.returns-in-Some-eq114-default-clause-shorter
returns-in-Some-eq114-default-clause-shorter c = some_nearer _ c.args.text.now c.in-Some-eq114-default.following.now
    c.ended-in-Some-eq114-default.result c.in-Some-eq114-default.ensures.shorter
    (mapped _ _ c.after_marked.result c.ended-in-Some-eq114-default.result c.ended-in-Some-eq114-default.ensures
    c.after_marked.ensures.following)
