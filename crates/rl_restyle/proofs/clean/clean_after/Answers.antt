use Rattle.rl_syntax.proofs.Common.{chars, sym, ◌∙◌}
use Rattle.rl_restyle.proofs.CleanLemmas.{flawed, prefixed, without_error}
use Rattle.rl_restyle.proofs.clean.clean_after.Goals as goal

pub returns-then-ends_with_prefix : goal.returns-then-ends_with_prefix
returns-then-ends_with_prefix c =
    let (front, stands) = c.requires in
    prefixed (chars c.args.source.now) c.args.literal.token.lo (chars c.args.literal.token.text.now) c.between.result.now
    c.args.before front c.between.utf8 stands (c.between.ensures front stands)
    (sym c.ends_with_prefix.ensures ∙ c.if-ends_with_prefix.true)

pub returns-in-None : goal.returns-in-None
returns-in-None c = without_error (chars c.args.source.now) c.args.literal.token.lo (chars c.args.literal.token.text.now)
    c.between.result.now c.args.before c.if-not-before.false c.between.utf8 c.between.ensures
    (sym c.ends_with_prefix.ensures ∙ c.if-ends_with_prefix.false) c.in-None.ensures.none

pub returns-in-Some : goal.returns-in-Some
returns-in-Some c = flawed (chars c.args.source.now) c.args.literal.token.lo (chars c.args.literal.token.text.now)
    c.args.before c.in-Some.field-0 c.in-Some.ensures.some
