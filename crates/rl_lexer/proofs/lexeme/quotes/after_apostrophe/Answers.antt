use Rattle.rl_syntax.proofs.Common.{◌∙◌, chars}
use Rattle.rl_syntax.proofs.TailLemmas.{tail_step}
use Rattle.rl_lexer.proofs.LexemeSteps.{apostrophe_step}
use Rattle.rl_lexer.proofs.lexeme.quotes.after_apostrophe.Goals as goal

pub returns-then-c-eq39-clause-following : goal.returns-then-c-eq39-clause-following
returns-then-c-eq39-clause-following c = tail_step _ _ _ c.loop-c.invariant.following c.in-Some.ensures.following

pub loop-c-preserved : goal.loop-c-preserved
loop-c-preserved c = record {
  following = tail_step c.args.text.now c.loop-c.rest.now c.in-Some.following.now c.loop-c.invariant.following
      c.in-Some.ensures.following;
  same = apostrophe_step (chars c.loop-c.rest.now) (chars c.in-Some.following.now) c.in-Some.c c.in-Some.ensures.chars
      c.if-c-eq39.false c.if-c-eq10.false ∙ c.loop-c.invariant.same;
}
