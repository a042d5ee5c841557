use Rattle.rl_syntax.proofs.Common.{◌∙◌, sym, chars}
use Rattle.rl_syntax.proofs.TailLemmas.{tail_step}
use Rattle.rl_lexer.proofs.BadQuotes.{next_passes}
use Rattle.rl_lexer.proofs.source.bad_quote.after_next_quote.Goals as goal

pub loop-c-preserved : goal.loop-c-preserved
loop-c-preserved c = record {
  following = tail_step _ _ _ (tail_step _ _ _ c.loop-c.invariant.following c.in-Some.ensures.following)
      c.in_ok-rest.ensures.following;
  same = next_passes (chars c.loop-c.rest.now) (chars c.in-Some.following.now) (chars c.in_ok-rest.rest.now) c.in-Some.c
      c.in-Some.ensures.chars c.if-c-eq39.false (sym c.in_ok-rest.ensures.rest) ∙ c.loop-c.invariant.same;
}
