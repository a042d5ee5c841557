use Rattle.rl_syntax.proofs.Common.{inl, inr, subst, chars, arith}
use Rattle.rl_lexer.specs.Cursors.{CursorState, TakesNext}
use Rattle.rl_lexer.specs.Cuts.{BeginsNoLexeme}
use Rattle.rl_cursors.proofs.entries.take_part.Goals as goal

pub returns-in_default-clause-none : goal.returns-in_default-clause-none
returns-in_default-clause-none c = inl
    (subst (λ (t : CursorState). BeginsNoLexeme (chars t.rest)) c.fork-ahead.ensures c.in_default.ensures.none)

pub returns-then-part-dot-clause-missed : goal.returns-then-part-dot-clause-missed
returns-then-part-dot-clause-missed c =
    let at = c.next.new.self in
    let takes = subst (λ (t : CursorState). TakesNext t c.in-Some.dot at) c.fork-ahead.ensures c.in-Some.ensures.next in
    inl (record {
      loose = inr (record {
        dot = c.in-Some.dot;
        at_part = at;
        part = c.in_ok-part.part;
        following = c.take_name.new.tokens;
        takes_dot = record { takes = takes; is_dot = c.if-not-is_mark.ensures };
        named = c.in_ok-part.ensures.taken;
        loose = λ e. absurd (omega (arith, e, c.if-part-dot.true));
      });
      missed = c.missed-then-part-dot.ensures;
    })
