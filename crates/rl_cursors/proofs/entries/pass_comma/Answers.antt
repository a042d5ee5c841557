use Rattle.rl_syntax.proofs.Common.{inl, subst, chars}
use Rattle.rl_lexer.specs.Cursors.{CursorState}
use Rattle.rl_lexer.specs.Cuts.{BeginsNoLexeme}
use Rattle.rl_cursors.proofs.entries.pass_comma.Goals as goal

pub returns-in_default-clause-passed : goal.returns-in_default-clause-passed
returns-in_default-clause-passed c = inl
    (subst (λ (t : CursorState). BeginsNoLexeme (chars t.rest)) c.fork-ahead.ensures c.in_default.ensures.none)
