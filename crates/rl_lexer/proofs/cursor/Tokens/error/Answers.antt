-- If the text after the cursor isn't empty and begins with no lexeme, the function returns the first error of the text.
use Rattle.rl_syntax.proofs.Common.{arith, common_steps, chars}
use Rattle.rl_lexer.specs.Cuts.{BeginsNoLexeme}
use Rattle.rl_lexer.proofs.ErrorKinds.{stops_here, none_some}
use Rattle.rl_lexer.proofs.cursor.Tokens.error.Goals as goal

pub returns-clause-stopped : goal.returns-clause-stopped
returns-clause-stopped c =
    rw (← c.self.view_is)
    (none_some c.first_lexeme.result (BeginsNoLexeme (chars c.self.inside.rest.now)) c.is_some.result c.is_some.ensures
    c.if-is_some.false c.first_lexeme.ensures.none)

pub returns-clause-error : goal.returns-clause-error
returns-clause-error c =
    let R = c.self.inside.rest.now in
    let none : BeginsNoLexeme (chars R) = none_some c.first_lexeme.result _ c.is_some.result c.is_some.ensures
    c.if-is_some.false c.first_lexeme.ensures.none in
    rw (← c.self.view_is)
    (stops_here c.self.inside.text.now R c.new.result c.error_kind-kind.result c.self.invariant c.is_empty.result
    c.is_empty.ensures c.if-is_empty.false none c.error_kind-kind.ensures c.new.ensures).error

pub returns-clause-first : goal.returns-clause-first
returns-clause-first c =
    let R = c.self.inside.rest.now in
    let none : BeginsNoLexeme (chars R) = none_some c.first_lexeme.result _ c.is_some.result c.is_some.ensures
    c.if-is_some.false c.first_lexeme.ensures.none in
    rw (← c.self.view_is)
    (stops_here c.self.inside.text.now R c.new.result c.error_kind-kind.result c.self.invariant c.is_empty.result
    c.is_empty.ensures c.if-is_empty.false none c.error_kind-kind.ensures c.new.ensures).first

pub overflow_sub-at : goal.overflow_sub-at
overflow_sub-at c = grind (arith, common_steps)

pub returns-clause-place : goal.returns-clause-place
returns-clause-place c = grind (arith, common_steps)
