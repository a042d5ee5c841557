use Rattle.rl_syntax.proofs.Common.{common_steps, arith, chars}
use Rattle.rl_lexer.specs.Sources.{BeginsNoSource}
use Rattle.rl_lexer.proofs.ErrorKinds.{none_some}
use Rattle.rl_lexer.proofs.SourceCuts.{stops_source}
use Rattle.rl_lexer.proofs.sources.Sources.error.Goals as goal

pub returns-clause-error : goal.returns-clause-error
returns-clause-error c =
    let R = c.self.inside.rest.now in
    let none : BeginsNoSource (chars R) = none_some c.first_source_token.result _ c.is_some.result c.is_some.ensures
    c.if-is_some.false c.first_source_token.ensures.none in
    rw (← c.self.view_is)
    (stops_source c.self.inside.text.now R c.new.result c.source_error_kind-kind.result c.self.invariant
    c.is_empty.result c.is_empty.ensures c.if-is_empty.false none c.source_error_kind-kind.ensures
    c.new.ensures).error

pub returns-clause-first : goal.returns-clause-first
returns-clause-first c =
    let R = c.self.inside.rest.now in
    let none : BeginsNoSource (chars R) = none_some c.first_source_token.result _ c.is_some.result c.is_some.ensures
    c.if-is_some.false c.first_source_token.ensures.none in
    rw (← c.self.view_is)
    (stops_source c.self.inside.text.now R c.new.result c.source_error_kind-kind.result c.self.invariant
    c.is_empty.result c.is_empty.ensures c.if-is_empty.false none c.source_error_kind-kind.ensures
    c.new.ensures).first

pub overflow_sub-at : goal.overflow_sub-at
overflow_sub-at c = grind (arith, common_steps) steps 300000

pub returns-clause-place : goal.returns-clause-place
returns-clause-place c = grind (arith, common_steps) steps 300000
