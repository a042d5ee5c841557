use Rattle.rl_syntax.proofs.Common.{◌∙◌, ap, arith, both_ways, chars, length}
use Rattle.rl_style.specs.Calls.{calls_seen}
use Rattle.rl_style.specs.Restylable.{IsLiteralOfSource, RestylableState, is_field}
use Rattle.rl_style.proofs.RestylableLemmas.{Steps, literal_behind, literal_here, none_behind, none_here, state}
use Rattle.rl_style.proofs.restylable.Restylables.next.Goals as goal

pub returns-then-is_literal-clause-found : goal.returns-then-is_literal-clause-found
returns-then-is_literal-clause-found c =
    let first = c.self.inside in
    let now = c.loop-token in
    literal_here c.args.self.now (state first.tokens first.last first.end (calls_seen first.calls) first.has_stray)
    (state now.self-inside.tokens now.last now.end (calls_seen now.calls) now.has_stray)
    (record { token = c.in-Some.token; is_field = c.is_field.result; in_macro = c.is_in_call.result })
    c.next.new.self c.last_after-last.result (calls_seen c.advance_calls-calls.result) c.stray_after-has_stray.result c.self.view_is
    (record {
      last_is = c.last_after-last.ensures;
      calls_are = c.advance_calls-calls.ensures;
      stray_is = c.stray_after-has_stray.ensures;
    })
    c.in-Some.ensures.next (c.is_literal.ensures.0 c.if-is_literal.true)
    (c.is_field.ensures ∙ ap (λ z. is_field now.last c.in-Some.token.text.now (chars z)) c.rest.ensures)
    c.is_in_call.ensures c.loop-token.invariant.literal

pub returns-then-is_literal-clause-shorter : goal.returns-then-is_literal-clause-shorter
returns-then-is_literal-clause-shorter c = omega (
  arith,
  c.in-Some.ensures.shorter,
  c.loop-token.invariant.nearer,
  ap (λ (z : RestylableState). length z.tokens.rest) c.self.view_is,
)

pub loop-token-preserved : goal.loop-token-preserved
loop-token-preserved c =
    let now = c.loop-token in
    let was = state now.self-inside.tokens now.last now.end (calls_seen now.calls) now.has_stray in
    let last = c.last_after-last.result in
    let calls = calls_seen c.advance_calls-calls.result in
    let stray = c.stray_after-has_stray.result in
    let steps : Steps was c.in-Some.token last calls stray = record {
      last_is = c.last_after-last.ensures;
      calls_are = c.advance_calls-calls.ensures;
      stray_is = c.stray_after-has_stray.ensures;
    } in
    let is_other : IsLiteralOfSource c.in-Some.token → ⊥ = λ is. both_ways _ c.if-is_literal.false
    (c.is_literal.ensures.1 is) in
    record {
      nearer = omega (arith, c.in-Some.ensures.shorter, c.loop-token.invariant.nearer);
      literal = λ it new g. c.loop-token.invariant.literal it new
          (literal_behind was c.in-Some.token c.next.new.self last calls stray steps c.in-Some.ensures.next is_other it new g);
      none = λ new g. c.loop-token.invariant.none new
          (none_behind was c.in-Some.token c.next.new.self last calls stray steps c.in-Some.ensures.next is_other new g);
    }

pub returns-clause-none : goal.returns-clause-none
returns-clause-none c =
    let first = c.self.inside in
    let now = c.loop-token in
    none_here c.args.self.now (state first.tokens first.last first.end (calls_seen first.calls) first.has_stray)
    (state now.self-inside.tokens now.last now.end (calls_seen now.calls) now.has_stray) c.next.new.self c.self.view_is
    c.in_default.ensures.none c.in_default.ensures.stays c.loop-token.invariant.none
