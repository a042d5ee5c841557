use Rattle.rl_syntax.proofs.Common.{inl, inr, refl, sym, subst, both_ways, chars}
use Rattle.rl_lexer.specs.Cursors.{CursorState}
use Rattle.rl_lexer.specs.Sources.{BeginsNoSource, PassesTo}
use Rattle.rl_syntax.proofs.TailLemmas.{tail_step, if_none}
use Rattle.rl_lexer.proofs.LiteralSteps.{passed_join, passes_held, passes_one}
use Rattle.rl_lexer.proofs.sources.Sources.next_literal.Goals as goal

pub loop-token-init : goal.loop-token-init
loop-token-init c = inl refl

pub invariant_of-self : goal.invariant_of-self
invariant_of-self c = record { is_text = c.self.invariant.is_text; following = tail_step _ _ _ c.self.invariant.following c.skip_unlikely-self-inside.ensures.following }

pub returns-in_err-token-clause-passed : goal.returns-in_err-token-clause-passed
returns-in_err-token-clause-passed c =
    let left = c.self.inside.rest.now in
    let between : CursorState = record { text = c.self.inside.text.now; rest = c.skip_unlikely-self-inside.result.now }
    in
    let held = passes_held c.self.inside.text.now left between.rest c.self.invariant
    c.skip_unlikely-self-inside.ensures.following c.skip_unlikely-self-inside.ensures.holds in
    let passed : PassesTo c.args.self.now between = passed_join c.args.self.now c.loop-token.self between
    c.loop-token.invariant (subst (λ z. PassesTo z between) c.self.view_is held) in
    if_none c.from_residual.result (subst (PassesTo c.args.self.now) (sym c.in_err-token.ensures.stays) passed)

pub returns-in_err-token-clause-none : goal.returns-in_err-token-clause-none
returns-in_err-token-clause-none c = if_none c.from_residual.result
    (subst (λ (z : CursorState). BeginsNoSource (chars z.rest)) (sym c.in_err-token.ensures.stays)
    c.in_err-token.ensures.none)

pub returns-then-is_literal-clause-found : goal.returns-then-is_literal-clause-found
returns-then-is_literal-clause-found c =
    let left = c.self.inside.rest.now in
    let between : CursorState = record { text = c.self.inside.text.now; rest = c.skip_unlikely-self-inside.result.now }
    in
    let held = passes_held c.self.inside.text.now left between.rest c.self.invariant
    c.skip_unlikely-self-inside.ensures.following c.skip_unlikely-self-inside.ensures.holds in
    record {
      between = between;
      passes = passed_join c.args.self.now c.loop-token.self between c.loop-token.invariant
          (subst (λ z. PassesTo z between) c.self.view_is held);
      takes = c.in_ok-token.ensures.next;
      is_literal = c.is_literal.ensures.0 c.if-is_literal.true;
    }

pub loop-token-preserved : goal.loop-token-preserved
loop-token-preserved c =
    let left = c.self.inside.rest.now in
    let between : CursorState = record { text = c.self.inside.text.now; rest = c.skip_unlikely-self-inside.result.now }
    in
    let held = passes_held c.self.inside.text.now left between.rest c.self.invariant
    c.skip_unlikely-self-inside.ensures.following c.skip_unlikely-self-inside.ensures.holds in
    let passed : PassesTo c.args.self.now between = passed_join c.args.self.now c.loop-token.self between
    c.loop-token.invariant (subst (λ z. PassesTo z between) c.self.view_is held) in
    inr (passed_join c.args.self.now between c.next.new.self (inr passed)
    (passes_one between c.next.new.self c.in_ok-token.token c.in_ok-token.ensures.next
    (λ is. both_ways _ c.if-is_literal.false (c.is_literal.ensures.1 is))))
