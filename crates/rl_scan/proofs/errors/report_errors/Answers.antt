use Rattle.std.proofs.Common.{inl, inr, refl, subst, sym, ◌∙◌}
use Rattle.rl_scan.specs.Accepted.{IsAcceptedLiteral}
use Rattle.rl_scan.proofs.AcceptLemmas.{at_end, read_end, read_more, read_start, text_same}
use Rattle.rl_scan.proofs.errors.report_errors.Goals as goal

pub loop-token-init : goal.loop-token-init
loop-token-init g c = record {
  same = refl;
  follows = c.new-follower.ensures ∙ sym c.new-tokens.ensures.text;
  read = read_start c.args.job c.new-tokens.result _ c.new-tokens.ensures.text c.new-tokens.ensures.begun;
}

pub loop-token-preserved : goal.loop-token-preserved
loop-token-preserved g c =
    let old = c.loop-token in
    let same = text_same old.tokens c.next_token.new.tokens c.in-Some.token c.in-Some.ensures.next in
    record {
      same = same ∙ old.invariant.same;
      follows = c.in_ok-is_accepted.ensures.same ∙ old.invariant.follows ∙ sym same;
      read = read_more c.args.job old.tokens c.next_token.new.tokens c.in-Some.token c.in_ok-is_accepted.is_accepted
          old.are_accepted c.both-are_accepted.result c.in-Some.ensures.next
          (λ h literal. subst (λ z. IsAcceptedLiteral c.args.job z c.in-Some.token.lo c.in-Some.token.text.now)
          old.invariant.follows (c.in_ok-is_accepted.ensures.accepted h literal))
          c.both-are_accepted.ensures old.invariant.read;
    }

pub returns-in_ok-report_end-in-Some-error : goal.returns-in_ok-report_end-in-Some-error
returns-in_ok-report_end-in-Some-error g c = λ h.
    read_end c.args.job c.args.page.now.source.now c.loop-token.tokens c.next_token.new.tokens c.loop-token.are_accepted
    (c.loop-token.invariant.same ∙ c.new-tokens.ensures.text) c.in_default.ensures.passed c.loop-token.invariant.read
    (inr (
      c.in-Some-error.error.kind,
      c.in-Some-error.ensures.error,
      c.in_ok-report_end-in-Some-error.ensures (c.both.ensures h).0,
    )) (c.both.ensures h).1

pub returns-in-None : goal.returns-in-None
returns-in-None g c = λ h.
    read_end c.args.job c.args.page.now.source.now c.loop-token.tokens c.next_token.new.tokens c.loop-token.are_accepted
    (c.loop-token.invariant.same ∙ c.new-tokens.ensures.text) c.in_default.ensures.passed c.loop-token.invariant.read
    (inl (at_end c.next_token.new.tokens.rest c.in_default.ensures.none c.in-None.ensures.none)) h
