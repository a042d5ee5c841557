-- The loop over a text's tokens reads one token in each iteration. At the end, the whole text is lexed, or the result is the
-- text's first error.
use Rattle.rl_syntax.proofs.Common.{◌≡◌, [], ◌∙◌}
use Rattle.rl_cursors.specs.Groups.{open_in}
use Rattle.rl_cursors.proofs.GroupLemmas.{passed_none, passed_more, error_at_end, whole_at_end, rejected_token, error_told, told_end}
use Rattle.rl_cursors.proofs.groups.first_error.Goals as goal

pub loop-token-init : goal.loop-token-init
loop-token-init c = record {
  has = passed_none c.args.text.now c.new-tokens.result.rest (open_in c.new-groups.result) c.new-tokens.ensures.skipped
      c.new-tokens.ensures.following.following c.new-groups.ensures;
  same = c.new-tokens.ensures.text;
}

pub loop-token-preserved : goal.loop-token-preserved
loop-token-preserved c = record {
  has = passed_more c.args.text.now c.loop-token.tokens c.next.new.self (open_in c.loop-token.groups)
      (open_in c.pass.new.self) c.in-Some.token c.loop-token.invariant.same c.loop-token.invariant.has
      c.in-Some.ensures.next c.in_default-pass.ensures.passed;
  same = c.in-Some.ensures.next.same ∙ c.loop-token.invariant.same;
}

pub returns-in-Some-pass-clause-error : goal.returns-in-Some-pass-clause-error
returns-in-Some-pass-clause-error c =
    rw c.new.ensures
    (rejected_token c.args.text.now c.loop-token.tokens c.next.new.self (open_in c.loop-token.groups) c.in-Some.token
    c.in-Some-pass.kind c.utf8.text c.loop-token.invariant.same c.loop-token.invariant.has c.in-Some.ensures.next
    c.in-Some-pass.ensures.rejected)

pub returns-in-None-clause-error : goal.returns-in-None-clause-error
returns-in-None-clause-error c =
    let ends : c.loop-token.tokens.rest ≡ [] = told_end c.loop-token.tokens c.next.new.self c.in_default.ensures.stays
    c.in_default.ensures.none c.in-None.ensures.none in
    error_at_end c.args.text.now c.loop-token.tokens.rest (open_in c.loop-token.groups) c.error_at_end.result
    c.utf8.text c.loop-token.invariant.has ends c.error_at_end.ensures

pub returns-in-None-clause-whole : goal.returns-in-None-clause-whole
returns-in-None-clause-whole c =
    let ends : c.loop-token.tokens.rest ≡ [] = told_end c.loop-token.tokens c.next.new.self c.in_default.ensures.stays
    c.in_default.ensures.none c.in-None.ensures.none in
    whole_at_end c.args.text.now c.loop-token.tokens.rest (open_in c.loop-token.groups) c.error_at_end.result
    c.loop-token.invariant.has ends c.error_at_end.ensures

pub returns-in-Some-error-clause-error : goal.returns-in-Some-error-clause-error
returns-in-Some-error-clause-error c =
    error_told c.args.text.now c.loop-token.tokens c.next.new.self (open_in c.loop-token.groups) c.in-Some-error.error
    c.loop-token.invariant.same c.in_default.ensures.stays c.loop-token.invariant.has c.in-Some-error.ensures.first
