-- Each iteration of the lexer's loop consumes one token. At the end the whole text is lexed, or the text's first error
-- is at the current position.
use Rattle.rl_syntax.proofs.Common.{◌≡◌, [], ◌∙◌, IfErr-weaker}
use Rattle.std.proofs.lemmas.Result.{err_from_is_err_and}
use Rattle.rl_tokens.specs.Mirrors.TreeBuilders.{groups_of}
use Rattle.rl_lexer.specs.Cuts.{EndsInGroup}
use Rattle.rl_tokens.proofs.LexLoop.{token_fits, has_none, has_more}
use Rattle.rl_tokens.proofs.LexEnds.{all_done, ends_open, rejected_token, error_told, told_end}
use Rattle.rl_tokens.proofs.lexer.trees_of.Goals as goal

pub loop-token-init : goal.loop-token-init
loop-token-init g c = record {
  has = has_none c.args.text.now c.new-tokens.result.rest c.args.file c.new-nest.result c.new-tokens.ensures.skipped
      c.new-tokens.ensures.following.following c.new-nest.ensures.groups c.new-nest.ensures.flat
      c.new-nest.ensures.file;
  same = c.new-tokens.ensures.text;
}

pub add-requires : goal.add-requires
add-requires g c = token_fits c.in-Some.ensures.next

pub loop-token-preserved : goal.loop-token-preserved
loop-token-preserved g c = record {
  has = has_more c.args.text.now c.loop-token.tokens c.next.new.self c.args.file c.loop-token.nest c.add.new.self
      c.in-Some.token c.loop-token.invariant.same c.loop-token.invariant.has c.in-Some.ensures.next
      c.in_ok-add.ensures.ok;
  same = c.in-Some.ensures.next.same ∙ c.loop-token.invariant.same;
}

pub returns-in_err-add-clause-rejected : goal.returns-in_err-add-clause-rejected
returns-in_err-add-clause-rejected g c =
    let p = err_from_is_err_and c.from_residual.result c.from_residual.ensures.1 in
    rw (p.1, p.2)
    (rejected_token c.args.text.now c.loop-token.tokens c.next.new.self c.args.file c.loop-token.nest c.in-Some.token
    c.in_err-add.field-0.0
    c.utf8.text c.loop-token.invariant.same c.loop-token.invariant.has c.in-Some.ensures.next c.in_err-add.ensures.at
    c.in_err-add.ensures.kind)

pub returns-in-None-clause-trees : goal.returns-in-None-clause-trees
returns-in-None-clause-trees g c =
    let empty : c.loop-token.tokens.rest ≡ [] = told_end c.loop-token.tokens c.next.new.self c.in_default.ensures.stays
    c.in_default.ensures.none c.in-None.ensures.none in
    all_done c.args.text.now c.loop-token.tokens.rest c.args.file c.loop-token.nest c.finish.result
    c.loop-token.invariant.has empty c.finish.ensures.none_open c.finish.ensures.flat

pub returns-in-None-clause-rejected : goal.returns-in-None-clause-rejected
returns-in-None-clause-rejected g c =
    let empty : c.loop-token.tokens.rest ≡ [] = told_end c.loop-token.tokens c.next.new.self c.in_default.ensures.stays
    c.in_default.ensures.none c.in-None.ensures.none in
    IfErr-weaker c.finish.result (EndsInGroup (groups_of c.loop-token.nest)) _
    (λ e h. ends_open c.args.text.now c.loop-token.tokens.rest c.args.file c.loop-token.nest e c.utf8.text
    c.loop-token.invariant.has empty h) c.finish.ensures.err

pub returns-in-Some-error-clause-rejected : goal.returns-in-Some-error-clause-rejected
returns-in-Some-error-clause-rejected g c =
    error_told c.args.text.now c.loop-token.tokens c.next.new.self c.args.file c.loop-token.nest c.in-Some-error.error
    c.loop-token.invariant.same c.in_default.ensures.stays c.loop-token.invariant.has c.in-Some-error.ensures.first

pub loop-token-smaller : goal.loop-token-smaller
loop-token-smaller g c = c.in-Some.ensures.shorter

pub returns-in_err-add-clause-trees : goal.returns-in_err-add-clause-trees
returns-in_err-add-clause-trees g c =
    let p = err_from_is_err_and c.from_residual.result c.from_residual.ensures.1 in
    rw p.1 tt
