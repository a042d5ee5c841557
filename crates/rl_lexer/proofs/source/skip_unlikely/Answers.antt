use Rattle.rl_syntax.proofs.Common.{◌≤◌, ◌∙◌, ap, subst, arith, chars}
use Rattle.rl_syntax.specs.Texts.{IsTail, is_white}
use Rattle.rl_syntax.specs.Mirrors.UnlikelyAt.{byte_before, literal_free_prefix_len}
use Rattle.rl_syntax.proofs.TailLemmas.{tail_step}
use Rattle.rl_syntax.proofs.Rests.{tail_drop}
use Rattle.rl_lexer.proofs.LiteralSteps.{reach_run}
use Rattle.rl_lexer.proofs.Pieces.{run_ends}
use Rattle.rl_lexer.proofs.UnlikelyFronts.{unlikely-boundary, unlikely-holds, unlikely-within}
use Rattle.rl_lexer.proofs.source.skip_unlikely.Goals as goal

pub range_from-requires : goal.range_from-requires
range_from-requires c = λ _. unlikely-boundary c.args.text.now c.literal_free_prefix_len-at.result c.utf8.text
    (subst (λ z. c.literal_free_prefix_len-at.result ≤ literal_free_prefix_len z) c.as_bytes-bytes.ensures.value c.literal_free_prefix_len-at.ensures)

pub byte_before-requires : goal.byte_before-requires
byte_before-requires c = omega (arith, unlikely-within c.as_bytes-bytes.result.now, c.literal_free_prefix_len-at.ensures)

pub skip_all_comments-requires : goal.skip_all_comments-requires
skip_all_comments-requires c = run_ends is_white (chars c.after_word-rest.result.now) _ c.skip_white.ensures.rest

pub returns-clause-holds : goal.returns-clause-holds
returns-clause-holds c =
    let t = c.args.text.now in
    let at = c.literal_free_prefix_len-at.result in
    unlikely-holds t c.range_from.result.now (chars c.after_word-rest.result.now)
    (chars c.skip_all_comments.result.now) at c.byte_before.result c.utf8.text c.range_from.utf8
    (subst (λ z. at ≤ literal_free_prefix_len z) c.as_bytes-bytes.ensures.value c.literal_free_prefix_len-at.ensures)
    c.range_from.ensures.value (c.byte_before.ensures ∙ ap (λ z. byte_before z at) c.as_bytes-bytes.ensures.value)
    c.after_word-rest.ensures.rest (reach_run (chars c.after_word-rest.result.now) _ _ c.skip_white.ensures.rest
    c.skip_all_comments.ensures.reaches)

pub returns-clause-following : goal.returns-clause-following
returns-clause-following c =
    let tail : IsTail c.args.text.now c.range_from.result.now = tail_drop c.args.text.now c.range_from.result.now
    c.literal_free_prefix_len-at.result c.range_from.ensures.value c.range_from.utf8 in
    tail_step _ _ _ (tail_step _ _ _ (tail_step _ _ _ tail c.after_word-rest.ensures.following)
    c.skip_white.ensures.following) c.skip_all_comments.ensures.following
