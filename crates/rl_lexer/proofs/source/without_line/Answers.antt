use Rattle.rl_syntax.proofs.TailLemmas.{tail_self, tail_step}
use Rattle.rl_syntax.proofs.Common.{inl, sym, ◌∙◌}
use Rattle.rl_lexer.proofs.SourceFronts.{script_line}
use Rattle.rl_lexer.proofs.source.without_line.Goals as goal

pub returns-clause-front : goal.returns-clause-front
returns-clause-front c =
    inl (script_line _ _ _ _ _ c.in-Some.ensures.rest c.in-Some-strip_byte.ensures.rest c.skip.ensures.skipped
    (sym c.begins_with_char.ensures ∙ c.if-begins_with_char.false) c.line_end.ensures.rest)

pub returns-then-begins_with_char-clause-following : goal.returns-then-begins_with_char-clause-following
returns-then-begins_with_char-clause-following c = tail_self c.args.text.now c.utf8.text

pub returns-clause-following : goal.returns-clause-following
returns-clause-following c = tail_step _ c.in-Some.second.now _ c.in-Some.ensures.following
    (tail_step _ c.in-Some-strip_byte.following.now _ c.in-Some-strip_byte.ensures.following
    c.line_end.ensures.following)
