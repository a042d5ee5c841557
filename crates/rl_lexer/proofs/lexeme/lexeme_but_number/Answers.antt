use Rattle.rl_syntax.proofs.Common.{Some, sym, ◌∙◌, ap, chars}
use Rattle.rl_lexer.proofs.WordsAndMarks.{mark_first}
use Rattle.rl_syntax.proofs.TailLemmas.{some_tail, some_nearer}
use Rattle.rl_lexer.proofs.lexeme.lexeme_but_number.Goals as goal

pub returns-in_default-byte-clause-rest : goal.returns-in_default-byte-clause-rest
returns-in_default-byte-clause-rest c =
    let t = chars c.in-Some.following.now in
    ap (λ f. Some (f, t)) c.mark_form.ensures ∙ sym (mark_first (chars c.args.text.now) t c.in-Some.byte
    c.in-Some.ensures.some (sym c.if-is_always_token.ensures))

pub returns-in_default-2-clause-following : goal.returns-in_default-2-clause-following
returns-in_default-2-clause-following c = rw c.rebuilt-in_default-2.ensures
    (some_tail _ _ _ c.literal_or_identifier.result c.in-Some.ensures.following
    c.literal_or_identifier.ensures.following)

pub returns-in_default-2-clause-shorter : goal.returns-in_default-2-clause-shorter
returns-in_default-2-clause-shorter c = rw c.rebuilt-in_default-2.ensures
    (some_nearer _ _ _ c.literal_or_identifier.result c.in-Some.ensures.shorter
    c.literal_or_identifier.ensures.following)
