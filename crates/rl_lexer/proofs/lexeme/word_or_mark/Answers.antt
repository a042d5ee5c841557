use Rattle.rl_syntax.proofs.Common.{refl, chars}
use Rattle.rl_lexer.proofs.WordsAndMarks.{mark_found, prefix_word_found, slash_found, word_found}
use Rattle.rl_lexer.proofs.lexeme.word_or_mark.Goals as goal

pub returns-in-Word-clause-found : goal.returns-in-Word-clause-found
returns-in-Word-clause-found c =
    word_found (chars c.args.text.now) (chars c.in_ok-byte.following.now) _ c.in_ok-byte.byte c.in_ok-byte.ensures.some
    (c.in-Word.ensures.word refl) c.skip_id_continue.ensures.rest

pub returns-in-Mark-clause-found : goal.returns-in-Mark-clause-found
returns-in-Mark-clause-found c =
    mark_found (chars c.args.text.now) (chars c.in_ok-byte.following.now) c.in_ok-byte.byte _ c.in_ok-byte.ensures.some
    (c.in-Mark.ensures.mark refl) c.mark_form.ensures

pub returns-in-Prefix-clause-found : goal.returns-in-Prefix-clause-found
returns-in-Prefix-clause-found c =
    prefix_word_found (chars c.args.text.now) (chars c.in_ok-byte.following.now) _ c.in_ok-byte.byte
    c.in_ok-byte.ensures.some (c.in-Prefix.ensures.prefix refl) (c.if-continues_word.ensures refl)
    c.skip_id_continue-in-Prefix.ensures.rest

pub returns-in-Slash-clause-found : goal.returns-in-Slash-clause-found
returns-in-Slash-clause-found c =
    slash_found (chars c.args.text.now) (chars c.in_ok-byte.following.now) c.in_ok-byte.byte c.in_ok-byte.ensures.some
    (c.in-Slash.ensures.slash refl) (c.if-begins_other_than_comment.ensures refl)
