-- A lemma about a token that the cursor over a text returns. In a flat list of tokens, the token is the same element as
-- the lexed token of the definitions that describes it.
use Rattle.rl_syntax.proofs.Common.{◌≡◌, ℕ, ◌∙◌, ap, encode_utf8_all}
use Rattle.rl_lexer.specs.Lexemes.{lexeme_text}
use Rattle.rl_lexer.specs.Cursors.{form_view, IsBorrowedToken}
use Rattle.rl_syntax.specs.declared.span.Span.{Span}
use Rattle.rl_lexer.specs.Cuts.{LexedToken, end_of}
use Rattle.rl_tokens.specs.Lexing.{flat_form, flat_token}
use Rattle.rl_lexer.specs.declared.cursor.Lexeme.{Lexeme as Borrowed}

-- In a flat list of tokens, a token that the cursor returns is the same element as the lexed token that describes it.
pub flat_borrowed : (file : ℕ) (l : Borrowed) (w : LexedToken) → IsBorrowedToken l w → flat_token file w
    ≡ flat_form (form_view l.form) l.text.now (record { file = file; lo = l.lo; hi = l.hi })
flat_borrowed file l w is =
    let at : ℕ → ℕ → Span = λ lo hi. record { file = file; lo = lo; hi = hi } in
    ap (λ f. flat_form f (encode_utf8_all (lexeme_text w.lexeme)) (at w.at (end_of w))) is.form_is
    ∙ ap (λ x. flat_form (form_view l.form) x (at w.at (end_of w))) is.bytes_are
    ∙ ap (λ n. flat_form (form_view l.form) l.text.now (at n (end_of w))) is.lo_is
    ∙ ap (λ n. flat_form (form_view l.form) l.text.now (at l.lo n)) is.hi_is
