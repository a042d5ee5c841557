-- Lists whose next token doesn't begin a literal.
use Rattle.rl_syntax.proofs.Common.{◌≡◌, ◌≢◌, ◌⊎◌, inl, inr, [], Option, Some, None, refl, sym, subst}
use Rattle.std.specs.Prelude.{IfNone}
use Rattle.std.specs.Str.{chars}
use Rattle.rl_lexer.specs.declared.cursor.Lexeme.{Lexeme}
use Rattle.rl_lexer.specs.declared.lexeme.Form.{Form as FoundForm}
use Rattle.rl_lexer.specs.declared.lexeme.Form.TheVariants as found
use Rattle.rl_lexer.specs.Cursors.{CursorState, TakesNext, form_view}
use Rattle.rl_lexer.specs.Lexemes.{LexemeForm, LiteralForm, MarkForm}
use Rattle.rl_lexer.specs.Cuts.{BeginsLexeme, BeginsNoLexeme}
use Rattle.rl_cursors.specs.NextLiterals.{BeginsNone, HasNoNumber, HasNoNextLiteral}

-- If `P` holds, `P` holds on the condition that an option is `None`.
pub if_none : {T P : Type 0} (o : Option T) → P → IfNone o P
if_none None p = p
if_none (Some x) p = tt

-- If the form of a token in the code isn't `Literal`, its form in the definitions isn't `LiteralForm`.
pub other_form : (f : FoundForm) → (f ≡ found.Literal → ⊥) → form_view f ≢ LiteralForm
other_form found.Literal h e = h refl
other_form found.Identifier h e = absurd (cc)
other_form (found.Delimiter c) h e = absurd (cc)
other_form (found.Mark c) h e = absurd (cc)

-- If the next token of a list is a minus, and no number follows the minus, the list has no next literal.
pub no_number : (old between : CursorState) (m : Lexeme) → TakesNext old m between → form_view m.form ≡ MarkForm 45
    → HasNoNumber between → HasNoNextLiteral old
no_number old between m takes is none =
    inr (m, between, takes, subst (λ (f : LexemeForm). BeginsNone f m.text.now between) (sym is) (inr none))

-- The cursor isn't at the end of a list, and no token begins there. So it is impossible that the cursor is at the end, or
-- that a token begins there.
pub nothing_else : (t ahead : CursorState) → t.rest ≢ [] → ahead ≡ t → BeginsNoLexeme (chars ahead.rest)
    → ((t.rest ≡ []) ⊎ BeginsLexeme (chars t.rest)) → ⊥
nothing_else t ahead some is none (inl nothing) = some nothing
nothing_else t ahead some is none (inr (after, token)) = subst (λ (z : CursorState). BeginsNoLexeme (chars z.rest)) is
    none after token
