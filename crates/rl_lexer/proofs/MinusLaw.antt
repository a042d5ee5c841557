-- Literal tokens don't begin with a minus.
use Rattle.std.proofs.Common.{◌≡◌, ℕ, true, false, List, ap, sym, ◌∙◌, refl, rules, tests, nat_eq, IsTrue}
use Rattle.std.specs.Str.{chars}
use Prim.Native.Char.{code}
use Rattle.std.specs.Char.{is_ascii_digit}
use Rattle.rl_syntax.specs.Texts.{begins_char}
use Rattle.rl_lexer.specs.declared.cursor.Lexeme.{Lexeme as Lent}
use Rattle.rl_lexer.specs.Lexemes.{Lexeme, QuotedLexeme, RawLexeme, CharacterLexeme, BasedLexeme, DecimalLexeme, IdentifierLexeme, DelimiterLexeme, MarkLexeme, NoPrefix, BytePrefix, CPrefix, IsLexeme, lexeme_text, form_of, LiteralForm}
use Rattle.rl_lexer.specs.Cursors.{CursorState, TakesNext, form_view}

digit_is_no_minus : (d : ℕ) → IsTrue (is_ascii_digit d) → nat_eq d 45 ≡ false
digit_is_no_minus d h = search (rules, tests)

literal_begins : (l : Lexeme) (after : List ℕ) → IsLexeme l after → form_of l ≡ LiteralForm
    → begins_char (code "-") (lexeme_text l) ≡ false
literal_begins (QuotedLexeme NoPrefix parts suffix) after h e = refl
literal_begins (QuotedLexeme BytePrefix parts suffix) after h e = refl
literal_begins (QuotedLexeme CPrefix parts suffix) after h e = refl
literal_begins (RawLexeme NoPrefix n body suffix) after h e = refl
literal_begins (RawLexeme BytePrefix n body suffix) after h e = refl
literal_begins (RawLexeme CPrefix n body suffix) after h e = refl
literal_begins (CharacterLexeme true inside suffix) after h e = refl
literal_begins (CharacterLexeme false inside suffix) after h e = refl
literal_begins (BasedLexeme letter digits) after h e = refl
literal_begins (DecimalLexeme d more fraction exponent suffix) after h e = digit_is_no_minus d h.0
literal_begins (IdentifierLexeme c more) after h e = cc
literal_begins (DelimiterLexeme c) after h e = cc
literal_begins (MarkLexeme c) after h e = cc

pub no_minus : (old new : CursorState) (token : Lent) → TakesNext old token new → form_view token.form ≡ LiteralForm
    → begins_char (code "-") (chars token.text.now) ≡ false
no_minus old new token t is =
    let begins = literal_begins t.cut.lexeme t.after t.is_lexeme (t.is_cut.form_is ∙ is) in
    sym (ap (begins_char (code "-")) t.is_cut.chars_are) ∙ begins
