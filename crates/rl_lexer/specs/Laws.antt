-- The statements of the laws of src/laws.rt, each as a definition. The laws on whole sources are in `Sources`.
use Rattle.std.specs.Prelude.{◌≡◌, IsFalse}
use Rattle.std.specs.Str.{chars}
use Prim.Native.Char.{code}
use Rattle.rl_syntax.specs.Texts.{begins_char}
use Rattle.rl_lexer.specs.declared.cursor.Lexeme.{Lexeme}
use Rattle.rl_lexer.specs.Cursors.{CursorState, TakesNext, form_view}
use Rattle.rl_lexer.specs.Lexemes.{LiteralForm}

-- A token that is a literal doesn't begin with a minus. A minus is a token by itself.
abbrev pub LiteralsDontBeginWithAMinus : Type 0
LiteralsDontBeginWithAMinus =
    (old new : CursorState) (token : Lexeme)
    → TakesNext old token new → form_view token.form ≡ LiteralForm
    → IsFalse (begins_char (code "-") (chars token.text.now))
