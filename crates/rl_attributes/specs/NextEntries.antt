-- The attribute that is built from a setting of a text, which was lexed token by token.
use Rattle.std.specs.Prelude.{◌≡◌, ℕ, ◌∷◌, Option, Some, None, string_bytes}
use Prim.Native.Char.{code}
use Rattle.rl_syntax.specs.Texts.{SpannedText}
use Rattle.rl_lexer.specs.declared.cursor.Lexeme.{Lexeme}
use Rattle.rl_cursors.specs.declared.next_literals.NextLiteral.{NextLiteral}
use Rattle.rl_cursors.specs.declared.settings.NextSetting.{NextSetting}
use Rattle.rust_literals.specs.Literals.{IsReadFrom}
use Rattle.rl_attributes.specs.declared.attributes.Entry.{Entry}
use Rattle.rl_attributes.specs.Attributes.{Attribute}

-- The text and span of a lexed token.
abbrev pub borrowed_token : ℕ → Lexeme → SpannedText
borrowed_token file l = record { text = l.text.now; span = record { file = file; lo = l.lo; hi = l.hi } }

-- The text and span of a literal token, with the minus before it if there is one. The minus is at the byte offset
-- given.
abbrev pub signed_token : ℕ → Option ℕ → Lexeme → SpannedText
signed_token file None l = borrowed_token file l
signed_token file (Some lo) l =
    record { text = code "-" ∷ l.text.now; span = record { file = file; lo = lo; hi = l.hi } }

abbrev pub value_token : ℕ → NextLiteral → SpannedText
value_token file l = signed_token file l.minus_at l.token

-- The `Attribute` that is built from a setting of a text. It contains the texts and spans of the name and the literal.
abbrev pub attribute_at : ℕ → NextSetting → Attribute
attribute_at file s = record { name = borrowed_token file s.name; literal = value_token file s.value }

-- The attribute `entry` is built from the setting `s` of a text, and its value is parsed from the setting's literal.
pub record IsEntryOf {A : Type 0} (file : ℕ) (s : NextSetting) (entry : Entry A) : Type 0 where
  pub name : string_bytes entry.name ≡ s.name.text.now
  pub span : entry.span ≡ (borrowed_token file s.name).span
  pub value : IsReadFrom (value_token file s.value) entry.value
