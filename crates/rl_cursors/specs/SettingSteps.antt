-- The next setting of a text, or the error at its position.
use Rattle.std.specs.Prelude.{◌≡◌, ◌≢◌, ◌⊎◌, ℕ, ◌+◌, ◌-◌, ◌<◌, List, [], ◌∷◌, length, Some, None, if◌then◌else◌}
use Rattle.std.specs.Str.{chars}
use Prim.Native.Char.{code}
use Rattle.rl_lexer.specs.declared.cursor.Lexeme.{Lexeme}
use Rattle.rl_lexer.specs.declared.lex_error.LexKind.{LexKind}
use Rattle.rl_lexer.specs.Cursors.{CursorState, TakesNext, form_view}
use Rattle.rl_lexer.specs.Lexemes.{LexemeForm, IdentifierForm, DelimiterForm, MarkForm}
use Rattle.rl_lexer.specs.Cuts.{BeginsNoLexeme, OpenGroup, ErrorAt, is_opener}
use Rattle.rl_cursors.specs.declared.next_literals.NextLiteral.{NextLiteral}
use Rattle.rl_cursors.specs.NextLiterals.{TakesNextLiteral, HasNoNextLiteral}
use Rattle.rl_cursors.specs.declared.syntax_error.Part.{Part}
use Rattle.rl_cursors.specs.declared.syntax_error.Part.TheVariants.{Name, Equals, Literal, Comma}
use Rattle.rl_cursors.specs.declared.syntax_error.SyntaxErrorKind.TheVariants.{Expected, EndOfInput}
use Rattle.rl_cursors.specs.declared.syntax_error.SyntaxError.{SyntaxError}
use Rattle.rl_cursors.specs.declared.settings.NextSetting.{NextSetting}
use Rattle.rl_cursors.specs.declared.settings.SettingRejection.{SettingRejection}
use Rattle.rl_cursors.specs.declared.settings.SettingStep.{SettingStep}
use Rattle.rl_cursors.specs.declared.settings.SettingStep.TheVariants.{End, Setting, Rejected}
use Rattle.rl_cursors.specs.SyntaxErrors.{of_lexer}

-- ---- consumed tokens

-- The cursor consumes an identifier.
abbrev pub TakesName : CursorState → Lexeme → CursorState → Type 0
TakesName old name new = TakesNext old name new × (form_view name.form ≡ IdentifierForm)

-- The cursor consumes the punctuation character `c`.
abbrev pub TakesMark : ℕ → CursorState → CursorState → Type 0
TakesMark c old new = (l : Lexeme) × TakesNext old l new × (form_view l.form ≡ MarkForm c)

-- The cursor consumes a comma, or is at the text's end.
abbrev pub TakesComma : CursorState → CursorState → Type 0
TakesComma old new = TakesMark (code ",") old new ⊎ ((old.rest ≡ []) × (new ≡ old))

-- The part of a setting after its name: `=`, the literal, and a comma. The comma is optional if the text ends.
pub record SetsValue (old : CursorState) (value : NextLiteral) (new : CursorState) : Type 0 where
  pub at_literal : CursorState
  pub following : CursorState
  pub equals : TakesMark (code "=") old at_literal
  pub literal : TakesNextLiteral at_literal value following
  pub comma : TakesComma following new

-- The next tokens are a setting: a name, `=`, a literal, and the comma after the literal.
pub record TakesSetting (old : CursorState) (setting : NextSetting) (new : CursorState)
    : Type 0 where
  pub following : CursorState
  pub named : TakesName old setting.name following
  pub sets : SetsValue following setting.value new

-- ---- errors where a part of a setting was expected

-- The number of open groups after a token of the given form. `depth` groups were open before the token.
abbrev pub depth_after : LexemeForm → ℕ → ℕ
depth_after (DelimiterForm c) depth = if is_opener c then depth + 1 else depth - 1
depth_after _ depth = depth

-- The list has the next tokens of a token tree of which `depth` groups are open. The last token in the list closes the last
-- open group, or precedes an error of the lexer. This last token ends at the byte offset `hi`. The token before the list ends
-- at `end`.
abbrev pub AreRestOfTree : ℕ → ℕ → CursorState → List Lexeme → ℕ → Type 0
AreRestOfTree depth end t [] hi = ((depth ≡ 0) ⊎ BeginsNoLexeme (chars t.rest)) × (hi ≡ end)
AreRestOfTree depth end t (l ∷ ls) hi =
    (depth ≢ 0) × ((new : CursorState) × TakesNext t l new
    × AreRestOfTree (depth_after (form_view l.form) depth) l.hi new ls hi)

-- The cursor is inside a token tree, of which `depth` groups are open. The token tree ends at the byte offset `hi`.
abbrev pub EndsInside : ℕ → ℕ → CursorState → ℕ → Type 0
EndsInside depth end t hi = (inside : List Lexeme) × AreRestOfTree depth end t inside hi

-- If a part of a setting is missing at the end of the text, the error's range is empty, and its kind names the part.
pub record MissesAtEnd (t : CursorState) (part : Part) (e : SyntaxError) : Type 0 where
  pub ends : t.rest ≡ []
  pub kind : e.kind ≡ EndOfInput part
  pub hi : e.hi ≡ e.lo

-- If the lexer fails at the position of a missing part, the error is the lexer's error.
pub record MissesToken (t : CursorState) (e : SyntaxError) : Type 0 where
  pub why : LexKind
  pub stands : (groups : List OpenGroup) → ErrorAt why groups (chars t.rest)
  pub kind : e.kind ≡ of_lexer why
  pub hi : e.hi ≡ e.lo

-- If another token tree is at the position of a missing part, the error's range is the whole token tree: one token, or a
-- group with both its delimiters.
pub record MissesAtTree (t : CursorState) (part : Part) (e : SyntaxError) : Type 0 where
  pub first : Lexeme
  pub following : CursorState
  pub takes : TakesNext t first following
  pub kind : e.kind ≡ Expected part
  pub ends : EndsInside (depth_after (form_view first.form) 0) first.hi following e.hi

-- The error for a missing part of a setting. The error begins where the unread text begins.
pub record Misses (t : CursorState) (part : Part) (e : SyntaxError) : Type 0 where
  pub place : e.lo + length t.rest ≡ length t.text
  pub why : MissesAtEnd t part e ⊎ MissesToken t e ⊎ MissesAtTree t part e

-- The next token doesn't pass the test, or there is no next token.
abbrev pub HasNo : (LexemeForm → Type 0) → CursorState → Type 0
HasNo Is t =
    BeginsNoLexeme (chars t.rest)
    ⊎ ((l : Lexeme) × (new : CursorState) × TakesNext t l new × (Is (form_view l.form) → ⊥))

-- The next token isn't an identifier, and the error is that a name is missing.
pub record LacksName (t : CursorState) (e : SyntaxError) : Type 0 where
  pub none : HasNo (λ form. form ≡ IdentifierForm) t
  pub missed : Misses t Name e

-- The next token isn't the punctuation character `c`, and the error is that this character is missing.
pub record LacksMark (c : ℕ) (part : Part) (t : CursorState) (e : SyntaxError) : Type 0 where
  pub none : HasNo (λ form. form ≡ MarkForm c) t
  pub missed : Misses t part e

-- The next tokens aren't a literal, and the error is that a literal is missing.
pub record LacksLiteral (t : CursorState) (e : SyntaxError) : Type 0 where
  pub none : HasNoNextLiteral t
  pub missed : Misses t Literal e

-- The text doesn't end and the next token isn't a comma. The error is that a comma is missing.
pub record LacksComma (t : CursorState) (e : SyntaxError) : Type 0 where
  pub some : t.rest ≢ []
  pub none : LacksMark (code ",") Comma t e

-- After a name, `=` follows, but a literal is missing after the `=`.
pub record LacksLiteralAfter (t : CursorState) (e : SyntaxError) : Type 0 where
  pub at_literal : CursorState
  pub equals : TakesMark (code "=") t at_literal
  pub missed : LacksLiteral at_literal e

-- After a name, `=` and a literal follow, but neither a comma nor the text's end follows the literal.
pub record LacksCommaAfter (t : CursorState) (e : SyntaxError) : Type 0 where
  pub at_literal : CursorState
  pub value : NextLiteral
  pub following : CursorState
  pub equals : TakesMark (code "=") t at_literal
  pub literal : TakesNextLiteral at_literal value following
  pub missed : LacksComma following e

-- A part is missing after a name. The error is at the first missing part: `=`, a literal, or a comma or the text's end.
abbrev pub LacksValue : CursorState → SyntaxError → Type 0
LacksValue t e =
    LacksMark (code "=") Equals t e ⊎ LacksLiteralAfter t e ⊎ LacksCommaAfter t e

-- The next token is a name. Then `=`, the literal or the comma is missing.
pub record RejectsAfterName (t : CursorState) (r : SettingRejection) : Type 0 where
  pub name : Lexeme
  pub following : CursorState
  pub named : TakesName t name following
  pub name_is : r.name ≡ Some name
  pub missed : LacksValue following r.error

-- The next tokens aren't a setting.
abbrev pub RejectsNextSetting : CursorState → SettingRejection → Type 0
RejectsNextSetting t r = ((r.name ≡ None) × LacksName t r.error) ⊎ RejectsAfterName t r

-- The result of reading one setting, and the cursor's next state: the end, a setting, or an error.
abbrev pub StepsSettings : CursorState → SettingStep → CursorState → Type 0
StepsSettings old End new = (old.rest ≡ []) × (new ≡ old)
StepsSettings old (Setting s) new = TakesSetting old s new × (length new.rest < length old.rest)
StepsSettings old (Rejected r) new = (old.rest ≢ []) × RejectsNextSetting old r × (new ≡ old)
