-- The next entry of a configuration, or the error at its position. Entries are names (which may have dots), `=` and a literal,
-- separated by commas or line ends.
use Rattle.std.specs.Prelude.{◌≡◌, ◌≢◌, ◌⊎◌, ℕ, ◌-◌, ◌<◌, ◌==◌, Bool, IsTrue, IsFalse, List, [], ◌∷◌, ◌++◌, drop, take, length, Some, None}
use Rattle.std.specs.List.{list_any}
use Prim.Native.Char.{code}
use Rattle.rl_lexer.specs.declared.cursor.Lexeme.{Lexeme}
use Rattle.rl_lexer.specs.Cursors.{CursorState, TakesNext, form_view}
use Rattle.rl_lexer.specs.Lexemes.{LexemeForm, MarkForm}
use Rattle.rl_cursors.specs.declared.next_literals.NextLiteral.{NextLiteral}
use Rattle.rl_cursors.specs.NextLiterals.{TakesNextLiteral}
use Rattle.rl_cursors.specs.declared.syntax_error.Part.TheVariants.{Name, Equals, Comma}
use Rattle.rl_cursors.specs.declared.syntax_error.SyntaxError.{SyntaxError}
use Rattle.rl_cursors.specs.declared.entries.DottedName.{DottedName}
use Rattle.rl_cursors.specs.declared.entries.NextEntry.{NextEntry}
use Rattle.rl_cursors.specs.declared.entries.EntryRejection.{EntryRejection}
use Rattle.rl_cursors.specs.declared.entries.EntryStep.{EntryStep}
use Rattle.rl_cursors.specs.declared.entries.EntryStep.TheVariants.{End, Entry, Rejected}
use Rattle.rl_cursors.specs.SettingSteps.{TakesName, TakesMark, Misses, HasNo, LacksName, LacksMark, LacksLiteralAfter}

-- ---- names of entries

-- The token's form is a dot.
abbrev pub IsDotForm : LexemeForm → Type 0
IsDotForm form = form ≡ MarkForm (code ".")

-- The token's form is a comma.
abbrev pub IsCommaForm : LexemeForm → Type 0
IsCommaForm form = form ≡ MarkForm (code ",")

-- The next token is a dot.
pub record TakesDot (old : CursorState) (dot : Lexeme) (new : CursorState) : Type 0 where
  pub takes : TakesNext old dot new
  pub is_dot : IsDotForm (form_view dot.form)

-- A dot and an identifier continue a name that ends at the byte offset `end`. No white space or comment is before or after the
-- dot.
pub record JoinsName (end : ℕ) (old : CursorState) (part : Lexeme) (new : CursorState)
    : Type 0 where
  pub dot : Lexeme
  pub at_part : CursorState
  pub takes_dot : TakesDot old dot at_part
  pub named : TakesName at_part part new
  pub touches : dot.lo ≡ end
  pub touched : part.lo ≡ dot.hi

-- A name ends at the byte offset `end`. The identifiers in the list, each after a dot, continue this name. The longer name
-- ends at the byte offset `hi`.
abbrev pub AreNameParts : ℕ → CursorState → List Lexeme → CursorState → ℕ → Type 0
AreNameParts end t [] new hi = (new ≡ t) × (hi ≡ end)
AreNameParts end t (l ∷ ls) new hi =
    (following : CursorState) × JoinsName end t l following × AreNameParts l.hi following ls new hi

-- The texts of the name's identifiers with dots between them, as bytes.
abbrev pub dotted : Lexeme → List Lexeme → List ℕ
dotted first [] = first.text.now
dotted first (l ∷ ls) = first.text.now ++ (code "." ∷ dotted l ls)

-- The next tokens are a name with dots: its first identifier, and the identifiers after dots.
pub record BeginsDottedName (old : CursorState) (first : Lexeme) (parts : List Lexeme)
    (new : CursorState) (hi : ℕ) : Type 0 where
  pub following : CursorState
  pub named : TakesName old first following
  pub are_parts : AreNameParts first.hi following parts new hi

-- The next tokens are a name, including each dot and identifier that continue it.
pub record TakesDottedName (old : CursorState) (name : DottedName) (new : CursorState)
    : Type 0 where
  pub first : Lexeme
  pub parts : List Lexeme
  pub begins : BeginsDottedName old first parts new name.hi
  pub ends : HasNo IsDotForm new
  pub lo : name.lo ≡ first.lo
  pub text : name.text.now ≡ dotted first parts

-- ---- separators after a value

-- The bytes of the input text from the byte offset `lo` to the next token.
abbrev pub bytes_between : ℕ → CursorState → List ℕ
bytes_between lo t = drop lo (take (length t.text - length t.rest) t.text)

-- The input text contains an LF between the byte offset `lo` and the next token: as white space, at the end of a line comment,
-- or inside a block comment.
abbrev pub has_line_end : ℕ → CursorState → Bool
has_line_end lo t = list_any (λ c. c == code "\n") (bytes_between lo t)

-- A value ends at the byte offset `hi`. The text or the line ends after the value, so no comma is needed.
abbrev pub MayLackComma : ℕ → CursorState → Type 0
MayLackComma hi t = (t.rest ≡ []) ⊎ IsTrue (has_line_end hi t)

-- A value ends at the byte offset `hi`. A comma follows the value, or the text or the line ends after the value.
abbrev pub TakesSeparator : ℕ → CursorState → CursorState → Type 0
TakesSeparator hi old new =
    TakesMark (code ",") old new ⊎ (MayLackComma hi old × HasNo IsCommaForm old × (new ≡ old))

-- The part of an entry after its name: `=`, the literal, and a comma. The comma is optional if the line or the text ends.
pub record SetsEntry (old : CursorState) (value : NextLiteral) (new : CursorState) : Type 0 where
  pub at_literal : CursorState
  pub following : CursorState
  pub equals : TakesMark (code "=") old at_literal
  pub literal : TakesNextLiteral at_literal value following
  pub separator : TakesSeparator value.token.hi following new

-- The next tokens are an entry: a name, `=`, a literal, and the separator after the literal.
pub record TakesEntry (old : CursorState) (entry : NextEntry) (new : CursorState) : Type 0 where
  pub following : CursorState
  pub named : TakesDottedName old entry.name following
  pub sets : SetsEntry following entry.value new

-- ---- errors where a part of an entry is missing

-- The next token is a dot. White space or a comment is between the dot and the name that ends at `end`.
pub record LooseBefore (end : ℕ) (t : CursorState) : Type 0 where
  pub dot : Lexeme
  pub at_part : CursorState
  pub takes_dot : TakesDot t dot at_part
  pub loose : dot.lo ≢ end

-- The next token is a dot. White space or a comment is between the dot and the identifier after it.
pub record LooseAfter (t : CursorState) : Type 0 where
  pub dot : Lexeme
  pub at_part : CursorState
  pub part : Lexeme
  pub following : CursorState
  pub takes_dot : TakesDot t dot at_part
  pub named : TakesName at_part part following
  pub loose : part.lo ≢ dot.hi

-- White space or a comment is next to a dot of a name. The error is at the dot, and says that a name is missing.
pub record LacksJoin (end : ℕ) (t : CursorState) (e : SyntaxError) : Type 0 where
  pub loose : LooseBefore end t ⊎ LooseAfter t
  pub missed : Misses t Name e

-- The next token is a dot, directly after the name that ends at `end`. No identifier follows the dot.
pub record LacksPart (end : ℕ) (t : CursorState) (e : SyntaxError) : Type 0 where
  pub dot : Lexeme
  pub at_part : CursorState
  pub takes_dot : TakesDot t dot at_part
  pub touches : dot.lo ≡ end
  pub missed : LacksName at_part e

-- The next tokens begin a name, but the name doesn't continue correctly after one of its identifiers.
pub record LacksNextPart (t : CursorState) (e : SyntaxError) : Type 0 where
  pub first : Lexeme
  pub parts : List Lexeme
  pub at_dot : CursorState
  pub end : ℕ
  pub begins : BeginsDottedName t first parts at_dot end
  pub missed : LacksJoin end at_dot e ⊎ LacksPart end at_dot e

-- The next tokens aren't a valid name.
abbrev pub LacksDottedName : CursorState → SyntaxError → Type 0
LacksDottedName t e = LacksName t e ⊎ LacksNextPart t e

-- After a value that ends at the byte offset `hi`, the value's line continues with a token that isn't a comma.
pub record LacksSeparator (hi : ℕ) (t : CursorState) (e : SyntaxError) : Type 0 where
  pub some : t.rest ≢ []
  pub same_line : IsFalse (has_line_end hi t)
  pub none : LacksMark (code ",") Comma t e

-- After a name, `=` and a literal follow, but neither a comma nor a line end follows the literal.
pub record LacksSeparatorAfter (t : CursorState) (e : SyntaxError) : Type 0 where
  pub at_literal : CursorState
  pub value : NextLiteral
  pub following : CursorState
  pub equals : TakesMark (code "=") t at_literal
  pub literal : TakesNextLiteral at_literal value following
  pub missed : LacksSeparator value.token.hi following e

-- A part is missing after a name. The error is at the first missing part: `=`, a literal, or a comma or line end.
abbrev pub LacksEntryValue : CursorState → SyntaxError → Type 0
LacksEntryValue t e =
    LacksMark (code "=") Equals t e ⊎ LacksLiteralAfter t e ⊎ LacksSeparatorAfter t e

-- The next tokens are a name. Then `=`, the literal or the separator is missing.
pub record RejectsAfterDottedName (t : CursorState) (r : EntryRejection) : Type 0 where
  pub name : DottedName
  pub following : CursorState
  pub named : TakesDottedName t name following
  pub name_is : r.name ≡ Some name
  pub missed : LacksEntryValue following r.error

-- The next tokens aren't an entry.
abbrev pub RejectsNextEntry : CursorState → EntryRejection → Type 0
RejectsNextEntry t r = ((r.name ≡ None) × LacksDottedName t r.error) ⊎ RejectsAfterDottedName t r

-- The result of reading one entry, and the cursor's next state: the end, an entry, or an error.
abbrev pub StepsEntries : CursorState → EntryStep → CursorState → Type 0
StepsEntries old End new = (old.rest ≡ []) × (new ≡ old)
StepsEntries old (Entry s) new = TakesEntry old s new × (length new.rest < length old.rest)
StepsEntries old (Rejected r) new = (old.rest ≢ []) × RejectsNextEntry old r × (new ≡ old)
