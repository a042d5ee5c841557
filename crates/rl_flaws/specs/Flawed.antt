-- All flaws of a text, in order. The first flaw explains why the text isn't a literal token. After an invalid character or
-- escape in a string, the text after it is parsed as if it followed the opening delimiter. After a flaw in a character or
-- byte literal, the text from the closing quote on is parsed as if it followed the opening quote and a valid character. In a
-- file, CR LF is read as LF, and offsets are in bytes of the file.
use Rattle.std.specs.Prelude.{◌≡◌, ◌⊎◌, ◌+◌, ◌&&◌, ℕ, suc, Bool, true, false, not, List, [], ◌++◌, codes, drop, length, Option, None, Some, IsFalse, IsTrue, MatchOption, if◌then◌else◌}
use Rattle.std.specs.Str.{chars, IsUtf8}
use Prim.Native.Char.{code}
use Rattle.rl_syntax.specs.Texts.{byte_len}
use Rattle.rl_syntax.specs.declared.kind.Kind.{Kind}
use Rattle.rl_syntax.specs.Quoted.{is_single, is_string, opener}
use Rattle.rl_syntax.specs.Written.{closer}
use Rattle.rl_strict.specs.LineEnds.{IsRestOf, read_of}
use Rattle.rl_strict.specs.Readings.{ExplainsOf}
use Rattle.rl_strict.specs.StrictRead.{IsFlawAt}
use Rattle.rl_strict.specs.StrictShapes.{IsToken}
use Rattle.rl_strict.specs.declared.line_ends.LineEnds.{LineEnds}
use Rattle.rl_flaws.specs.BadPieces.{after_bad_piece, is_flaw_after_quote, is_flaw_of_unit}
use Rattle.rl_flaws.specs.Closings.{IsClosedBy}
use Rattle.rl_flaws.specs.Looks.{IsStringOpener, OpensSingle, OpensString}
use Rattle.rl_flaws.specs.declared.invalid_piece.InvalidPiece.{InvalidPiece}

-- The state of a cursor over the flaws of a text.
pub record FlawsState : Type 0 where
  -- Whether CR LF is read as LF, as in a file.
  pub ends : LineEnds
  -- The kind of the quoted literal that is open, or `None` if no quoted literal is open.
  pub kind : Option Kind
  -- The text that is parsed before the unchecked text, for example the opening delimiter of the literal.
  pub front : List ℕ
  -- The unchecked text, as bytes: it is the end of the whole text.
  pub rest : List ℕ
  -- The length of the whole text in bytes.
  pub len : ℕ
  -- Whether the whole text is checked.
  pub over : Bool

-- The text that is parsed for the next flaw: the opening delimiter of the literal, and the unchecked text. In a file, CR LF
-- is read as LF.
abbrev pub judged : FlawsState → List ℕ
judged s = s.front ++ read_of s.ends (chars s.rest)

-- The closing quote of the literal that is open.
abbrev pub quote_of : Option Kind → ℕ
quote_of (Some kind) = closer kind
quote_of None = code "'"

-- A quoted literal is open: its opening delimiter was read.
abbrev pub is_open : Option Kind → Bool
is_open (Some kind) = true
is_open None = false

-- A string is open. A string may contain any number of characters and escapes.
abbrev pub is_string_open : Option Kind → Bool
is_string_open (Some kind) = is_string kind
is_string_open None = false

-- A character or byte literal is open.
abbrev pub is_single_open : Option Kind → Bool
is_single_open (Some kind) = is_single kind
is_single_open None = false

-- The text is read from the byte offset `at` on, as rustc reads it, and the result is `read`. The whole text has `len` bytes.
-- The offset isn't between a CR and an LF that are read as one character.
pub record ReadsFrom (ends : LineEnds) (len : ℕ) (text read : List ℕ) (at : ℕ) : Type 0 where
  pub rest : List ℕ
  pub rest_in : IsRestOf ends text rest
  pub reads : read_of ends rest ≡ read
  pub at_is : at + byte_len rest ≡ len

-- The unchecked text is read from the byte offset `at` on, as rustc reads it, and the result is `read`. The offset is counted
-- from the start of the whole text.
abbrev pub LeftReadsFrom : FlawsState → List ℕ → ℕ → Type 0
LeftReadsFrom s read at = ReadsFrom s.ends s.len (chars s.rest) read at

-- The end of a flaw's piece. An invalid character or escape ends where parsing continues. Any other piece ends with the flaw,
-- at `hi`.
abbrev pub EndsWhere : Bool → (ℕ → Type 0) → ℕ → ℕ → Type 0
EndsWhere true GoesOnAt hi end = GoesOnAt end
EndsWhere false GoesOnAt hi end = end ≡ hi

-- The flaw `bad` is the next flaw of the unchecked text, with its byte offsets in the whole text. The flaw's piece, the range
-- to show for the flaw, begins with the first character of the text `piece`.
pub record IsBadPiece (s : FlawsState) (bad : InvalidPiece) (piece : List ℕ) : Type 0 where
  pub stop : List ℕ
  pub flaw : IsFlawAt (judged s) bad.flaw.kind piece stop
  pub from : LeftReadsFrom s piece bad.flaw.from
  pub lo : LeftReadsFrom s stop bad.flaw.lo
  pub hi : LeftReadsFrom s (drop 1 stop) bad.flaw.hi
  pub end : EndsWhere (is_open s.kind && is_flaw_of_unit bad.flaw.kind)
      (LeftReadsFrom s (after_bad_piece (quote_of s.kind) piece))
      bad.flaw.hi bad.end

-- The string stays open. The unchecked text is now the text after the invalid character or escape.
pub record FollowsPieceOf (old : FlawsState) (piece : List ℕ) (new : FlawsState) : Type 0 where
  pub rest_in : IsRestOf old.ends (chars old.rest) (chars new.rest)
  pub reads : read_of old.ends (chars new.rest) ≡ after_bad_piece (quote_of old.kind) piece
  pub same_kind : new.kind ≡ old.kind
  pub same_front : new.front ≡ old.front
  pub some_left : IsFalse new.over

-- The unchecked text now begins at the closing quote. To find a flaw after this quote, the unchecked text is parsed after the
-- opening quote and a valid character, `x`.
pub record FollowsCharacterOf (old new : FlawsState) : Type 0 where
  pub rest_in : IsRestOf old.ends (chars old.rest) (chars new.rest)
  pub closed : IsClosedBy (read_of old.ends (chars old.rest)) (read_of old.ends (chars new.rest))
  pub no_kind : new.kind ≡ None
  pub front_is : new.front ≡ old.front ++ codes "x"
  pub some_left : IsFalse new.over

-- No quote closes the literal, and no text is left to check.
abbrev pub IsNeverClosed : FlawsState → FlawsState → Type 0
IsNeverClosed old new =
    ((closing : List ℕ) → IsClosedBy (read_of old.ends (chars old.rest)) closing → ⊥) × IsTrue new.over

-- The unchecked text after a flaw. After an invalid character or escape of a string, the unchecked text follows this
-- character or escape. After another flaw before the closing quote of a character or byte literal, the unchecked text begins
-- at this quote. After any other flaw, no text is left to check.
abbrev pub IsLeftBy : Bool → Bool → FlawsState → List ℕ → FlawsState → Type 0
IsLeftBy true single old piece new = FollowsPieceOf old piece new
IsLeftBy false true old piece new = FollowsCharacterOf old new ⊎ IsNeverClosed old new
IsLeftBy false false old piece new = IsTrue new.over

-- Both states belong to one text: the length of the text is equal, and CR LF is read as LF in both states or in neither.
pub record IsSameText (old new : FlawsState) : Type 0 where
  pub same_ends : new.ends ≡ old.ends
  pub same_len : new.len ≡ old.len

-- The cursor returns the next flaw `bad`. The new state of the cursor is `new`.
pub record TakesFlaw (old : FlawsState) (bad : InvalidPiece) (new : FlawsState) : Type 0 where
  pub some_left : IsFalse old.over
  pub piece : List ℕ
  pub is_bad : IsBadPiece old bad piece
  pub left : IsLeftBy (is_string_open old.kind && is_flaw_of_unit bad.flaw.kind)
      (is_single_open old.kind && not (is_flaw_after_quote bad.flaw.kind)) old piece new
  pub same : IsSameText old new

-- No flaw is left: either no text is left to check, or the text that would be parsed for the next flaw is a literal token.
pub record HasNoFlaw (old new : FlawsState) : Type 0 where
  pub none : IsTrue old.over ⊎ IsToken (judged old)
  pub over : IsTrue new.over
  pub same : IsSameText old new

abbrev pub GivesFlaw : FlawsState → Option InvalidPiece → FlawsState → Type 0
GivesFlaw old bad new = MatchOption bad (HasNoFlaw old new) (λ it. TakesFlaw old it new)

-- The length of the unchecked text, plus one or two, or 0 if the whole text is checked. This number decreases with each flaw,
-- so the cursor reaches its end.
abbrev pub left_count : FlawsState → ℕ
left_count s = if s.over then 0 else (if is_open s.kind then suc (suc (length s.rest)) else suc (length s.rest))

-- The opening delimiter of a quoted literal of the kind.
abbrev pub IsOpener : Kind → List ℕ → Type 0
IsOpener kind front = IsStringOpener kind front ⊎ (IsTrue (is_single kind) × (front ≡ opener kind))

-- If a quoted literal of the kind is open, `front` is its opening delimiter. Without a kind, `front` is empty, and the text
-- doesn't begin as a quoted literal.
abbrev pub IsOpenBy : Option Kind → List ℕ → List ℕ → Type 0
IsOpenBy (Some kind) text front = IsOpener kind front
IsOpenBy None text front = (front ≡ []) × ((kind : Kind) → OpensString kind text ⊎ OpensSingle kind text → ⊥)

-- The cursor over the flaws of the text `text` is before the first flaw.
pub record AreFlawsOf (ends : LineEnds) (text : List ℕ) (s : FlawsState) : Type 0 where
  pub ends_is : s.ends ≡ ends
  pub opened : IsOpenBy s.kind (chars text) s.front
  pub rest_in : IsRestOf ends (chars text) (chars s.rest)
  pub judged_is : judged s ≡ read_of ends (chars text)
  pub len_is : s.len ≡ length text
  pub all_left : IsFalse s.over

-- ---- the theorems about flaws

-- The first flaw that the cursor returns explains why the text isn't a literal token.
abbrev pub FirstFlawExplains : LineEnds → List ℕ → Type 0
FirstFlawExplains ends text =
    IsUtf8 text → (start new : FlawsState) (bad : InvalidPiece) → AreFlawsOf ends text start → TakesFlaw start bad new
    → ExplainsOf ends false (chars text) bad.flaw

-- A literal token has no flaw.
abbrev pub TokensHaveNone : LineEnds → List ℕ → Type 0
TokensHaveNone ends text =
    (start new : FlawsState) (bad : InvalidPiece) → AreFlawsOf ends text start → TakesFlaw start bad new
    → IsToken (read_of ends (chars text)) → ⊥

-- The unchecked part of a text has at most one next flaw.
abbrev pub HasOneNextFlaw : FlawsState → Type 0
HasOneNextFlaw s =
    (bad other : InvalidPiece) (new next : FlawsState) → TakesFlaw s bad new → TakesFlaw s other next → bad ≡ other
