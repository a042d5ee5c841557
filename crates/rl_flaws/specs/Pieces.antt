-- The pieces of a quoted literal, valid and invalid. A valid piece is a segment of the valid text before the next flaw. An
-- invalid piece is the text to show for a flaw.
use Rattle.std.specs.Prelude.{◌≡◌, ◌+◌, ℕ, List, [], ◌++◌, length, Option, None, Some, MatchOption, IsTrue}
use Rattle.std.specs.Str.{chars}
use Rattle.rl_syntax.specs.Texts.{byte_len}
use Rattle.rl_syntax.specs.declared.kind.Kind.{Kind}
use Rattle.rl_cursors.specs.Segments.{HasUnitsLeft, SegmentsState, TakesSegment}
use Rattle.rl_lenient.specs.declared.quoted_forms.QuotedForm.{QuotedForm}
use Rattle.rl_strict.specs.LineEnds.{is_seam_of, read_of}
use Rattle.rl_strict.specs.StrictFlawKinds.{is_raw_form}
use Rattle.rl_flaws.specs.Flawed.{FlawsState, GivesFlaw}
use Rattle.rl_flaws.specs.Inside.{IsInsideUpTo}
use Rattle.rl_flaws.specs.Opened.{HasForm, front_of}
use Rattle.rl_flaws.specs.declared.invalid_piece.InvalidPiece.{InvalidPiece}
use Rattle.rl_flaws.specs.declared.pieces.Piece.{Piece}
use Rattle.rl_flaws.specs.declared.pieces.Piece.TheVariants.{Good, Bad}

-- The state of a cursor over pieces: the segments up to the next flaw or the closing delimiter, the next flaw, and the state
-- after the flaw.
pub record PiecesState : Type 0 where
  pub segments : SegmentsState
  pub bad : Option InvalidPiece
  pub flaws : FlawsState

-- The cursor's segments are the segments of the valid text inside the open literal, with their byte offsets. The valid text
-- ends at the next flaw or at the closing delimiter. In a file, CR LF is read as LF, and the valid text doesn't end between
-- them. The segments are those of the text as written.
pub record IsGoodInside (kind : Kind) (flaws : FlawsState) (s : SegmentsState) : Type 0 where
  pub form : QuotedForm
  pub hashes : List ℕ
  pub opens : HasForm form kind hashes
  pub front_is : flaws.front ≡ front_of form kind hashes
  pub closing : List ℕ
  pub text_is : chars flaws.rest ≡ chars s.rest ++ closing
  pub up_to : IsInsideUpTo form kind hashes (read_of flaws.ends (chars flaws.rest)) (read_of flaws.ends closing)
  pub seam : IsTrue (is_seam_of flaws.ends (chars s.rest) closing)
  pub place : s.at + length s.rest + byte_len closing ≡ flaws.len
  pub kind_is : s.kind ≡ kind
  pub plain_is : s.plain ≡ is_raw_form form
  pub units : HasUnitsLeft s

-- The valid text of the open literal. Outside of literals, the valid text is empty.
abbrev pub IsGoodPart : Option Kind → FlawsState → SegmentsState → Type 0
IsGoodPart (Some kind) flaws s = IsGoodInside kind flaws s
IsGoodPart None flaws s = s.rest ≡ []

-- The cursor is before the first piece of the unchecked text.
pub record BeginsPart (flaws : FlawsState) (s : PiecesState) : Type 0 where
  pub good : IsGoodPart flaws.kind flaws s.segments
  pub gives : GivesFlaw flaws s.bad s.flaws

-- The cursor returns its next piece: the next segment of the valid text, or, after the last segment, the flaw. After the
-- flaw, the cursor continues with the next valid text.
abbrev pub TakesPiece : PiecesState → Piece → PiecesState → Type 0
TakesPiece old (Good s) new = TakesSegment old.segments s new.segments × (new.bad ≡ old.bad) × (new.flaws ≡ old.flaws)
TakesPiece old (Bad bad) new = (old.segments.rest ≡ []) × (old.bad ≡ Some bad) × BeginsPart old.flaws new

-- The cursor is at its end: it has neither a segment nor a flaw.
abbrev pub HasNoPiece : PiecesState → PiecesState → Type 0
HasNoPiece old new = (old.segments.rest ≡ []) × (old.bad ≡ None) × (new ≡ old)

abbrev pub GivesPiece : PiecesState → Option Piece → PiecesState → Type 0
GivesPiece old piece new = MatchOption piece (HasNoPiece old new) (λ p. TakesPiece old p new)
