-- The fields of a cursor over pieces, and the state that they represent.
use Rattle.std.specs.Prelude.{◌≡◌, ◌-◌, ℕ, Bool, List, [], length, Option, ⊤}
use Rattle.rl_syntax.specs.declared.kind.Kind.{Kind}
use Rattle.rl_cursors.specs.Segments.{IsSegmentsState, SegmentsState}
use Rattle.rl_strict.specs.StrictFlawKinds.{is_raw_form}
use Rattle.rl_strict.specs.declared.line_ends.LineEnds.{LineEnds}
use Rattle.rl_flaws.specs.Left.{IsLeft, state_of}
use Rattle.rl_flaws.specs.Pieces.{IsGoodInside, PiecesState}
use Rattle.rl_flaws.specs.declared.invalid_piece.InvalidPiece.{InvalidPiece}
use Rattle.rl_flaws.specs.declared.flaws.Left.{Left}
use Rattle.rl_flaws.specs.declared.flaws.Left.TheVariants.{Inside}

-- The segments of the valid text `good`. The text ends at the byte offset `end`.
abbrev pub segments_at : Kind → Bool → ℕ → List ℕ → SegmentsState
segments_at kind plain end good = record { kind = kind; plain = plain; at = end - length good; rest = good }

-- The valid text at the start of the unchecked text. It ends at the byte offset `end`.
abbrev pub IsGoodLeft : LineEnds → ℕ → Left → List ℕ → ℕ → Type 0
IsGoodLeft ends len (Inside o rest) good end =
    IsGoodInside o.kind (state_of ends len (Inside o rest)) (segments_at o.kind (is_raw_form o.form) end good)
    × IsSegmentsState o.kind (is_raw_form o.form) end good
IsGoodLeft ends len left good end = good ≡ []

abbrev pub pieces_of : LineEnds → Kind → Bool → ℕ → List ℕ → Option InvalidPiece → ℕ → Left → PiecesState
pieces_of ends kind plain end good bad len left =
    record { segments = segments_at kind plain end good; bad = bad; flaws = state_of ends len left }

-- The open literal is of the given kind. It is a raw string if and only if `plain` is true.
abbrev pub IsOpenAs : Kind → Bool → Left → Type 0
IsOpenAs kind plain (Inside o rest) = (o.kind ≡ kind) × (is_raw_form o.form ≡ plain)
IsOpenAs kind plain left = ⊤

pub record ArePiecesLeft (kind : Kind) (plain : Bool) (end : ℕ) (good : List ℕ) (len : ℕ) (left : Left) : Type 0 where
  pub segments : IsSegmentsState kind plain end good
  pub is_left : IsLeft len left
  pub same : IsOpenAs kind plain left
