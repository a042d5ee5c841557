-- An executable model of private code: the segment of one character or escape. Only proofs use it.
use Rattle.rl_syntax.specs.declared.kind.Kind.{Kind}
use Rattle.rl_cursors.specs.declared.segments.SegmentValue.{SegmentValue}
use Rattle.rl_cursors.specs.declared.segments.SegmentValue.TheVariants.{Char, Nothing}
use Rattle.rl_lenient.specs.declared.units.Piece.{Piece}
use Rattle.rl_lenient.specs.declared.units.Piece.TheVariants.{Character, Byte as BytePiece, Nothing as NothingPiece}
use Rattle.rl_cursors.specs.Segments.{number_segment}

abbrev pub piece_segment : Kind → Piece → SegmentValue
piece_segment kind (Character c) = Char c
piece_segment kind (BytePiece b) = number_segment kind b
piece_segment kind NothingPiece = Nothing
