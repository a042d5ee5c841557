-- The laws of src/laws.rt, as lemmas that callers can cite.
use Rattle.rl_cursors.specs.Laws.{OffsetsInvertThePlaces, SegmentsMakeTheLiteral, ASegmentHasOneValue, ThePlacesOfBytesAreInOrder, TheOffsetsOfBytesAreInTheBody, ATakenLiteralIsRead}
use Rattle.rl_cursors.specs.NextTokens.{ACursorHasOneNextLiteral, ACursorHasOneNextPosition, ACursorHasOneNextToken, ACursorStaysLexed, ASourceCursorHasOneNextPosition, ASourceCursorHasOneNextToken, ATakenLiteralIsANextLiteral}
pub use Rattle.rl_lenient.proofs.FoundLemmas.{kinds_differ}
use Rattle.rl_cursors.proofs.NextLaws.{one_given, one_position, one_source_given, one_source_position, stays_lexed}
use Rattle.rl_cursors.proofs.OneNextLiteral.{one_literal, literal_or_none}
use Rattle.rl_cursors.proofs.ValueOffsetLemmas.{inverted}
use Rattle.rl_cursors.proofs.SegmentLawLemmas.{all_make, keep_order, stands_in}
use Rattle.rl_cursors.proofs.SegmentValues.{one_segment}
use Rattle.rl_cursors.proofs.NextValueLemmas.{taken_read}

pub segments_make_the_literal : SegmentsMakeTheLiteral
segments_make_the_literal = all_make

pub a_segment_has_one_value : ASegmentHasOneValue
a_segment_has_one_value = one_segment

pub offsets_invert_the_places : OffsetsInvertThePlaces
offsets_invert_the_places = inverted

pub the_places_of_bytes_are_in_order : ThePlacesOfBytesAreInOrder
the_places_of_bytes_are_in_order = keep_order

pub the_offsets_of_bytes_are_in_the_body : TheOffsetsOfBytesAreInTheBody
the_offsets_of_bytes_are_in_the_body = stands_in

pub a_taken_literal_is_read : ATakenLiteralIsRead
a_taken_literal_is_read = taken_read

pub a_cursor_has_one_next_token : ACursorHasOneNextToken
a_cursor_has_one_next_token = one_given

pub a_cursor_has_one_next_position : ACursorHasOneNextPosition
a_cursor_has_one_next_position = one_position

pub a_cursor_stays_lexed : ACursorStaysLexed
a_cursor_stays_lexed = stays_lexed

pub a_source_cursor_has_one_next_token : ASourceCursorHasOneNextToken
a_source_cursor_has_one_next_token = one_source_given

pub a_source_cursor_has_one_next_position : ASourceCursorHasOneNextPosition
a_source_cursor_has_one_next_position = one_source_position

pub a_cursor_has_one_next_literal : ACursorHasOneNextLiteral
a_cursor_has_one_next_literal = one_literal

pub a_taken_literal_is_a_next_literal : ATakenLiteralIsANextLiteral
a_taken_literal_is_a_next_literal = literal_or_none
