-- The loop's invariant: the buffer begins with the value of the part of the text that was decoded, and has room for the
-- value of the other part.
use Rattle.rl_syntax.proofs.Common.{◌≡◌, length}
use denote.Text.{Utf8}
use denote.Shadow.{shadow}
use Rattle.rl_lenient.proofs.RoomLemmas.{IsFilled}
use Rattle.rl_lenient.proofs.contents.decode_string_content_into.Given as goal

abbrev pub invariant-loop-piece : goal.invariant-loop-piece
invariant-loop-piece l = record {
  utf8 : shadow (Utf8 l.rest);
  filled : IsFilled l.kind l.text l.rest l.out l.at;
  len : length l.out ≡ length l.initial.out;
}

abbrev pub decreases-loop-piece : goal.decreases-loop-piece
decreases-loop-piece l = length l.rest
