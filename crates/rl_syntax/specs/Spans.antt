-- The span of a token that is in no text, and spans that are looked up in a table.
use Rattle.rl_syntax.specs.declared.span.Span.{Span}
use Rattle.std.specs.Prelude.{ℕ, ◌-◌, min, nat_lt, length, slice_index_or, List, if◌then◌else◌}

-- The span of a token that is in no text.
abbrev pub nowhere : Span
nowhere = record { file = 0; lo = 0; hi = 0 }

-- The table's entry at an index, or its last entry if the index is too large.
abbrev pub entry_at : List Span → ℕ → Span
entry_at table at = slice_index_or table (min at (length table - 1)) nowhere

-- The span in a file that corresponds to a span of a text. The table has an entry for each byte of the text: the span in the
-- file that the byte comes from.
--
-- The result begins where the entry of the first byte begins, and ends where the entry of the last byte ends. For an empty
-- span the result is empty, and begins where the entry of the byte at `lo` begins.
abbrev pub mapped_by_byte_spans : List Span → Span → Span
mapped_by_byte_spans table span = record {
  file = (entry_at table span.lo).file;
  lo = (entry_at table span.lo).lo;
  hi = if nat_lt span.lo span.hi then (entry_at table (span.hi - 1)).hi
      else (entry_at table span.lo).lo;
}
