use Rattle.rl_syntax.proofs.Common.{chars, string_bytes, take}
use Rattle.rl_program.specs.EntryLines.{AreLinesOfEntries}
use Rattle.rl_program.proofs.attribute_lines.entry_lines.Given as goal

abbrev pub invariant-loop-entry : goal.invariant-loop-entry
invariant-loop-entry g l = AreLinesOfEntries (take l.entry-index l.entries) (chars (string_bytes l.lines))
