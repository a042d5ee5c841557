use Rattle.rl_syntax.proofs.Common.{length, ◌<◌}
use Rattle.rl_cursors.proofs.EntryLemmas.{NameUpTo}
use Rattle.rl_cursors.proofs.entries.take_dotted_name.Given as goal

abbrev pub invariant-loop-part : goal.invariant-loop-part
invariant-loop-part l = record {
  name : NameUpTo l.fn.tokens l.first l.tokens l.hi;
  shorter : length l.tokens.rest < length l.fn.tokens.rest;
}

abbrev pub decreases-loop-part : goal.decreases-loop-part
decreases-loop-part l = length l.tokens.rest
