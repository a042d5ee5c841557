use Rattle.rl_syntax.proofs.Common.{chars, length, string_bytes}
use Rattle.rl_restyle.specs.Mirrors.{IsDraft}
use Rattle.rl_restyle.proofs.whole.rewrite_source.Given as goal

-- The invariant of the loop over the literals of a source: the draft contains the new text of each literal that was
-- returned so far.
abbrev pub invariant-loop-literal : goal.invariant-loop-literal
invariant-loop-literal g l = IsDraft l.style l.choice (chars l.text) l.literals l.draft.at
    (chars (string_bytes l.draft.text)) l.draft.is_clean

abbrev pub decreases-loop-literal : goal.decreases-loop-literal
decreases-loop-literal g l = length l.literals.tokens.rest
