-- The invariants of the two loops: the remaining lines are the end of the text, and the tokens are those of the
-- remaining lines.
use Rattle.std.proofs.Common.{◌≡◌, ◌≤◌, length}
use denote.Text.{Utf8}
use denote.Shadow.{shadow}
use Rattle.rl_uses.proofs.examples.tokens.literal_and_error_offsets.Given as goal

abbrev pub invariant-loop-literal-2 : goal.invariant-loop-literal-2
invariant-loop-literal-2 l = record {
  text : l.tokens.text ≡ l.initial.tokens.text;
  rest : length l.tokens.rest ≤ length l.initial.tokens.rest;
}

abbrev pub decreases-loop-literal-2 : goal.decreases-loop-literal-2
decreases-loop-literal-2 l = length l.tokens.rest

abbrev pub invariant-loop-literal : goal.invariant-loop-literal
invariant-loop-literal l = record {
  utf8 : shadow (Utf8 l.lines);
  end : length l.lines ≤ length l.source;
}

abbrev pub decreases-loop-literal : goal.decreases-loop-literal
decreases-loop-literal l = length l.lines
