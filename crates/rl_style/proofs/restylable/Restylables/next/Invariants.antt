-- The loop's invariant: the next literal after the loop's current state is also the next literal after the state at which the
-- search began.
use Rattle.std.proofs.Common.{Bool, ℕ, ◌≤◌, length}
use Rattle.rl_lexer.specs.Cursors.{CursorState}
use Rattle.rl_style.specs.Calls.{CallState, calls_seen}
use Rattle.rl_style.specs.declared.restylable.Last.{Last}
use Rattle.rl_style.specs.declared.restylable.Restylable.{Restylable}
use Rattle.rl_style.specs.Restylable.{GivesLiteral, GivesNone, RestylableState}
use Rattle.rl_style.proofs.restylable.Restylables.next.Given as goal

abbrev state : CursorState → Last → ℕ → CallState → Bool → RestylableState
state tokens last end calls stray = record { tokens = tokens; last = last; end = end; calls = calls; has_stray = stray }

abbrev pub invariant-loop-token : goal.invariant-loop-token
invariant-loop-token l = record {
  nearer : length l.self-inside.tokens.rest ≤ length l.initial.self-inside.tokens.rest;
  literal : (it : Restylable) (new : RestylableState)
      → GivesLiteral (state l.self-inside.tokens l.last l.end (calls_seen l.calls) l.has_stray) it new
      → GivesLiteral (state l.initial.self-inside.tokens l.initial.self-inside.last l.initial.self-inside.end
      (calls_seen l.initial.self-inside.calls) l.initial.self-inside.has_stray) it new;
  none : (new : RestylableState)
      → GivesNone (state l.self-inside.tokens l.last l.end (calls_seen l.calls) l.has_stray) new
      → GivesNone (state l.initial.self-inside.tokens l.initial.self-inside.last l.initial.self-inside.end
      (calls_seen l.initial.self-inside.calls) l.initial.self-inside.has_stray) new;
}

abbrev pub decreases-loop-token : goal.decreases-loop-token
decreases-loop-token l = length l.self-inside.tokens.rest
