use Rattle.rl_syntax.proofs.Common.{◌≡◌, false, ℕ, List, length, chars}
use Rattle.rl_lexer.specs.Skipping.{Skipped}
use Rattle.rl_syntax.specs.Texts.{is_white, first_passes, IsTail}
use Rattle.rl_lexer.proofs.whitespace.skip_comments.Given as goal

abbrev pub invariant-loop-inside : goal.invariant-loop-inside
invariant-loop-inside l = record {
  following : IsTail l.text l.rest;
  dark : first_passes is_white (chars l.rest) ≡ false;
  skipped : (r : List ℕ) → Skipped (chars l.rest) r → Skipped (chars l.text) r;
}

abbrev pub decreases-loop-inside : goal.decreases-loop-inside
decreases-loop-inside l = length l.rest
