use Rattle.rl_syntax.proofs.Common.{◌≡◌, false, ℕ, List, length, chars}
use Rattle.rl_syntax.specs.Texts.{IsTail, first_passes, is_white}
use Rattle.rl_lexer.specs.Mirrors.LiteralsAt.{Reaches}
use Rattle.rl_lexer.proofs.source.skip_all_comments.Given as goal

abbrev pub invariant-loop-inside : goal.invariant-loop-inside
invariant-loop-inside l = record {
  following : IsTail l.text l.rest;
  dark : first_passes is_white (chars l.rest) ≡ false;
  reaches : (r : List ℕ) → Reaches (chars l.rest) r → Reaches (chars l.text) r;
}

abbrev pub decreases-loop-inside : goal.decreases-loop-inside
decreases-loop-inside l = length l.rest
