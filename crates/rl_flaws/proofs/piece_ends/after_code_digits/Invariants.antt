use Rattle.rl_flaws.proofs.Names.{◌≡◌, length, Utf8, shadow, chars, IsTail, IsRestOf, read_of, after_code_digits}
use Rattle.rl_flaws.proofs.piece_ends.after_code_digits.Given as goal

abbrev pub invariant-loop-c : goal.invariant-loop-c
invariant-loop-c l = record {
  utf8 : shadow (Utf8 l.rest);
  following : IsTail l.text l.rest;
  is_rest : IsRestOf l.ends (chars l.text) (chars l.rest);
  same : after_code_digits l.quote (read_of l.ends (chars l.rest))
      ≡ after_code_digits l.quote (read_of l.ends (chars l.text));
}

abbrev pub decreases-loop-c : goal.decreases-loop-c
decreases-loop-c l = length l.rest
