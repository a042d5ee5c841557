use Rattle.rl_strict.proofs.Names.{◌≡◌, length, Utf8, shadow, chars, after_letters}
use Rattle.rl_strict.proofs.flaws.skip_letters.Given as goal

abbrev pub invariant-loop-letter : goal.invariant-loop-letter
invariant-loop-letter l = record {
  utf8 : shadow (Utf8 l.rest);
  utf8_word : shadow (Utf8 l.left);
  same : after_letters (chars l.left) (chars l.rest) ≡ after_letters (chars l.word) (chars l.text);
}

abbrev pub decreases-loop-letter : goal.decreases-loop-letter
decreases-loop-letter l = length l.left
