use Rattle.rl_syntax.proofs.Common.{◌≡◌, length, chars}
use Rattle.rl_syntax.specs.Classes.{class_test, after_run}
use Rattle.rl_syntax.specs.Texts.{IsTail}
use Rattle.rl_syntax.proofs.classes.skip_class.Given as goal

abbrev pub invariant-loop-byte : goal.invariant-loop-byte
invariant-loop-byte l = record {
  following : IsTail l.text l.rest;
  same : after_run (class_test l.class) (chars l.rest) ≡ after_run (class_test l.class) (chars l.text);
}

abbrev pub decreases-loop-byte : goal.decreases-loop-byte
decreases-loop-byte l = length l.rest
