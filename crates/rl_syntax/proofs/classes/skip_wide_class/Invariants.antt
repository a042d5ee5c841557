use Rattle.rl_syntax.proofs.Common.{◌≡◌, length, chars}
use Rattle.rl_syntax.specs.Classes.{class_test, after_run}
use Rattle.rl_syntax.specs.Texts.{IsTail}
use Rattle.rl_syntax.proofs.classes.skip_wide_class.Given as goal

abbrev pub invariant-loop-c : goal.invariant-loop-c
invariant-loop-c l = record {
  following : IsTail l.text l.rest;
  same : after_run (class_test l.class) (chars l.rest) ≡ after_run (class_test l.class) (chars l.text);
}

abbrev pub decreases-loop-c : goal.decreases-loop-c
decreases-loop-c l = length l.rest
