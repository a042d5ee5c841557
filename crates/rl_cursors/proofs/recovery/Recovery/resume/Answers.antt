use Rattle.rl_cursors.proofs.RecoverySteps.{begins_state}
use Rattle.rl_cursors.proofs.recovery.Recovery.resume.Goals as goal

pub invariant_of-result : goal.invariant_of-result
invariant_of-result c = begins_state c.args.text.now c.args.rest.now c.nothing.result c.requires c.nothing.ensures
