use Rattle.rl_files.proofs.HostLemmas.{stays_invalid}
use Rattle.rl_files.proofs.host.why_stopped.Goals as goal

pub returns-in-Some : goal.returns-in-Some
returns-in-Some c = λ more. (c.if-not-is_text.false, stays_invalid c.args.bytes.now more c.in-Some.at c.in-Some.ensures.0 c.in-Some.ensures.1)
