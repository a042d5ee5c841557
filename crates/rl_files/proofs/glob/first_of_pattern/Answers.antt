use Rattle.rl_files.proofs.PartLemmas.{pattern_more}
use Rattle.rl_files.proofs.glob.first_of_pattern.Goals as goal

pub returns-in_default-Some : goal.returns-in_default-Some
returns-in_default-Some c = rw c.in_default-Some.after-is
    (pattern_more c.args.pattern.now c.first_part.result.0.now c.in_default-Some.after.now
    (rw c.in_default-Some.is-1 at c.first_part.ensures))
