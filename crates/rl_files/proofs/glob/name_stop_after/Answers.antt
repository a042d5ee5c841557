use Rattle.rl_files.specs.Globs.{is_byte_match, is_star}
use Rattle.rl_files.specs.GlobStops.{borrowed_bytes}
use Rattle.rl_files.proofs.GlobLemmas.{after_star}
use Rattle.rl_files.proofs.glob.name_stop_after.Goals as goal

pub returns-then-not-is_failed : goal.returns-then-not-is_failed
returns-then-not-is_failed c = after_star is_star is_byte_match borrowed_bytes borrowed_bytes c.args.pattern.now c.args.name.now
    c.loop-left.left.now c.name_stop-stop.result c.if-not-is_failed.ensures c.loop-left.invariant c.name_stop-stop.ensures
