use Rattle.std.proofs.Common.{ne_eqb, sym}
use Rattle.rl_files.specs.Globs.{is_byte_match, is_star}
use Rattle.rl_files.proofs.GlobLemmas.{goes_on}
use Rattle.rl_files.proofs.glob.name_stop.Goals as goal

pub loop-p-preserved : goal.loop-p-preserved
loop-p-preserved c = goes_on is_star is_byte_match c.args.pattern.now c.args.name.now c.in-Some.p c.in-Some.after.now
    c.in-Some-first_byte.byte c.in-Some-first_byte.rest.now
    (rw (c.in-Some.ensures, c.in-Some-first_byte.ensures) at c.loop-p.invariant) (ne_eqb _ 42 c.if-p-eq42.false)
    (sym c.if-not-is_byte_match.ensures)
