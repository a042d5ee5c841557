use Rattle.std.proofs.Common.{sym}
use Rattle.rl_files.specs.Globs.{is_double_star, name_matches, parts_left, pattern_left}
use Rattle.rl_files.proofs.GlobLemmas.{goes_on}
use Rattle.rl_files.proofs.PartLemmas.{path_ends}
use Rattle.rl_files.proofs.glob.path_stop.Goals as goal

pub loop-left-preserved : goal.loop-left-preserved
loop-left-preserved c = goes_on is_double_star name_matches (pattern_left c.args.pattern) (parts_left c.args.path)
    c.first_of_pattern.result.0.now (pattern_left c.first_of_pattern.result.1) c.first_part.result.0.now
    (parts_left c.first_part.result.1)
    (rw (c.in-Some.is, c.first_of_pattern.ensures, c.in-Some-names.is, c.first_part.ensures) at c.loop-left.invariant)
    (sym c.if-is_double_star.ensures) (sym c.if-not-is_name_match.ensures)

pub returns : goal.returns
returns c = path_ends (pattern_left c.args.pattern) (parts_left c.args.path) c.loop-left.names c.is_none.result
    c.is_none.ensures (rw c.in_default.is at c.loop-left.invariant)
