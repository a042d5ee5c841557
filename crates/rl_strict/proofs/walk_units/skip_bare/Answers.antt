use Rattle.rl_strict.proofs.WalkForms.{run_in, run_of}
use Rattle.rl_strict.proofs.walk_units.skip_bare.Goals as goal

pub returns-clause-run : goal.returns-clause-run
returns-clause-run c = run_of c.args.ends _ _ _ _ c.requires c.split_plain.ensures.cut c.split_plain.ensures.plain

pub returns-clause-rest : goal.returns-clause-rest
returns-clause-rest c = run_in c.args.ends _ _ _ _ c.requires c.split_plain.ensures.cut c.split_plain.ensures.plain
