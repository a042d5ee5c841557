use Rattle.rl_strict.proofs.Names.{rules}
use Rattle.rl_strict.proofs.EndLemmas.{step_in}
use Rattle.rl_strict.proofs.FileUnits.{units_more}
use Rattle.rl_strict.proofs.walk_units.skip_units_of.Goals as goal

pub loop-after-init : goal.loop-after-init
loop-after-init c = record {
  utf8 = search rules;
  stops = c.skip_bare-rest.ensures.stops;
  run = c.skip_bare-rest.ensures.run;
  is_rest = c.skip_bare-rest.ensures.rest;
}

pub loop-after-preserved : goal.loop-after-preserved
loop-after-preserved c = record {
  utf8 = search rules;
  stops = c.skip_bare-rest-in-Some.ensures.stops;
  run = units_more c.args.kind _ _ _ _ c.requires c.loop-after.invariant.run c.in-Some.ensures.value
      c.skip_bare-rest-in-Some.ensures.run;
  is_rest = step_in c.args.ends _ _ _ c.loop-after.invariant.is_rest
      (step_in c.args.ends _ _ _ c.in-Some.ensures.rest c.skip_bare-rest-in-Some.ensures.rest);
}
