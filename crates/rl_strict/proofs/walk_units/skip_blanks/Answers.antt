use Rattle.rl_strict.proofs.Names.{arith, rules, chars}
use Rattle.rl_strict.proofs.UnitForms.{blanks_end, blanks_first, blanks_in, blanks_more, blanks_on}
use Rattle.rl_strict.proofs.FileUnits.{blanks_stop}
use Rattle.rl_strict.proofs.walk_units.skip_blanks.Goals as goal

pub loop-after-init : goal.loop-after-init
loop-after-init c = record {
  utf8 = search rules;
  same = blanks_first c.args.ends (chars c.args.text.now) (chars c.skip_class-rest.result.now) c.skip_class-rest.ensures.rest;
  stops = blanks_stop (chars c.args.text.now) (chars c.skip_class-rest.result.now) c.skip_class-rest.ensures.rest;
  is_rest = blanks_in c.args.ends (chars c.args.text.now) (chars c.skip_class-rest.result.now) c.skip_class-rest.ensures.rest;
  shorter = c.skip_class-rest.ensures.shorter;
}

pub loop-after-preserved : goal.loop-after-preserved
loop-after-preserved c =
    let before = c.loop-after.invariant in
    let text = chars c.args.text.now in
    let rest = chars c.loop-after.rest.now in
    let after = chars c.in-Some.after.now in
    let next = chars c.skip_class-rest-in-Some.result.now in
    record {
      utf8 = search rules;
      same = blanks_on c.args.ends text rest after next before.same c.in-Some.ensures.read c.skip_class-rest-in-Some.ensures.rest;
      stops = blanks_stop after next c.skip_class-rest-in-Some.ensures.rest;
      is_rest = blanks_more c.args.ends text rest after next before.is_rest c.in-Some.ensures.rest
          c.skip_class-rest-in-Some.ensures.rest;
      shorter = omega (arith, before.shorter, c.in-Some.ensures.shorter, c.skip_class-rest-in-Some.ensures.shorter);
    }

pub returns-clause-read : goal.returns-clause-read
returns-clause-read c = blanks_end c.args.ends (chars c.args.text.now) (chars c.loop-after.rest.now) c.loop-after.invariant.same
    c.loop-after.invariant.stops c.in_default.ensures.none
