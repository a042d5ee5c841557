use Rattle.std.proofs.Common.{rules}
use Rattle.rl_restyle.specs.Styles.{setting}
use Rattle.rl_restyle.proofs.ValueLemmas.{set_more, is_new}
use Rattle.rl_restyle.proofs.styles.set_entry.Goals as goal

pub returns-clause-sets : goal.returns-clause-sets
returns-clause-sets c = λ before are. (
  setting c.in-Some.rule c.in-Some-value_of.value,
  record {
    named = c.in-Some.ensures.known;
    is_new = is_new before c.args.values.now c.in-Some.rule are (search rules steps 300000);
    value = search rules steps 300000;
  },
  set_more before c.args.values.now c.set.new.self c.in-Some.rule c.in-Some-value_of.value are c.set.ensures,
)
