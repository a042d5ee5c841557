use Rattle.rl_syntax.proofs.Common.{chars}
use Rattle.rl_restyle.proofs.ChangingLemmas.{taken_all, taken_none, taken_step}
use Rattle.rl_restyle.proofs.changing.changing_rules_in.Goals as goal

pub loop-rule-init : goal.loop-rule-init
loop-rule-init g c = taken_none c.args.style (chars c.args.front.now) (chars c.args.text.now) _ _ c.settable_rules-rest.ensures
    c.new-rules.ensures.items

pub loop-rule-preserved : goal.loop-rule-preserved
loop-rule-preserved g c = taken_step c.args.style (chars c.args.front.now) (chars c.args.text.now) c.loop-rule.rest.now
    c.in-Some.after.now c.loop-rule.rules.items c.push_if_changing.new.rules.items c.in-Some.rule.now
    c.in-Some.ensures.cases.0 c.loop-rule.invariant c.in_ok-push_if_changing.ensures

pub returns : goal.returns
returns g c = taken_all c.args.style (chars c.args.front.now) (chars c.args.text.now) c.loop-rule.rest.now
    c.loop-rule.rules.items c.in_default.ensures.cases c.loop-rule.invariant
