use Rattle.rl_syntax.proofs.Common.{chars, sym, ◌∙◌}
use Rattle.rl_restyle.proofs.ChangingLemmas.{rule_kept, rule_unset}
use Rattle.rl_restyle.proofs.changing.push_if_changing.Goals as goal

pub returns-then-not-is_set : goal.returns-then-not-is_set
returns-then-not-is_set g c = rule_unset c.args.style (chars c.args.front.now) (chars c.args.text.now) c.args.rule
    c.args.rules.now.items (sym c.is_set.ensures ∙ c.if-not-is_set.true)

pub returns-then-not-is_changed_alone : goal.returns-then-not-is_changed_alone
returns-then-not-is_changed_alone g c = rule_kept c.args.style (chars c.args.front.now) (chars c.args.text.now) c.args.rule
    c.args.rules.now.items c.if-not-is_changed_alone.ensures
