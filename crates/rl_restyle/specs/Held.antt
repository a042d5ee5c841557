-- The stored values of a style's rules.
use Rattle.std.specs.Prelude.{◌≡◌, ◌≢◌, ℕ, List, Option, None, get_or}
use Rattle.rl_restyle.specs.declared.rule.Rule.{Rule}
use Rattle.rl_restyle.specs.declared.value.Value.{Value}
use Rattle.rl_restyle.specs.declared.values.Values.{Values}
use Rattle.rl_restyle.specs.Rules.{rule_name, rule_number}
use Rattle.rl_restyle.specs.Styles.{Setting, value_in}

-- The stored value of a rule, or `None` if the rule isn't set.
abbrev pub value_at : Values → Rule → Option Value
value_at v rule = get_or v.values (rule_number rule) None

-- The stored values of rules are the values that a list of settings gives the rules.
abbrev pub AreOf : List Setting → Values → Type 0
AreOf settings v = (rule : Rule) → value_at v rule ≡ value_in settings rule

-- The name `name` is the name of a rule that is set.
abbrev pub NamesSet : (Rule → Option Value) → List ℕ → Type 0
NamesSet look name = (rule : Rule) × (name ≡ rule_name rule) × (look rule ≢ None)
