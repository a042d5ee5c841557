use Rattle.rl_flaws.proofs.Names.{◌∙◌, ap, cond, sym, Float, Int}
use Rattle.rl_flaws.proofs.LookLemmas.{other_base, ten}
use Rattle.rl_flaws.proofs.kind_guess.number_kind.Goals as goal

pub returns-then-radix-ne10 : goal.returns-then-radix-ne10
returns-then-radix-ne10 c = other_base _ _ _ c.split_radix-radix.ensures.value c.if-radix-ne10.true

pub returns-then-begins_float : goal.returns-then-begins_float
returns-then-begins_float c = sym (ap (λ b. cond b Float Int) c.if-begins_float.true) ∙ ten _ _ _ _ _
    c.split_radix-radix.ensures.value c.if-radix-ne10.false c.skip_digits.ensures.rest c.begins_float.ensures

pub returns-else-begins_float : goal.returns-else-begins_float
returns-else-begins_float c = sym (ap (λ b. cond b Float Int) c.if-begins_float.false) ∙ ten _ _ _ _ _
    c.split_radix-radix.ensures.value c.if-radix-ne10.false c.skip_digits.ensures.rest c.begins_float.ensures
