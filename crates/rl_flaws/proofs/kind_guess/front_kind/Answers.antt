use Rattle.rl_flaws.proofs.Names.{chars, inl, inr}
use Rattle.rl_flaws.proofs.LookLemmas.{number_none, number_some}
use Rattle.rl_flaws.proofs.kind_guess.front_kind.Goals as goal

pub returns-then-begins_digit-clause-some : goal.returns-then-begins_digit-clause-some
returns-then-begins_digit-clause-some c = inr (inr (inl (number_some (chars c.args.text.now) _ _ _
    c.after_minus-digits.ensures.value c.begins_digit.ensures c.if-begins_digit.true c.number_kind.ensures)))

pub returns-in-None-clause-none : goal.returns-in-None-clause-none
returns-in-None-clause-none c kind (inl s) = c.in_default.ensures.none kind (inl s)
returns-in-None-clause-none c kind (inr (inl s)) = c.in_default.ensures.none kind (inr s)
returns-in-None-clause-none c kind (inr (inr (inl n))) = number_none (chars c.args.text.now) _ _
    c.after_minus-digits.ensures.value c.begins_digit.ensures c.if-begins_digit.false kind n
returns-in-None-clause-none c kind (inr (inr (inr (k, (b, e))))) = c.in-None.ensures.none b e
