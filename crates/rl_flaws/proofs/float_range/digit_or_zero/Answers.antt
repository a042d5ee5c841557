use Rattle.rl_syntax.proofs.Common.{◌==◌, ◌∷◌, ◌∙◌, ap, chars-nil, cond, nat_lt, sym}
use Rattle.rl_flaws.specs.FloatRange.{digits_only}
use Rattle.rl_flaws.specs.Mirrors.Floats.{not_below}
use Rattle.rl_flaws.proofs.float_range.digit_or_zero.Goals as goal

pub returns-in-None : goal.returns-in-None
returns-in-None c = λ b bs. ap (λ z. not_below z (b ∷ bs)) c.in-None.ensures.none
    ∙ ap (λ z. cond (48 == b) (not_below (digits_only z) bs) (nat_lt b 48)) (sym chars-nil)
