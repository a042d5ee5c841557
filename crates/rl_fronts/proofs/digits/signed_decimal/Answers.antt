use Rattle.rl_lenient.proofs.DigitLemmas.{signed_bytes}
use Rattle.rl_fronts.proofs.digits.signed_decimal.Goals as goal

pub returns : goal.returns
returns g c = signed_bytes _ _ _ _ _ c.in_ok-digits.ensures.bytes c.in_ok-push_sign.ensures c.in_ok-push_decimal.ensures
