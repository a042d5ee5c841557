use Rattle.std.proofs.Common.{refl}
use Rattle.rl_style.proofs.Theorems.{a_rewritten_literal_is_the_same}
use Rattle.rl_uses.proofs.callers.style.write_lower_hex.Goals as goal

pub returns-in-Ok : goal.returns-in-Ok
returns-in-Ok c =
    record { same = a_rewritten_literal_is_the_same _ _ _ _ refl c.in-Ok.ensures.written }
