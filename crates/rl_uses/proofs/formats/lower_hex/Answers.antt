use Rattle.std.proofs.Common.{refl}
use Rattle.rl_restyle.proofs.Theorems.{keeps_each_literal}
use Rattle.rl_uses.proofs.formats.lower_hex.Goals as goal

pub returns-then-restyled-clause-same : goal.returns-then-restyled-clause-same
returns-then-restyled-clause-same g c =
    keeps_each_literal _ _ _ _ refl c.in-Ok.ensures.restyled (c.in-Ok.ensures.clean.0 c.if-restyled.true)
