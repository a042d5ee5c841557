use Rattle.rl_syntax.proofs.Common.{inl, refl}
use Rattle.rl_cursors.proofs.settings.take_setting.Goals as goal

pub returns-in-Err-clause-rejected : goal.returns-in-Err-clause-rejected
returns-in-Err-clause-rejected c = inl (refl, c.in-Err.ensures.missed)
