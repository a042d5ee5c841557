use Rattle.rl_files.proofs.VisibleLemmas.{from_nothing}
use Rattle.rl_files.proofs.visible.visible_text.Goals as goal

pub returns : goal.returns
returns g c = from_nothing _ _ _ c.new-shown.ensures.bytes c.in_ok-push_visible.ensures
