use Rattle.rl_lenient.proofs.FormLemmas.{front_sound}
use Rattle.rl_lenient.proofs.FoundLemmas.{quoted_found}
use Rattle.rl_lenient.proofs.SingleBodies.{no_unit}
use Rattle.rl_lenient.proofs.quoted_forms.find_raw.Goals as goal

pub returns-clause-found : goal.returns-clause-found
returns-clause-found c = quoted_found _ _ _ _ _ c.utf8.text c.in_ok-body.ensures.some
    (no_unit _ _ (front_sound _ _ c.requires).has) c.quoted.ensures
