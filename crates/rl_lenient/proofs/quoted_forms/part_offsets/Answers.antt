use Rattle.rl_lenient.proofs.PlaceLemmas.{placed}
use Rattle.rl_lenient.proofs.quoted_forms.part_offsets.Goals as goal

pub returns-clause-stands : goal.returns-clause-stands
returns-clause-stands c = (placed _ _ _ _ _ c.requires.opened c.requires.closer c.requires.suffix).stands

pub returns-clause-body : goal.returns-clause-body
returns-clause-body c = (placed _ _ _ _ c.args.plain c.requires.opened c.requires.closer c.requires.suffix).body_is

pub returns-clause-suffix : goal.returns-clause-suffix
returns-clause-suffix c = (placed _ _ _ _ c.args.plain c.requires.opened c.requires.closer c.requires.suffix).suffix_is
