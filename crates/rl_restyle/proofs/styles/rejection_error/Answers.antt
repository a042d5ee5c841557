use Rattle.std.proofs.Common.{inr, refl}
use Rattle.rl_restyle.proofs.ValueLemmas.{new_name, no_name}
use Rattle.rl_restyle.proofs.styles.rejection_error.Goals.{in-Some+else-is_set, in_default}
use Rattle.rl_restyle.proofs.styles.rejection_error.Goals as goal

pub returns : goal.returns
returns c = elim c.match-rejection.branch [
  | in-Some+else-is_set w ↦ λ before are. inr (
    new_name before c.args.values.now c.args.rejection.name w.in-Some.name are
        w.in-Some.is w.if-is_set.ensures,
    refl,
    c.text_of.ensures,
    refl,
    refl,
  )
  | in_default w ↦ λ before are. inr (
    no_name before c.args.rejection.name w.in_default.is,
    refl,
    c.text_of.ensures,
    refl,
    refl,
  )
]
