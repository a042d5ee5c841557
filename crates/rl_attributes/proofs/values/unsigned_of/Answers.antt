use Rattle.std.proofs.Common.{ap, sym, subst}
use Rattle.rl_attributes.specs.Settings.{IsUnsigned}
use Rattle.rl_attributes.specs.declared.settings.SettingError.TheVariants.{Kind}
use Rattle.rl_attributes.proofs.values.unsigned_of.Goals as goal

pub returns-in-None-clause-rejected : goal.returns-in-None-clause-rejected
returns-in-None-clause-rejected g c =
    rw c.in-Int.is (
      ap (λ z. Kind c.args.setting z) c.span.ensures,
      λ n h. c.in-None.ensures.none n (subst (λ z. IsUnsigned c.args.most n z) (sym c.text.ensures) h.1),
    )
