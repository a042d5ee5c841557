use Rattle.std.proofs.Common.{◌≡◌, ◌∙◌}
use Rattle.rl_attributes.specs.AttributeParsing.{entries_of}
use Rattle.rl_attributes.specs.Settings.{RejectsUnsigned}
use Rattle.rl_attributes.specs.TextSettings.{IsUnsignedOf, list_of}
use Rattle.rl_attributes.proofs.TextLemmas.{or_set, or_exactly, or_rejected}
use Rattle.rl_attributes.proofs.attributes.Attrs.unsigned_or.Goals as goal

pub returns-in-Ok-clause-set : goal.returns-in-Ok-clause-set
returns-in-Ok-clause-set g c =
    rw c.unwrap_or.ensures
    (or_set (IsUnsignedOf c.args.most) c.args.setting.name.now c.args.default c.in-Ok.value (list_of c.args.self.now) c.in-Ok.ensures.text)

pub returns-in-Ok-clause-exactly : goal.returns-in-Ok-clause-exactly
returns-in-Ok-clause-exactly g c w at =
    let same : c.unwrap_or.result ≡ w = c.unwrap_or.ensures
    ∙ or_exactly (IsUnsignedOf c.args.most) c.args.setting.name.now c.args.default w c.in-Ok.value (list_of c.args.self.now) c.in-Ok.ensures.text
    (c.in-Ok.ensures.exactly w) at in
    cc

pub returns-in-Err-clause-exactly : goal.returns-in-Err-clause-exactly
returns-in-Err-clause-exactly g c w at =
    absurd (or_rejected (IsUnsignedOf c.args.most) (RejectsUnsigned c.args.most c.args.setting) c.args.setting (entries_of c.args.self.now) c.args.default w
    c.in-Err.error c.in-Err.ensures.rejected (c.in-Err.ensures.exactly w) at)
