use Rattle.rl_attributes.specs.AttributeParsing.{entries_of}
use Rattle.rl_attributes.specs.Settings.{RejectsUnsigned}
use Rattle.rl_attributes.proofs.EntryLemmas.{value_rejected}
use Rattle.rl_attributes.proofs.attributes.Attrs.found_unsigned.Goals as goal

pub returns-in-Err-clause-rejected : goal.returns-in-Err-clause-rejected
returns-in-Err-clause-rejected g c =
    value_rejected (entries_of c.args.self.now) c.args.setting.name.now c.in-Some.value.now
    (λ l. RejectsUnsigned c.args.most c.args.setting l c.in-Err.error) c.in-Some.ensures.named c.in-Some.ensures.borrowed
    c.in-Err.ensures.rejected
