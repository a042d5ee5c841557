use Rattle.rl_attributes.specs.AttributeParsing.{entries_of}
use Rattle.rl_attributes.specs.Settings.{RejectsTruth}
use Rattle.rl_attributes.proofs.EntryLemmas.{value_rejected}
use Rattle.rl_attributes.proofs.attributes.Attrs.found_truth.Goals as goal

pub returns-in-Err-clause-rejected : goal.returns-in-Err-clause-rejected
returns-in-Err-clause-rejected g c =
    value_rejected (entries_of c.args.self.now) c.args.setting.name.now c.in-Some.value.now
    (λ l. RejectsTruth c.args.setting l c.in-Err.error) c.in-Some.ensures.named c.in-Some.ensures.borrowed
    c.in-Err.ensures.rejected
