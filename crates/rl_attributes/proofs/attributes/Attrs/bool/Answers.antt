use Rattle.rl_attributes.specs.AttributeParsing.{entries_of}
use Rattle.rl_attributes.specs.Settings.{IsTruthSet, RejectsTruth}
use Rattle.rl_attributes.specs.TextSettings.{IsTruthOf}
use Rattle.rl_attributes.proofs.TextLemmas.{text_answer, unset_answer, truth_exactly, truth_in_words}
use Rattle.rl_attributes.proofs.attributes.Attrs.bool.Goals as goal

pub returns-clause-text : goal.returns-clause-text
returns-clause-text g c =
    text_answer c.args.setting (entries_of c.args.self.now) IsTruthSet c.found_truth.result
    IsTruthOf c.args.self.now.read truth_in_words c.found_truth.ensures.set

pub returns-clause-exactly : goal.returns-clause-exactly
returns-clause-exactly g c =
    truth_exactly c.args.setting (entries_of c.args.self.now) c.found_truth.result c.args.self.now.read
    c.found_truth.ensures.set c.found_truth.ensures.rejected

pub returns-clause-unset : goal.returns-clause-unset
returns-clause-unset g c =
    unset_answer c.args.setting (entries_of c.args.self.now) IsTruthSet (RejectsTruth c.args.setting) c.found_truth.result
    c.found_truth.ensures.set c.found_truth.ensures.rejected
