use Rattle.std.specs.Prelude.{string_bytes}
use Rattle.rl_attributes.specs.AttributeParsing.{entries_of}
use Rattle.rl_attributes.specs.Settings.{IsStringSet, RejectsString}
use Rattle.rl_attributes.specs.TextSettings.{IsStringOf}
use Rattle.rl_attributes.proofs.TextLemmas.{text_answer, unset_answer, string_exactly, string_in_words}
use Rattle.rl_attributes.proofs.attributes.Attrs.string.Goals as goal

pub returns-clause-text : goal.returns-clause-text
returns-clause-text g c =
    text_answer c.args.setting (entries_of c.args.self.now) IsStringSet c.found_string.result
    (λ v. IsStringOf (string_bytes v)) c.args.self.now.read string_in_words c.found_string.ensures.set

pub returns-clause-exactly : goal.returns-clause-exactly
returns-clause-exactly g c =
    string_exactly c.args.setting (entries_of c.args.self.now) c.found_string.result c.args.self.now.read
    c.found_string.ensures.set c.found_string.ensures.rejected

pub returns-clause-unset : goal.returns-clause-unset
returns-clause-unset g c =
    unset_answer c.args.setting (entries_of c.args.self.now) IsStringSet (RejectsString c.args.setting) c.found_string.result
    c.found_string.ensures.set c.found_string.ensures.rejected
