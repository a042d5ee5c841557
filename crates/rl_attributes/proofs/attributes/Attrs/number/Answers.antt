use Rattle.rl_attributes.specs.AttributeParsing.{entries_of}
use Rattle.rl_attributes.specs.Settings.{IsNumberSet, RejectsNumber}
use Rattle.rl_attributes.proofs.TextLemmas.{number_text, unset_answer, number_exactly}
use Rattle.rl_attributes.proofs.attributes.Attrs.number.Goals as goal

pub returns-clause-text : goal.returns-clause-text
returns-clause-text g c =
    number_text g.N.FromStr.from_str_gives c.args.setting (entries_of c.args.self.now) c.found_number.result
    c.args.self.now.differ c.args.self.now.read c.found_number.ensures.set

pub returns-clause-exactly : goal.returns-clause-exactly
returns-clause-exactly g c =
    number_exactly g.N.FromStr.from_str_gives g.N.Err.Display.output c.args.setting (entries_of c.args.self.now) c.found_number.result c.args.self.now.read
    c.found_number.ensures.set c.found_number.ensures.rejected

pub returns-clause-unset : goal.returns-clause-unset
returns-clause-unset g c =
    unset_answer c.args.setting (entries_of c.args.self.now) (IsNumberSet g.N.FromStr.from_str_gives) (RejectsNumber g.N.FromStr.from_str_gives g.N.Err.Display.output c.args.setting) c.found_number.result
    c.found_number.ensures.set c.found_number.ensures.rejected
