use Rattle.std.proofs.Common.{arith}
use Rattle.rl_attributes.specs.AttributeParsing.{entries_of}
use Rattle.rl_attributes.specs.Settings.{IsUnsignedSet, RejectsUnsigned}
use Rattle.rl_attributes.specs.TextSettings.{IsUnsignedOf}
use Rattle.rl_attributes.proofs.TextLemmas.{text_answer, unset_answer, unsigned_exactly, unsigned_in_words}
use Rattle.rl_attributes.proofs.attributes.Attrs.unsigned.Goals as goal

pub returns-clause-text : goal.returns-clause-text
returns-clause-text g c =
    text_answer c.args.setting (entries_of c.args.self.now) (IsUnsignedSet c.args.most) c.found_unsigned.result
    (IsUnsignedOf c.args.most) c.args.self.now.read (unsigned_in_words c.args.most) c.found_unsigned.ensures.set

pub returns-clause-exactly : goal.returns-clause-exactly
returns-clause-exactly g c =
    unsigned_exactly c.args.most c.args.setting (entries_of c.args.self.now) c.found_unsigned.result (omega arith) c.args.self.now.read
    c.found_unsigned.ensures.set c.found_unsigned.ensures.rejected

pub returns-clause-unset : goal.returns-clause-unset
returns-clause-unset g c =
    unset_answer c.args.setting (entries_of c.args.self.now) (IsUnsignedSet c.args.most) (RejectsUnsigned c.args.most c.args.setting) c.found_unsigned.result
    c.found_unsigned.ensures.set c.found_unsigned.ensures.rejected
