-- The laws of src/laws.rt, as lemmas that callers can cite.
use Rattle.rl_syntax.specs.Laws.{ATextHasOneReading, ATextIsStrictInOneWay, AStrictTextHasNoReturn, TheTruthWordsAreStrict, AStrictTextReads, AStrictNumberReadsAfterAMinus, AWrittenValueIsStrict, AWrittenValueReads, AMinusTellsTheSign, BothGrammarsAgree, ReadingsOfATextAreOne, StrictReadingsOfATextAreOne, AReadingIsTheStrictOne}
use Rattle.rl_syntax.proofs.OneReading.{one_reading, one_strict, read_and_strict}
use Rattle.rl_syntax.proofs.StrictReturns.{strict_holds_no_return}
use Rattle.rl_syntax.proofs.TruthLemmas.{words_strict}
use Rattle.rl_syntax.proofs.Agreeing.{strict_reads, strict_minus}
use Rattle.rl_syntax.proofs.WrittenLaws.{written_strict, written_reads}
use Rattle.rl_syntax.proofs.SignLemmas.{minus_tells_the_sign}
use Rattle.rl_syntax.proofs.ReadingRecords.{one_is, one_strict_is, both_are}

pub a_text_has_one_reading : ATextHasOneReading
a_text_has_one_reading = one_reading

pub a_text_is_strict_in_one_way : ATextIsStrictInOneWay
a_text_is_strict_in_one_way = one_strict

pub a_strict_text_has_no_return : AStrictTextHasNoReturn
a_strict_text_has_no_return = strict_holds_no_return

pub the_truth_words_are_strict : TheTruthWordsAreStrict
the_truth_words_are_strict = words_strict

pub a_strict_text_reads : AStrictTextReads
a_strict_text_reads = strict_reads

pub a_strict_number_reads_after_a_minus : AStrictNumberReadsAfterAMinus
a_strict_number_reads_after_a_minus = strict_minus

pub a_written_value_is_strict : AWrittenValueIsStrict
a_written_value_is_strict = written_strict

pub a_written_value_reads : AWrittenValueReads
a_written_value_reads = written_reads

pub a_minus_tells_the_sign : AMinusTellsTheSign
a_minus_tells_the_sign = minus_tells_the_sign

pub both_grammars_agree : BothGrammarsAgree
both_grammars_agree = read_and_strict

pub readings_of_a_text_are_one : ReadingsOfATextAreOne
readings_of_a_text_are_one = one_is

pub strict_readings_of_a_text_are_one : StrictReadingsOfATextAreOne
strict_readings_of_a_text_are_one = one_strict_is

pub a_reading_is_the_strict_one : AReadingIsTheStrictOne
a_reading_is_the_strict_one = both_are
