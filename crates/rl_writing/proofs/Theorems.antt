-- The theorems of src/laws.rt, as lemmas that callers may cite.
use Rattle.rl_writing.specs.Laws.{ANumeralHasDigitsOfItsBase, ANumeralRepresentsItsNumber, ANumeralHasNoZeroInFront, FewDigitsAreNotGrouped, EnoughDigitsAreGrouped, RawStringsOfOneValueContainOneText}
use Rattle.rl_writing.proofs.NumeralLemmas.{numeral_digits, numeral_value, numeral_no_zero}
use Rattle.rl_writing.proofs.GroupLemmas.{few_ungrouped, others_grouped}
use Rattle.rl_writing.proofs.RawLaws.{one_inside}

pub a_numeral_has_digits_of_its_base : ANumeralHasDigitsOfItsBase
a_numeral_has_digits_of_its_base = numeral_digits

pub a_numeral_represents_its_number : ANumeralRepresentsItsNumber
a_numeral_represents_its_number = λ base n upper low high. numeral_value base upper n low high

pub a_numeral_has_no_zero_in_front : ANumeralHasNoZeroInFront
a_numeral_has_no_zero_in_front = numeral_no_zero

pub few_digits_are_not_grouped : FewDigitsAreNotGrouped
few_digits_are_not_grouped = few_ungrouped

pub enough_digits_are_grouped : EnoughDigitsAreGrouped
enough_digits_are_grouped = others_grouped

pub raw_strings_of_one_value_contain_one_text : RawStringsOfOneValueContainOneText
raw_strings_of_one_value_contain_one_text = one_inside
