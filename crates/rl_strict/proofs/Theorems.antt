-- The theorems of src/laws.rt, as lemmas that callers may cite.
use Rattle.rl_strict.specs.Laws.{StrictDigitsRepresentTheirNumber, StrictDigitsAreDecimal, NoZeroLeadsStrictDigits, ZeroIsOneStrictDigit, ATextHasOneFlaw, ATextHasOneSignedFlaw, ATextHasOneValueFlaw, ATokenReadsOrIsPastTheLimit, AnUnreadTokenIsPastTheLimit, ABadQuoteHasNoReading, ABadQuoteIsNoToken, ATextInAFileHasOneFlaw, ATextInAFileHasOneSignedFlaw, ATextInAFileHasOneValueFlaw, ATextInAFileHasOneSignedValueFlaw}
use Rattle.rl_strict.proofs.DecLemmas.{dec_spells, dec_digits, dec_no_zero, dec_zero}
use Rattle.rl_strict.proofs.OneStrictFlaw.{one_strict_flaw}
use Rattle.rl_strict.proofs.OneSignedFlaw.{signed_once, value_once}
use Rattle.rl_strict.proofs.LimitLemmas.{either, unread_past}
use Rattle.rl_strict.proofs.BadQuoteReads.{bad_quote_unread, bad_quote_no_token}
use Rattle.rl_strict.proofs.OneFileFlaw.{file_once, signed_file_once, value_file_once, signed_value_file_once}

pub strict_digits_represent_their_number : StrictDigitsRepresentTheirNumber
strict_digits_represent_their_number = dec_spells

pub strict_digits_are_decimal : StrictDigitsAreDecimal
strict_digits_are_decimal = dec_digits

pub no_zero_leads_strict_digits : NoZeroLeadsStrictDigits
no_zero_leads_strict_digits = dec_no_zero

pub zero_is_one_strict_digit : ZeroIsOneStrictDigit
zero_is_one_strict_digit = dec_zero

pub a_text_has_one_flaw : ATextHasOneFlaw
a_text_has_one_flaw = one_strict_flaw

pub a_text_has_one_signed_flaw : ATextHasOneSignedFlaw
a_text_has_one_signed_flaw = signed_once

pub a_text_has_one_value_flaw : ATextHasOneValueFlaw
a_text_has_one_value_flaw = value_once

pub a_token_reads_or_is_past_the_limit : ATokenReadsOrIsPastTheLimit
a_token_reads_or_is_past_the_limit = either

pub an_unread_token_is_past_the_limit : AnUnreadTokenIsPastTheLimit
an_unread_token_is_past_the_limit = unread_past

pub a_bad_quote_has_no_reading : ABadQuoteHasNoReading
a_bad_quote_has_no_reading = bad_quote_unread

pub a_bad_quote_is_no_token : ABadQuoteIsNoToken
a_bad_quote_is_no_token = bad_quote_no_token

pub a_text_in_a_file_has_one_flaw : ATextInAFileHasOneFlaw
a_text_in_a_file_has_one_flaw = file_once

pub a_text_in_a_file_has_one_signed_flaw : ATextInAFileHasOneSignedFlaw
a_text_in_a_file_has_one_signed_flaw = signed_file_once

pub a_text_in_a_file_has_one_value_flaw : ATextInAFileHasOneValueFlaw
a_text_in_a_file_has_one_value_flaw = value_file_once

pub a_text_in_a_file_has_one_signed_value_flaw : ATextInAFileHasOneSignedValueFlaw
a_text_in_a_file_has_one_signed_value_flaw = signed_value_file_once
