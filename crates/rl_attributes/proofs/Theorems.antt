-- The theorems of src/laws.rt, as lemmas that callers may cite, and further lemmas for callers. If a property holds for
-- all entries, or for one entry, it holds for the attributes of these entries. `set_or_of_set` and `set_or_of_unset`
-- prove the value of a setting with a default. `set_of_set_or` and `default_of_set_or` prove from this value which
-- value the attributes set, or that the value is the default. If a property holds for an optional result, it holds in
-- each of the two cases. The error for a value that must be a number is at the value.
-- If the errors of values are at the values, `a_rejected_value_has_its_name` and `a_rejected_required_setting_has_its_name`
-- state which attribute's value that is by the setting's name, without a `Setting`.
pub use Rattle.rl_attributes.proofs.TextLemmas.{set_or_of_set, set_or_of_unset, set_of_set_or, default_of_set_or, rejected_named, in_some, in_none}
use Rattle.std.proofs.Common.{◌↔◌, List, Any}
use Rattle.rl_attributes.specs.declared.attributes.Entry.{Entry}
use Rattle.rl_attributes.specs.Attributes.{Attribute}
use Rattle.rl_attributes.specs.Entries.{attribute_of, attributes_of}
use Rattle.rl_attributes.specs.Laws.{AStringIsParsedFromItsText, ABoolIsParsedFromItsText, TheTextTellsTheKind, TheTextTellsTheSuffix, AMalformedLiteralHasNoReading, OnlyAnAllocationFailureRejectsAString, ABoolIsAccepted, KnownNamesAreTheSettings, ARejectedStringIsAtTheValue, ARejectedBoolIsAtTheValue, ARejectedUnsignedIsAtTheValue}
pub use Rattle.rl_attributes.proofs.ValuePlaces.{a_rejected_number_is_at_the_value, a_rejected_required_setting_has_its_name, a_rejected_value_has_its_name}
use Rattle.rl_attributes.proofs.ValuePlaces.{string_at, truth_at, unsigned_at}
use Rattle.rl_attributes.proofs.TextLemmas.{string_in_text, truth_reads, is_kind, suffix_is, malformed, string_memory, truth_fits, knows_one, one_known, any_map, any_unmap}

pub a_string_is_parsed_from_its_text : {A B : Type 0} → AStringIsParsedFromItsText A B
a_string_is_parsed_from_its_text = string_in_text

pub a_bool_is_parsed_from_its_text : {A : Type 0} → ABoolIsParsedFromItsText A
a_bool_is_parsed_from_its_text = truth_reads

pub the_text_tells_the_kind : {A : Type 0} → TheTextTellsTheKind A
the_text_tells_the_kind = is_kind

pub the_text_tells_the_suffix : {A : Type 0} → TheTextTellsTheSuffix A
the_text_tells_the_suffix = suffix_is

pub a_malformed_literal_has_no_reading : {A : Type 0} → AMalformedLiteralHasNoReading A
a_malformed_literal_has_no_reading = malformed

pub only_an_allocation_failure_rejects_a_string : {A : Type 0} → OnlyAnAllocationFailureRejectsAString A
only_an_allocation_failure_rejects_a_string = string_memory

pub a_bool_is_accepted : {A : Type 0} → ABoolIsAccepted A
a_bool_is_accepted = truth_fits

pub known_names_are_the_settings : KnownNamesAreTheSettings
known_names_are_the_settings settings name = (knows_one settings name, one_known settings name)

pub an_entry_is_an_attribute : {A : Type 0} (Is : Attribute → Type 0) (es : List (Entry A))
    → Any (λ e. Is (attribute_of e)) es ↔ Any Is (attributes_of es)
an_entry_is_an_attribute Is es = (any_map attribute_of Is es, any_unmap attribute_of Is es)

pub a_rejected_string_is_at_the_value : {A : Type 0} → ARejectedStringIsAtTheValue A
a_rejected_string_is_at_the_value = string_at

pub a_rejected_bool_is_at_the_value : {A : Type 0} → ARejectedBoolIsAtTheValue A
a_rejected_bool_is_at_the_value = truth_at

pub a_rejected_unsigned_is_at_the_value : {A : Type 0} → ARejectedUnsignedIsAtTheValue A
a_rejected_unsigned_is_at_the_value = unsigned_at
