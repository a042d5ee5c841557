-- The theorems of src/laws.rt, as lemmas that callers may cite.
use Rattle.rust_literals.specs.Laws.{APeekTellsALiteral, APeekTellsABool, APeekTellsTheKind, KindAndTokenMakeTheLiteral, ALiteralLeavesFewerTrees, ALitFrontIsOne, AParserOfLitIsExact, ALitHasOneValue, ALitHasItsParts, ATextIsOneList, APrintedListIsRead, AStrListIsRead, StringsHaveOneListOfValues}
use Rattle.rust_literals.proofs.PeekLemmas.{literal_tells, truth_tells, typed_tells}
use Rattle.rust_literals.proofs.LitLemmas.{same_lit}
use Rattle.rust_literals.proofs.LeadsLemmas.{lit_shorter, one_lit_front}
use Rattle.rust_literals.proofs.FlatLemmas.{one_read}
use Rattle.rust_literals.proofs.ListLaws.{exact_lit, of_parts, one_list_of_values, one_value, str_list_read}
use Rattle.rust_literals.proofs.PrintedLemmas.{printed_list}

pub a_peek_tells_a_literal : {A : Type 0} → APeekTellsALiteral A
a_peek_tells_a_literal = literal_tells

pub a_peek_tells_a_bool : {A : Type 0} → APeekTellsABool A
a_peek_tells_a_bool = truth_tells

pub a_peek_tells_the_kind : {A : Type 0} → APeekTellsTheKind A
a_peek_tells_the_kind = typed_tells

pub kind_and_token_make_the_literal : {A : Type 0} → KindAndTokenMakeTheLiteral A
kind_and_token_make_the_literal = same_lit

pub a_literal_leaves_fewer_trees : {A : Type 0} → ALiteralLeavesFewerTrees A
a_literal_leaves_fewer_trees = lit_shorter

pub a_lit_front_is_one : {A : Type 0} → ALitFrontIsOne A
a_lit_front_is_one = one_lit_front

pub a_parser_of_lit_is_exact : {A : Type 0} → AParserOfLitIsExact A
a_parser_of_lit_is_exact = exact_lit

pub a_lit_has_one_value : {A : Type 0} → ALitHasOneValue A
a_lit_has_one_value = one_value

pub a_lit_has_its_parts : {A : Type 0} → ALitHasItsParts A
a_lit_has_its_parts = of_parts

pub a_text_is_one_list : {A : Type 0} → ATextIsOneList A
a_text_is_one_list = one_read

pub a_printed_list_is_read : {A : Type 0} → APrintedListIsRead A
a_printed_list_is_read = printed_list

pub a_str_list_is_read : {A : Type 0} → AStrListIsRead A
a_str_list_is_read = str_list_read

pub strings_have_one_list_of_values : {A : Type 0} → StringsHaveOneListOfValues A
strings_have_one_list_of_values = one_list_of_values
