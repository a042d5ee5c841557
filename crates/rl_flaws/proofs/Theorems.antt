-- The theorems of src/laws.rt, as lemmas that callers may cite.
use Rattle.rl_flaws.specs.Laws.{ATextBeginsAsOneKind, ATokenBeginsAsItsKind, TheFirstFlawExplainsTheText, ATokenHasNoFlaw, TheRestHasOneNextFlaw, ALiteralHasOneTypeError, AnErrorExcludesAType}
use Rattle.rl_flaws.proofs.LookLaws.{looks_once, token_looks}
use Rattle.rl_flaws.proofs.FlawLaws.{first_explains, tokens_none, one_next}
use Rattle.rl_flaws.proofs.Exclusions.{no_both, one_error}

pub a_text_begins_as_one_kind : ATextBeginsAsOneKind
a_text_begins_as_one_kind = looks_once

pub a_token_begins_as_its_kind : ATokenBeginsAsItsKind
a_token_begins_as_its_kind = token_looks

pub the_first_flaw_explains_the_text : TheFirstFlawExplainsTheText
the_first_flaw_explains_the_text = first_explains

pub a_token_has_no_flaw : ATokenHasNoFlaw
a_token_has_no_flaw = tokens_none

pub the_rest_has_one_next_flaw : TheRestHasOneNextFlaw
the_rest_has_one_next_flaw = one_next

pub an_error_excludes_a_type : AnErrorExcludesAType
an_error_excludes_a_type = no_both

pub a_literal_has_one_type_error : ALiteralHasOneTypeError
a_literal_has_one_type_error = one_error
