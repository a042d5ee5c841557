use Rattle.rl_syntax.proofs.Common.{sym, rules, IsUtf8}
use Rattle.rl_syntax.proofs.TailLemmas.{if_none}
use Rattle.rl_lenient.proofs.CutLemmas.{tail_chars}
use Rattle.rl_lenient.proofs.FormLemmas.{front_sound, single_found, single_stuck, single_none}
use Rattle.rl_lenient.specs.declared.quoted_forms.QuotedForm.TheVariants.{Single as SingleForm}
use Rattle.rl_lenient.proofs.FrontLenLemmas.{opener_lo}
use Rattle.rl_lenient.proofs.FoundLemmas.{form_at, quoted_found}
use Rattle.rl_lenient.proofs.SingleBodies.{unit_one}
use Rattle.rl_lenient.proofs.UnitLemmas.{unit_sound}
use Rattle.rl_lenient.proofs.OpenerLemmas.{only_quoted}
use Rattle.rl_lenient.proofs.quoted_forms.find_single.Goals as goal

pub returns-in_err-piece-clause-none : goal.returns-in_err-piece-clause-none
returns-in_err-piece-clause-none c = if_none _ (only_quoted _ _ _ _ c.requires
    (single_stuck _ _ (sym c.in_err-piece.ensures.value)))

pub returns-in_err-suffix-clause-none : goal.returns-in_err-suffix-clause-none
returns-in_err-suffix-clause-none c = if_none _ (only_quoted _ _ _ _ c.requires
    (single_none _ _ _ (sym c.in_ok-piece.ensures.value) c.in_err-suffix.ensures.none))

pub part_offsets-body-requires-clause-closer : goal.part_offsets-body-requires-clause-closer
part_offsets-body-requires-clause-closer c =
    let closer : IsUtf8 c.in_ok-piece.closer.now = search rules in
    tail_chars _ _ _ c.utf8.inside closer (unit_sound _ _ _ (sym c.in_ok-piece.ensures.value)).text_is

pub piece_code-requires-clause-single : goal.piece_code-requires-clause-single
piece_code-requires-clause-single c = (front_sound _ _ c.requires).has

pub piece_code-requires-clause-one : goal.piece_code-requires-clause-one
piece_code-requires-clause-one c = unit_one _ _ _ (front_sound _ _ c.requires).has (sym c.in_ok-piece.ensures.value)

pub returns-clause-found : goal.returns-clause-found
returns-clause-found c =
    let at = c.part_offsets-body.ensures in
    let single = (front_sound _ _ c.requires).has in
    let parts = single_found _ _ _ _ _ single (sym c.in_ok-piece.ensures.value) at.body c.in_ok-suffix.ensures.some in
    quoted_found _ _ _ _ _ c.utf8.text (form_at _ _ _ _ _ _ _ c.requires parts at.suffix at.stands at.plain
    (opener_lo SingleForm _ _ _ _ (λ e. cc) c.utf8.text c.utf8.inside c.requires at.lo)) c.piece_code.ensures
    c.quoted.ensures
