use Rattle.rl_strict.proofs.Names.{refl, rules, IsUtf8, IfErr-at_err, IfOk-at_ok, tail_chars, front_sound, quoted_found, opened, unit_one}
use Rattle.rl_lenient.specs.declared.quoted_forms.QuotedForm.TheVariants.{Single as Form}
use Rattle.rl_strict.proofs.FileStrings.{unit_reads}
use Rattle.rl_strict.proofs.FormReads.{opened_flaw, opened_token}
use Rattle.rl_strict.proofs.ReadLemmas.{form_token}
use Rattle.rl_strict.proofs.ReadQuoted.{single_quoted}
use Rattle.rl_strict.proofs.read_quoted.unit_at.Goals as goal

pub parse_single_unit-stretch-requires : goal.parse_single_unit-stretch-requires
parse_single_unit-stretch-requires c = (front_sound _ _ c.requires).has

pub part_offsets-requires : goal.part_offsets-requires
part_offsets-requires c =
    let closing : IsUtf8 c.parse_single_unit-stretch.result.closing.now = search rules in
    record {
      opened = opened _ _ _ _ c.utf8.text c.utf8.inside c.requires;
      closer = tail_chars _ _ _ c.utf8.inside closing c.parse_single_unit-stretch.ensures.rest.text_is;
      suffix = IfOk-at_ok _ c.in-Ok.is c.parse_single_unit-stretch.ensures.suffix;
    }

pub piece_code-requires : goal.piece_code-requires
piece_code-requires c =
    let single = (front_sound _ _ c.requires).has in
    record { single = single; one = unit_one _ _ _ single (IfOk-at_ok _ c.in-Ok.is c.parse_single_unit-stretch.ensures.unit) }

pub returns-in-Ok-clause-reads : goal.returns-in-Ok-clause-reads
returns-in-Ok-clause-reads c =
    let at = c.part_offsets.ensures in
    let walk = c.parse_single_unit-stretch.ensures in
    let quoted = single_quoted _ _ _ _ _ _ c.part_offsets.result c.requires (front_sound _ _ c.requires).has
    (IfOk-at_ok _ c.in-Ok.is walk.unit) (IfOk-at_ok _ c.in-Ok.is walk.quote) at.body at.suffix at.stands at.plain
    c.utf8.text c.utf8.inside at.lo in
    unit_reads c.args.ends _ _ c.part_offsets.result c.piece_code.result
    (form_token _ Form _ _ c.requires (IfOk-at_ok _ c.in-Ok.is walk.whole))
    (quoted_found _ _ _ _ _ c.utf8.text quoted c.piece_code.ensures refl)

pub returns-in-Ok-clause-token : goal.returns-in-Ok-clause-token
returns-in-Ok-clause-token c = opened_token c.args.ends _ Form _ _ c.requires
    (IfOk-at_ok _ c.in-Ok.is c.parse_single_unit-stretch.ensures.closes)

pub returns-in-Err-clause-flaw : goal.returns-in-Err-clause-flaw
returns-in-Err-clause-flaw c = opened_flaw c.args.ends _ Form _ _ _ _ _ c.requires
    (IfErr-at_err _ c.in-Err.is c.parse_single_unit-stretch.ensures.stops)
