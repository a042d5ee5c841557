use Rattle.rl_strict.proofs.Names.{◌∙◌, rules, IsUtf8, IfErr-at_err, IfOk-at_ok, tail_chars, front_sound, opened}
use Rattle.rl_lenient.specs.declared.quoted_forms.QuotedForm.TheVariants.{Cooked as Form}
use Rattle.rl_strict.proofs.FileStrings.{cooked_reads}
use Rattle.rl_strict.proofs.FormReads.{opened_flaw, opened_token}
use Rattle.rl_strict.proofs.read_quoted.text_at.Goals as goal

pub parse_cooked_content-stretch-requires : goal.parse_cooked_content-stretch-requires
parse_cooked_content-stretch-requires c = (front_sound _ _ c.requires).has

pub part_offsets-requires : goal.part_offsets-requires
part_offsets-requires c =
    let closing : IsUtf8 c.parse_cooked_content-stretch.result.closing.now = search rules in
    record {
      opened = opened _ _ _ _ c.utf8.text c.utf8.inside c.requires;
      closer = tail_chars _ _ _ c.utf8.inside closing c.parse_cooked_content-stretch.ensures.rest.text_is;
      suffix = IfOk-at_ok _ c.in-Ok.is c.parse_cooked_content-stretch.ensures.suffix;
    }

pub returns-in-Ok-clause-reads : goal.returns-in-Ok-clause-reads
returns-in-Ok-clause-reads c =
    let at = c.part_offsets.ensures in
    let walk = c.parse_cooked_content-stretch.ensures in
    let closing : IsUtf8 c.parse_cooked_content-stretch.result.closing.now = search rules in
    let suffix : IsUtf8 c.in-Ok.suffix.now = search rules in
    cooked_reads c.args.ends _ _ _ _ _ c.part_offsets.result c.parse_cooked_content-stretch.result.plain c.requires walk.run walk.rest
    (IfOk-at_ok _ c.in-Ok.is walk.quote) (IfOk-at_ok _ c.in-Ok.is walk.strict) (IfOk-at_ok _ c.in-Ok.is walk.plain)
    c.utf8.text c.utf8.inside closing suffix at.stands at.body at.suffix at.lo (at.plain ∙ c.plain_of.ensures)

pub returns-in-Ok-clause-token : goal.returns-in-Ok-clause-token
returns-in-Ok-clause-token c = opened_token c.args.ends _ Form _ _ c.requires
    (IfOk-at_ok _ c.in-Ok.is c.parse_cooked_content-stretch.ensures.closes)

pub returns-in-Err-clause-flaw : goal.returns-in-Err-clause-flaw
returns-in-Err-clause-flaw c = opened_flaw c.args.ends _ Form _ _ _ _ _ c.requires
    (IfErr-at_err _ c.in-Err.is c.parse_cooked_content-stretch.ensures.stops)
