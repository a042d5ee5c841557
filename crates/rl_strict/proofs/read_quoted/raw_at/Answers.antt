use Rattle.rl_strict.proofs.Names.{Form, [], ◌∷◌, ◌++◌, ◌∙◌, append_assoc, rules, sym, IsUtf8, chars, IfErr-at_err, IfOk-at_ok, tail_step, tail_chars, front_sound, opened}
use Rattle.rl_strict.proofs.FileStrings.{raw_reads}
use Rattle.rl_strict.proofs.FormReads.{opened_flaw, opened_token}
use Rattle.rl_strict.proofs.WalkForms.{opened_closes, opened_stops}
use Rattle.rl_strict.proofs.read_quoted.raw_at.Goals as goal

pub split_raw_opening-requires : goal.split_raw_opening-requires
split_raw_opening-requires c = (front_sound _ _ c.requires).has

pub returns-in-Err-clause-flaw : goal.returns-in-Err-clause-flaw
returns-in-Err-clause-flaw c = opened_flaw c.args.ends _ Form _ _ _ _ _ c.requires (c.in-Err.ensures.stops c.args.ends)

pub parse_raw_content-stretch-requires-clause-string : goal.parse_raw_content-stretch-requires-clause-string
parse_raw_content-stretch-requires-clause-string c = (front_sound _ _ c.requires).has

pub part_offsets-requires : goal.part_offsets-requires
part_offsets-requires c =
    let start : IsUtf8 c.in-Ok.opened.now = search rules in
    let closing : IsUtf8 c.parse_raw_content-stretch.result.closing.now = search rules in
    let suffix : IsUtf8 c.in-Ok-end.suffix.now = search rules in
    let left = IfOk-at_ok _ c.in-Ok-end.is c.parse_raw_content-stretch.ensures.left in
    record {
      opened = tail_step _ _ _ (opened _ _ _ _ c.utf8.text c.utf8.inside c.requires)
          (tail_chars _ _ (chars c.in-Ok.hashes.now ++ (34 ∷ [])) c.utf8.inside start
          (c.in-Ok.ensures.opened ∙ sym (append_assoc (chars c.in-Ok.hashes.now) (34 ∷ []) (chars c.in-Ok.opened.now))));
      closer = tail_chars _ _ _ start closing c.parse_raw_content-stretch.ensures.rest.text_is;
      suffix = tail_chars _ _ left.front closing suffix left.text_is;
    }

pub returns-in-Ok-end-clause-reads : goal.returns-in-Ok-end-clause-reads
returns-in-Ok-end-clause-reads c =
    let (n, few, e) = c.in-Ok.ensures.hashes in
    let at = c.part_offsets.ensures in
    let walk = c.parse_raw_content-stretch.ensures in
    let start : IsUtf8 c.in-Ok.opened.now = search rules in
    let closing : IsUtf8 c.parse_raw_content-stretch.result.closing.now = search rules in
    let suffix : IsUtf8 c.in-Ok-end.suffix.now = search rules in
    raw_reads c.args.ends c.args.kind n _ _ _ _ _ (chars c.in-Ok.hashes.now) c.part_offsets.result
    c.parse_raw_content-stretch.result.plain c.requires e c.in-Ok.ensures.opened walk.stop walk.rest
    (IfOk-at_ok _ c.in-Ok-end.is walk.left) (IfOk-at_ok _ c.in-Ok-end.is walk.quote) (IfOk-at_ok _ c.in-Ok-end.is walk.suffix)
    walk.plain c.utf8.text c.utf8.inside start closing suffix at.stands at.body at.suffix at.lo
    (at.plain ∙ c.plain_of.ensures)

pub returns-in-Ok-end-clause-token : goal.returns-in-Ok-end-clause-token
returns-in-Ok-end-clause-token c =
    let (n, few, e) = c.in-Ok.ensures.hashes in
    opened_token c.args.ends _ Form _ _ c.requires (opened_closes c.args.ends c.args.kind n _ _ _ e
    c.in-Ok.ensures.opened (IfOk-at_ok _ c.in-Ok-end.is c.parse_raw_content-stretch.ensures.closes))

pub returns-in-Err-end-clause-flaw : goal.returns-in-Err-end-clause-flaw
returns-in-Err-end-clause-flaw c =
    let (n, few, e) = c.in-Ok.ensures.hashes in
    opened_flaw c.args.ends _ Form _ _ _ _ _ c.requires (opened_stops c.args.ends c.args.kind _ n _ _ _ _ _ e
    c.in-Ok.ensures.opened (IfErr-at_err _ c.in-Err-end.is c.parse_raw_content-stretch.ensures.stops))
