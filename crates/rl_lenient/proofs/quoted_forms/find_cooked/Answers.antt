use Rattle.rl_syntax.proofs.Common.{◌∙◌, sym, rules, IsUtf8}
use Rattle.rl_lenient.proofs.Names.{is_plain}
use Rattle.std.specs.Str.{chars}
use Rattle.rl_syntax.proofs.TailLemmas.{if_none}
use Rattle.rl_lenient.proofs.CutLemmas.{tail_chars}
use Rattle.rl_lenient.proofs.FormLemmas.{cooked_found, cooked_none, cooked_units, front_sound}
use Rattle.rl_lenient.specs.declared.quoted_forms.QuotedForm.TheVariants.{Cooked as CookedForm}
use Rattle.rl_lenient.proofs.FrontLenLemmas.{opener_lo}
use Rattle.rl_lenient.proofs.FoundLemmas.{form_at, quoted_found}
use Rattle.rl_lenient.proofs.PlainLemmas.{one_run, no_run}
use Rattle.rl_lenient.proofs.RowLemmas.{row_start}
use Rattle.rl_lenient.proofs.SingleBodies.{no_unit}
use Rattle.rl_lenient.proofs.OpenerLemmas.{only_quoted}
use Rattle.rl_lenient.proofs.quoted_forms.find_cooked.Goals as goal

pub split_plain-requires : goal.split_plain-requires
split_plain-requires c = (front_sound _ _ c.requires).has

pub skip_string_content-closer-requires : goal.skip_string_content-closer-requires
skip_string_content-closer-requires c = (front_sound _ _ c.requires).has

pub part_offsets-requires-clause-closer : goal.part_offsets-requires-clause-closer
part_offsets-requires-clause-closer c =
    let following : IsUtf8 c.split_plain.result.1.now = search rules in
    tail_chars _ _ _ c.utf8.inside following c.split_plain.ensures.cut

pub part_offsets-requires-2-clause-closer : goal.part_offsets-requires-2-clause-closer
part_offsets-requires-2-clause-closer c =
    let cut = c.split_plain.ensures in
    let (w, run) = cooked_units _ _ _ _ _ _ cut.cut cut.plain c.skip_string_content-closer.ensures.run.1 in
    tail_chars _ _ _ c.utf8.inside c.skip_string_content-closer.utf8 run.text_is

pub returns-in-Some-clause-found : goal.returns-in-Some-clause-found
returns-in-Some-clause-found c =
    let cut = c.split_plain.ensures in
    let at = c.part_offsets.ensures in
    let string = (front_sound _ _ c.requires).has in
    let (w, run) = cooked_units _ _ _ _ _ _ cut.cut cut.plain (row_start c.args.kind (chars c.split_plain.result.1.now))
    in
    let parts = cooked_found _ _ _ _ _ _ string run at.body c.in-Some.ensures.some in
    let plain = at.plain ∙ one_run (is_plain c.args.kind) _ _ _ (sym at.body ∙ cut.cut) cut.plain in
    quoted_found _ _ _ _ _ c.utf8.text (form_at _ _ _ _ _ _ _ c.requires parts at.suffix at.stands plain
    (opener_lo CookedForm _ _ _ _ (λ e. cc) c.utf8.text c.utf8.inside c.requires at.lo)) (no_unit _ _ string)
    c.quoted.ensures

pub returns-in_err-suffix-clause-none : goal.returns-in_err-suffix-clause-none
returns-in_err-suffix-clause-none c =
    let cut = c.split_plain.ensures in
    let (w, run) = cooked_units _ _ _ _ _ _ cut.cut cut.plain c.skip_string_content-closer.ensures.run.1 in
    if_none _ (only_quoted _ _ _ _ c.requires (cooked_none _ _ _ _ run c.skip_string_content-closer.ensures.stuck
    c.in_err-suffix.ensures.none))

pub returns-clause-found : goal.returns-clause-found
returns-clause-found c =
    let cut = c.split_plain.ensures in
    let at = c.part_offsets-2.ensures in
    let string = (front_sound _ _ c.requires).has in
    let (w, run) = cooked_units _ _ _ _ _ _ cut.cut cut.plain c.skip_string_content-closer.ensures.run.1 in
    let parts = cooked_found _ _ _ _ _ _ string run at.body c.in_ok-suffix.ensures.some in
    let plain = at.plain ∙ no_run (is_plain c.args.kind) _ _ _ _ _ (sym at.body ∙ cut.cut)
    c.skip_string_content-closer.ensures.run.1.text_is cut.stops (λ e. c.in_default.ensures.none _
    (e ∙ c.in_ok-suffix.ensures.some)) in
    quoted_found _ _ _ _ _ c.utf8.text (form_at _ _ _ _ _ _ _ c.requires parts at.suffix at.stands plain
    (opener_lo CookedForm _ _ _ _ (λ e. cc) c.utf8.text c.utf8.inside c.requires at.lo)) (no_unit _ _ string)
    c.quoted-2.ensures
