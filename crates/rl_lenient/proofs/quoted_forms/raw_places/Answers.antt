use Rattle.rl_syntax.proofs.Common.{◌∷◌, ◌++◌, ◌∙◌, ap, sym, rules, list_all, IsUtf8, append_cancel_right}
use Rattle.rl_lenient.proofs.Names.{is_raw}
use Rattle.std.specs.Str.{chars}
use Rattle.std.proofs.lemmas.Str.{IsCharBoundary-at_seam}
use Rattle.rl_syntax.proofs.TailLemmas.{tail_step, if_none}
use Rattle.rl_lenient.specs.Founds.{body_in}
use Rattle.rl_lenient.proofs.CutLemmas.{tail_chars}
use Rattle.rl_lenient.proofs.FormLemmas.{front_sound}
use Rattle.rl_lenient.proofs.FrontLenLemmas.{raw_lo}
use Rattle.rl_lenient.proofs.FoundLemmas.{form_at}
use Rattle.rl_lenient.proofs.PlaceLemmas.{closer_is, opened}
use Rattle.rl_lenient.proofs.RawLemmas.{opens, raw_unopened, raw_unclosed, raw_other_hashes, raw_not_held, raw_found}
use Rattle.rl_lenient.proofs.ShapeLemmas.{closed_cut}
use Rattle.rl_lenient.proofs.OpenerLemmas.{only_quoted}
use Rattle.rl_lenient.proofs.quoted_forms.raw_places.Goals as goal

pub returns-in_err-opened-clause-none : goal.returns-in_err-opened-clause-none
returns-in_err-opened-clause-none c = if_none _ (only_quoted _ _ _ _ c.requires
    (raw_unopened _ _ _ c.skip_hashes-rest.ensures.rest c.in_err-opened.ensures.none))

pub returns-in_err-body-clause-none : goal.returns-in_err-body-clause-none
returns-in_err-body-clause-none c = if_none _ (only_quoted _ _ _ _ c.requires
    (raw_unclosed _ _ _ _ c.skip_hashes-rest.ensures.rest c.before-hashes.ensures.chars _ c.in_ok-opened.ensures.some
    c.in_err-body.ensures.none))

pub before-hashes-requires : goal.before-hashes-requires
before-hashes-requires c = c.skip_hashes-rest.ensures.following

pub returns-in_err-suffix-clause-none : goal.returns-in_err-suffix-clause-none
returns-in_err-suffix-clause-none c =
    let b = c.in_ok-body.ensures.some in
    if_none _ (only_quoted _ _ _ _ c.requires (raw_other_hashes _ _ _ _ c.skip_hashes-rest.ensures.rest
    c.before-hashes.ensures.chars _ _ _ c.in_ok-opened.ensures.some b.0 b.1 c.in_err-suffix.ensures.none))

pub returns-then-not-holds_all-clause-none : goal.returns-then-not-holds_all-clause-none
returns-then-not-holds_all-clause-none c =
    let b = c.in_ok-body.ensures.some in
    only_quoted _ _ _ _ c.requires (raw_not_held _ _ _ _ c.skip_hashes-rest.ensures.rest c.before-hashes.ensures.chars _
    _ _ c.in_ok-opened.ensures.some b.0 b.1 (sym c.if-not-holds_all.ensures))

pub range_from-closer-requires : goal.range_from-closer-requires
range_from-closer-requires c =
    let opened : IsUtf8 c.in_ok-opened.opened.now = search rules in
    let body : IsUtf8 c.in_ok-body.body.now = search rules in
    let after : IsUtf8 c.in_ok-body.after.now = search rules in
    let (cut, text) = closed_cut _ _ _ opened body after c.in_ok-body.ensures.some.0 in
    λ some. IsCharBoundary-at_seam _ _ _ cut text

pub part_offsets-requires-clause-opened : goal.part_offsets-requires-clause-opened
part_offsets-requires-clause-opened c =
    let rest = c.skip_hashes-rest.ensures.following in
    tail_step _ _ _ (opened _ _ _ _ c.utf8.text c.utf8.inside c.requires)
    (tail_step _ _ _ rest c.in_ok-opened.ensures.following)

pub part_offsets-requires-clause-suffix : goal.part_offsets-requires-clause-suffix
part_offsets-requires-clause-suffix c =
    let opened : IsUtf8 c.in_ok-opened.opened.now = search rules in
    let body : IsUtf8 c.in_ok-body.body.now = search rules in
    let after : IsUtf8 c.in_ok-body.after.now = search rules in
    let suffix : IsUtf8 c.in_ok-suffix.suffix.now = search rules in
    let closer : IsUtf8 c.range_from-closer.result.now = search rules in
    let begins = closer_is _ _ _ _ opened body after c.in_ok-body.ensures.some.0 c.range_from-closer.ensures.value in
    tail_chars _ _ (34 ∷ chars c.before-hashes.result.now) closer suffix
    (begins ∙ ap (λ z. 34 ∷ z) c.in_ok-suffix.ensures.some)

pub returns-clause-some : goal.returns-clause-some
returns-clause-some c =
    let opened : IsUtf8 c.in_ok-opened.opened.now = search rules in
    let body : IsUtf8 c.in_ok-body.body.now = search rules in
    let after : IsUtf8 c.in_ok-body.after.now = search rules in
    let at = c.part_offsets.ensures in
    let b = c.in_ok-body.ensures.some in
    let string = (front_sound _ _ c.requires).has in
    let begins = closer_is _ _ _ _ opened body after b.0 c.range_from-closer.ensures.value in
    let last = at.body ∙ ap (λ z. chars (body_in c.args.text.now c.part_offsets.result) ++ z) begins in
    let same = append_cancel_right _ _ _ (sym last ∙ b.0) in
    let held = ap (list_all (is_raw c.args.kind)) same ∙ sym c.if-not-holds_all.ensures in
    let (v, parts) = raw_found _ _ _ _ c.skip_hashes-rest.ensures.rest c.before-hashes.ensures.chars _ _ _
    c.in_ok-opened.ensures.some last b.1 _ string c.in_ok-suffix.ensures.some held in
    let hashes = (opens _ _ _ _ c.skip_hashes-rest.ensures.rest c.before-hashes.ensures.chars v _ parts.0).0 in
    let lo = raw_lo _ _ _ _ _ _ parts.0.hashes _ c.utf8.text opened c.requires c.before-hashes.ensures.chars
    c.in_ok-opened.ensures.some hashes at.lo in
    form_at _ _ _ _ _ _ _ c.requires parts at.suffix at.stands at.plain lo
