use Rattle.rl_flaws.proofs.Names.{◌≡◌, ◌++◌, ◌∙◌, ap, refl, subst, sym, true, chars, form_opener, has_form, found_opener, front_sound, HasForm, front_of}
use Rattle.rl_flaws.proofs.WalkLemmas.{none_opens, plain_form, plain_front, raw_front, raw_none_opens}
use Rattle.rl_flaws.proofs.walks.split_opening_delimiter.Goals as goal

pub split_raw_opening-requires : goal.split_raw_opening-requires
split_raw_opening-requires c = subst (λ f. has_form f c.in-Some.kind ≡ true) c.in-Raw.is
    (front_sound _ _ (sym c.in-Some.ensures)).has

pub returns-in-Ok-clause-some : goal.returns-in-Ok-clause-some
returns-in-Ok-clause-some c =
    let has = subst (λ f. has_form f c.in-Some.kind ≡ true) c.in-Raw.is (front_sound _ _ (sym c.in-Some.ensures)).has in
    subst (λ f. HasForm f c.in-Some.kind (chars c.in-Ok.hashes.now)) (sym c.in-Raw.is) (has, c.in-Ok.ensures.hashes)

pub returns-in-Ok-clause-cut : goal.returns-in-Ok-clause-cut
returns-in-Ok-clause-cut c =
    let told = ap (λ f. form_opener f c.in-Some.kind ++ chars c.in-Some.inside.now) c.in-Raw.is in
    raw_front _ _ _ _ _ _ ((front_sound _ _ (sym c.in-Some.ensures)).text_is ∙ told) c.in-Ok.ensures.opened refl
    ∙ sym (ap (λ f. front_of f c.in-Some.kind (chars c.in-Ok.hashes.now) ++ chars c.in-Ok.rest.now) c.in-Raw.is)

pub returns-in-Err-clause-none : goal.returns-in-Err-clause-none
returns-in-Err-clause-none c = raw_none_opens _ _ c.in-Some.kind (sym c.in-Some.ensures ∙ ap (λ f. found_opener f
    c.in-Some.kind (chars c.in-Some.inside.now)) c.in-Raw.is) c.in-Err.ensures.unopened

pub returns-in_default-clause-some : goal.returns-in_default-clause-some
returns-in_default-clause-some c = plain_form c.in-Some.form _ _ c.in_default.not-Raw
    (front_sound _ _ (sym c.in-Some.ensures)).has

pub returns-in_default-clause-cut : goal.returns-in_default-clause-cut
returns-in_default-clause-cut c = (front_sound _ _ (sym c.in-Some.ensures)).text_is
    ∙ ap (λ z. z ++ chars c.in-Some.inside.now) (plain_front c.in-Some.form c.in-Some.kind _ c.in_default.not-Raw)

pub returns-in-None-clause-none : goal.returns-in-None-clause-none
returns-in-None-clause-none c = none_opens _ (sym c.in-None.ensures)
