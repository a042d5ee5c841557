use Rattle.rl_flaws.proofs.Names.{◌++◌, ◌∙◌, ap, refl, rules, subst, sym, IsUtf8, chars, IfErr-weaker, IfOk-weaker, tail_chars, CookedForm, RawForm, SingleForm, read_of, IsInsideUpTo, HasForm, front_of, close_token}
use Rattle.rl_flaws.proofs.RawLemmas.{raw_up_to}
use Rattle.rl_flaws.proofs.WalkLemmas.{flaw_after, piece_some, raw_cut, unit_up_to}
use Rattle.rl_strict.proofs.StrictCookedFlaws.{no_unit}
use Rattle.rl_flaws.proofs.walks.parse_quoted_content.Goals as goal

pub returns-in-Cooked : goal.returns-in-Cooked
returns-in-Cooked c =
    let o = subst (λ f. HasForm f c.args.opened.kind (chars c.args.opened.hashes.now)) c.in-Cooked.is c.requires in
    let front = ap (λ f. front_of f c.args.opened.kind (chars c.args.opened.hashes.now)
    ++ read_of c.args.ends (chars c.args.text.now)) c.in-Cooked.is in
    let walk = c.parse_cooked_content.ensures in
    let closing : IsUtf8 c.parse_cooked_content.result.closing.now = search rules in
    record {
      good = subst (λ f. IsInsideUpTo f c.args.opened.kind (chars c.args.opened.hashes.now) (read_of c.args.ends (chars c.args.text.now))
          (read_of c.args.ends (chars c.parse_cooked_content.result.closing.now))) (sym c.in-Cooked.is)
          (walk.run, no_unit _ _ walk.stuck);
      rest = walk.rest;
      following = tail_chars _ _ _ c.utf8.text closing walk.rest.text_is;
      some = IfErr-weaker c.parse_cooked_content.result.end _ _ (piece_some CookedForm _) walk.at;
      piece = IfErr-weaker c.parse_cooked_content.result.end _ _ (λ f s. s.piece_in) walk.stops;
      stop = IfErr-weaker c.parse_cooked_content.result.end _ _ (λ f s. s.rest_in) walk.stops;
      token = IfOk-weaker c.parse_cooked_content.result.end _ _ (λ suffix. close_token CookedForm _ _ _ o front) walk.closes;
      flaw = IfErr-weaker c.parse_cooked_content.result.end _ _ (λ f. flaw_after c.args.ends CookedForm _ f.kind _ _ _ _ _ o front)
          walk.stops;
    }

pub returns-in-Single : goal.returns-in-Single
returns-in-Single c =
    let o = subst (λ f. HasForm f c.args.opened.kind (chars c.args.opened.hashes.now)) c.in-Single.is c.requires in
    let front = ap (λ f. front_of f c.args.opened.kind (chars c.args.opened.hashes.now)
    ++ read_of c.args.ends (chars c.args.text.now)) c.in-Single.is in
    let walk = c.walk_unit.ensures in
    let closing : IsUtf8 c.walk_unit.result.closing.now = search rules in
    record {
      good = subst (λ f. IsInsideUpTo f c.args.opened.kind (chars c.args.opened.hashes.now) (read_of c.args.ends (chars c.args.text.now))
          (read_of c.args.ends (chars c.walk_unit.result.closing.now))) (sym c.in-Single.is)
          (unit_up_to c.args.ends _ _ _ o walk.good);
      rest = walk.rest;
      following = tail_chars _ _ _ c.utf8.text closing walk.rest.text_is;
      some = IfErr-weaker c.walk_unit.result.end _ _ (piece_some SingleForm _) walk.at;
      piece = IfErr-weaker c.walk_unit.result.end _ _ (λ f s. s.piece_in) walk.stops;
      stop = IfErr-weaker c.walk_unit.result.end _ _ (λ f s. s.rest_in) walk.stops;
      token = IfOk-weaker c.walk_unit.result.end _ _ (λ suffix. close_token SingleForm _ _ _ o front) walk.closes;
      flaw = IfErr-weaker c.walk_unit.result.end _ _ (λ f. flaw_after c.args.ends SingleForm _ f.kind _ _ _ _ _ o front)
          walk.stops;
    }

pub returns-in-Raw : goal.returns-in-Raw
returns-in-Raw c =
    let o = subst (λ f. HasForm f c.args.opened.kind (chars c.args.opened.hashes.now)) c.in-Raw.is c.requires in
    let front = ap (λ f. front_of f c.args.opened.kind (chars c.args.opened.hashes.now)
    ++ read_of c.args.ends (chars c.args.text.now)) c.in-Raw.is ∙ raw_cut _ _ _ _ refl in
    let walk = c.parse_raw_content.ensures in
    let closing : IsUtf8 c.parse_raw_content.result.closing.now = search rules in
    record {
      good = subst (λ f. IsInsideUpTo f c.args.opened.kind (chars c.args.opened.hashes.now) (read_of c.args.ends (chars c.args.text.now))
          (read_of c.args.ends (chars c.parse_raw_content.result.closing.now))) (sym c.in-Raw.is)
          (raw_up_to _ (chars c.args.opened.hashes.now) _ _ o.0 walk.stop);
      rest = walk.rest;
      following = tail_chars _ _ _ c.utf8.text closing walk.rest.text_is;
      some = IfErr-weaker c.parse_raw_content.result.end _ _ (piece_some RawForm _) walk.at;
      piece = IfErr-weaker c.parse_raw_content.result.end _ _ (λ f s. s.piece_in) walk.stops;
      stop = IfErr-weaker c.parse_raw_content.result.end _ _ (λ f s. s.rest_in) walk.stops;
      token = IfOk-weaker c.parse_raw_content.result.end _ _ (λ suffix. close_token RawForm _ _ _ o.0 front) walk.closes;
      flaw = IfErr-weaker c.parse_raw_content.result.end _ _ (λ f. flaw_after c.args.ends RawForm _ f.kind _ _ _ _ _ o.0 front)
          walk.stops;
    }
