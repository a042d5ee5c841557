use Rattle.rl_flaws.proofs.Names.{◌&&◌, ◌∙◌, ap, length, not, refl, rules, IsUtf8, chars, IsLeft, state_of, Inside, is_flaw_after_quote, is_flaw_of_unit}
use Rattle.rl_syntax.specs.Quoted.{is_single, is_string}
use Rattle.rl_flaws.proofs.FirstFlaws.{first_in, first_takes, place_cut}
use Rattle.rl_flaws.proofs.FlawLemmas.{inside_left}
use Rattle.rl_flaws.proofs.WalkLemmas.{opened_bytes, rest_room}
use Rattle.rl_flaws.proofs.WholeLemmas.{flaw_in, opened_flaws, whole_flaws, whole_of, whole_takes}
use Rattle.rl_flaws.proofs.flaws.Flaws.after.Goals as goal

pub range_from-piece-requires : goal.range_from-piece-requires
range_from-piece-requires c = λ _. (place_cut c.args.ends c.args.text.now _ _ c.utf8.text
    (flaw_in c.args.ends c.args.text.now c.args.flaw c.utf8.text c.requires).from).0

pub returns-in-Some-clause-first : goal.returns-in-Some-clause-first
returns-in-Some-clause-first c =
    let x = flaw_in c.args.ends c.args.text.now c.args.flaw c.utf8.text c.requires in
    let same = ap chars c.range_from-piece.ensures.value ∙ (place_cut c.args.ends c.args.text.now _ _ c.utf8.text x.from).1
    in (
      state_of c.args.ends (length c.args.text.now) (Inside c.in-Some.opened c.in-Some.inside),
      opened_flaws c.in-Some.opened c.args.text.now c.in-Some.inside c.in-Some.ensures.some c.in-Some.ensures.cut c.args.ends,
      first_takes c.args.ends c.in-Some.opened c.args.text.now c.in-Some.inside c.args.flaw c.in-Some.ensures.some
          c.in-Some.ensures.cut x c.range_from-piece.result.now _ _ _ same c.quote.ensures.value c.end_of-end.ensures
          c.left_after-left.ensures,
    )

pub returns-in-None-clause-first : goal.returns-in-None-clause-first
returns-in-None-clause-first c = (
  whole_of c.args.ends c.args.text.now,
  whole_flaws c.args.ends c.args.text.now c.in-None.ensures.none,
  whole_takes c.args.ends c.args.text.now c.args.flaw c.utf8.text c.requires,
)

pub invariant_of-result : goal.invariant_of-result
invariant_of-result c =
    let o = c.in-Some.opened in
    let x = flaw_in c.args.ends c.args.text.now c.args.flaw c.utf8.text c.requires in
    let same = ap chars c.range_from-piece.ensures.value ∙ (place_cut c.args.ends c.args.text.now _ _ c.utf8.text x.from).1 in
    let inside : IsUtf8 c.in-Some.inside.now = search rules in
    let here : IsLeft (length c.args.text.now) (Inside o c.in-Some.inside) =
    (c.in-Some.ensures.some, opened_bytes _ _ _ c.utf8.text inside c.in-Some.ensures.cut, inside) in
    let room = rest_room c.args.ends _ _ inside c.range_from-piece.utf8 (first_in c.args.ends o c.args.text.now
    c.in-Some.inside c.args.flaw c.in-Some.ensures.some c.in-Some.ensures.cut x c.range_from-piece.result.now same) in
    inside_left c.args.ends o c.in-Some.inside _ _ (is_string o.kind && is_flaw_of_unit c.args.flaw.kind)
    (is_single o.kind) (not (is_flaw_after_quote c.args.flaw.kind)) _ here room refl c.left_after-left.ensures
