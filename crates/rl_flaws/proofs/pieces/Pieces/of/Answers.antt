use Rattle.rl_flaws.proofs.Names.{Bool, length, rules, subst, sym, IsUtf8, state_of, segments_at, Inside}
use Rattle.rl_flaws.specs.Pieces.{IsGoodInside}
use Rattle.rl_flaws.proofs.WalkLemmas.{opened_bytes}
use Rattle.rl_flaws.proofs.WholeLemmas.{opened_flaws}
use Rattle.rl_flaws.proofs.pieces.Pieces.of.Goals as goal

pub next_flaw_inside-judged-requires : goal.next_flaw_inside-judged-requires
next_flaw_inside-judged-requires c =
    let inside : IsUtf8 c.in-Some.inside.now = search rules in
    (c.in-Some.ensures.some, opened_bytes _ _ _ c.utf8.text inside c.in-Some.ensures.cut, inside)

pub returns-in-Some-clause-some : goal.returns-in-Some-clause-some
returns-in-Some-clause-some c =
    let o = c.in-Some.opened in
    let flaws = state_of c.args.ends (length c.args.text.now) (Inside o c.in-Some.inside) in (
      flaws,
      opened_flaws o c.args.text.now c.in-Some.inside c.in-Some.ensures.some c.in-Some.ensures.cut c.args.ends,
      record {
        good = subst (λ (b : Bool). IsGoodInside o.kind flaws (segments_at o.kind b c.next_flaw_inside-judged.result.end
            c.next_flaw_inside-judged.result.good.now)) (sym c.is_raw.ensures) c.next_flaw_inside-judged.ensures.good.0;
        gives = c.next_flaw_inside-judged.ensures.gives;
      },
    )
