use Rattle.rl_syntax.proofs.Common.{◌∙◌, sym, ap, Some}
use Rattle.rl_syntax.proofs.TailLemmas.{tail_step}
use Rattle.rl_lexer.proofs.HashLemmas.{hashes_met, hashes_missed}
use Rattle.rl_lexer.proofs.LexemeSteps.{raw_none, raw_found, raw_passes, only}
use Rattle.rl_lexer.proofs.lexeme.quotes.after_raw.Goals as goal

pub returns-in-Some-after_prefix-clause-rest : goal.returns-in-Some-after_prefix-clause-rest
returns-in-Some-after_prefix-clause-rest c =
    let m = c.from_two_bytes.ensures in
    let next = c.in-Some.ensures.some in
    let met = hashes_met _ _ _ c.requires c.in-Some-after_prefix.ensures.some in
    ap Some (sym met.1) ∙ sym (sym c.loop-following.invariant.same
    ∙ raw_found _ _ _ _ _ (ap (λ z. z.first) m) next (only _ 34 _ m next.is_mark) met.0)

pub loop-following-preserved : goal.loop-following-preserved
loop-following-preserved c =
    let m = c.from_two_bytes.ensures in
    let next = c.in-Some.ensures in
    let missed = hashes_missed _ _ c.requires c.in_default-after_prefix.ensures.none in
    record {
      following = tail_step _ _ _ c.loop-following.invariant.following next.following;
      same = sym (raw_passes _ _ _ _ _ (ap (λ z. z.first) m) next.some (only _ 34 _ m next.some.is_mark) missed)
          ∙ c.loop-following.invariant.same;
    }

pub returns-clause-rest : goal.returns-clause-rest
returns-clause-rest c =
    let m = c.from_two_bytes.ensures in
    sym (sym c.loop-following.invariant.same ∙ raw_none _ _ _ (ap (λ z. z.first) m) c.in_default.ensures.none)

pub returns-in-Some-after_prefix-clause-following : goal.returns-in-Some-after_prefix-clause-following
returns-in-Some-after_prefix-clause-following c =
    tail_step _ _ _ (tail_step _ _ _ c.loop-following.invariant.following c.in-Some.ensures.following)
    c.in-Some-after_prefix.ensures.following
