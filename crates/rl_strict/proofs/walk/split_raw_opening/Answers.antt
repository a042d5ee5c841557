use Rattle.rl_strict.proofs.Names.{◌==◌, ◌∙◌, ap, append_cancel_right, arith, is_hash, ne_eqb, rules, sym, tail_step, chars, first_passes}
use Rattle.rl_strict.proofs.StrictRawFlaws.{hash_more}
use Rattle.rl_strict.proofs.StrictRawLemmas.{raw_unopened}
use Rattle.rl_strict.proofs.WalkForms.{opened_text, raw_bare, raw_many, raw_short}
use Rattle.rl_strict.proofs.walk.split_raw_opening.Goals as goal

pub loop-first-preserved : goal.loop-first-preserved
loop-first-preserved c = record {
  utf8 = search rules;
  following = tail_step _ _ _ c.loop-first.invariant.following c.in-Some.ensures.following;
  few = omega arith;
  hashes = hash_more _ _ _ _ _ c.loop-first.invariant.hashes c.in-Some.ensures.chars c.if-first-ne35.false;
}

pub returns-then-first-eq34-clause-hashes : goal.returns-then-first-eq34-clause-hashes
returns-then-first-eq34-clause-hashes c = (
  _,
  c.loop-first.invariant.few,
  append_cancel_right _ _ _ (sym c.before-then-first-eq34.ensures.chars ∙ c.loop-first.invariant.hashes),
)

pub returns-then-first-eq34-clause-opened : goal.returns-then-first-eq34-clause-opened
returns-then-first-eq34-clause-opened c = opened_text _ _ _ _ _ c.before-then-first-eq34.ensures.chars c.in-Some.ensures.chars
    c.if-first-eq34.true

pub returns-then-first-ne35-clause-stops : goal.returns-then-first-ne35-clause-stops
returns-then-first-ne35-clause-stops c how = raw_bare how c.args.kind _ _ _ _ _ _ _ _ c.requires c.loop-first.invariant.few
    c.loop-first.invariant.hashes c.in-Some.ensures.chars (ne_eqb _ 35 c.if-first-ne35.true) (ne_eqb _ 34 c.if-first-eq34.false)
    c.make_flaw.ensures.0 (ap chars c.make_flaw.ensures.2) (ap chars c.make_flaw.ensures.1)

pub returns-then-first-ne35-clause-unopened : goal.returns-then-first-ne35-clause-unopened
returns-then-first-ne35-clause-unopened c = raw_unopened _ _ _ c.loop-first.invariant.few c.loop-first.invariant.hashes
    (λ less. ap (first_passes is_hash) c.in-Some.ensures.chars ∙ ne_eqb _ 35 c.if-first-ne35.true)
    (ap (first_passes (λ d. d == 34)) c.in-Some.ensures.chars ∙ ne_eqb _ 34 c.if-first-eq34.false)

pub returns-then-count-eq255-clause-stops : goal.returns-then-count-eq255-clause-stops
returns-then-count-eq255-clause-stops c how = raw_many how c.args.kind _ _ _ _ _ _ _ _ c.requires c.loop-first.invariant.few
    c.loop-first.invariant.hashes (λ less. absurd (omega (arith, less, c.if-count-eq255.true))) c.in-Some.ensures.chars
    (ap (λ z. z == 35) c.if-first-ne35.false) (c.with_piece.ensures.0 ∙ c.make_flaw-then-count-eq255.ensures.0)
    (ap chars c.with_piece.ensures.2) (ap chars (c.with_piece.ensures.1 ∙ c.make_flaw-then-count-eq255.ensures.1))

pub returns-then-count-eq255-clause-unopened : goal.returns-then-count-eq255-clause-unopened
returns-then-count-eq255-clause-unopened c = raw_unopened _ _ _ c.loop-first.invariant.few c.loop-first.invariant.hashes
    (λ less. absurd (omega (arith, less, c.if-count-eq255.true)))
    (ap (first_passes (λ d. d == 34)) c.in-Some.ensures.chars ∙ ap (λ z. z == 34) c.if-first-ne35.false)

pub returns-clause-stops : goal.returns-clause-stops
returns-clause-stops c how = raw_short how c.args.kind _ _ _ _ _ _ c.requires c.loop-first.invariant.few
    c.loop-first.invariant.hashes c.in_default.ensures.chars c.make_flaw-2.ensures.0
    (ap chars c.make_flaw-2.ensures.2) (ap chars c.make_flaw-2.ensures.1)

pub returns-clause-unopened : goal.returns-clause-unopened
returns-clause-unopened c = raw_unopened _ _ _ c.loop-first.invariant.few c.loop-first.invariant.hashes
    (λ less. ap (first_passes is_hash) c.in_default.ensures.chars)
    (ap (first_passes (λ d. d == 34)) c.in_default.ensures.chars)
