use Rattle.rl_strict.proofs.Names.{◌∙◌, ap, inl, inr, refl, sym, chars, found_flaw, Text}
use Rattle.rl_strict.proofs.EndLemmas.{self_in, unit_in}
use Rattle.rl_strict.proofs.WalkForms.{single_bad, single_good, no_quote_unit, no_unit, single_stuck, single_unclosed, unit_over, unit_quoted, unit_some}
use Rattle.rl_strict.proofs.walk.parse_single_unit.Goals as goal

pub returns-in_default-clause-rest : goal.returns-in_default-clause-rest
returns-in_default-clause-rest c = self_in c.args.ends _

pub returns-in_default-clause-stops : goal.returns-in_default-clause-stops
returns-in_default-clause-stops c = single_stuck c.args.ends _ _ _ _ _ c.requires (sym c.in_default.ensures.rest) (ap (λ
    k. found_flaw k (chars c.with_piece.result.rest.now)) c.with_piece.ensures.0 ∙ ap (λ z. found_flaw
    c.unit_flaw.result.kind (chars z)) c.with_piece.ensures.1 ∙ c.unit_flaw.ensures) (ap chars c.with_piece.ensures.2)

pub returns-in-None-suffix_flaw-clause-rest : goal.returns-in-None-suffix_flaw-clause-rest
returns-in-None-suffix_flaw-clause-rest c = unit_in c.args.ends _ _ _ c.requires (sym c.in-Some.ensures.rest)

pub returns-in-None-suffix_flaw-clause-closes : goal.returns-in-None-suffix_flaw-clause-closes
returns-in-None-suffix_flaw-clause-closes c = single_good c.args.ends _ _ _ _ c.requires (sym c.in-Some.ensures.rest)
    c.in-Some-strip_quote.ensures.some c.in-None-suffix_flaw.ensures.flaw

pub returns-in-None-suffix_flaw-clause-whole : goal.returns-in-None-suffix_flaw-clause-whole
returns-in-None-suffix_flaw-clause-whole c = single_good Text _ _ _ _ c.requires (sym c.in-Some.ensures.rest)
    c.in-Some-strip_quote.ensures.some c.in-None-suffix_flaw.ensures.flaw

pub returns-in-Some-suffix_flaw-clause-rest : goal.returns-in-Some-suffix_flaw-clause-rest
returns-in-Some-suffix_flaw-clause-rest c = unit_in c.args.ends _ _ _ c.requires (sym c.in-Some.ensures.rest)

pub returns-in-Some-suffix_flaw-clause-stops : goal.returns-in-Some-suffix_flaw-clause-stops
returns-in-Some-suffix_flaw-clause-stops c = single_bad c.args.ends _ _ _ _ c.in-Some-suffix_flaw.flaw c.requires
    (sym c.in-Some.ensures.rest) c.in-Some-strip_quote.ensures.some c.in-Some-suffix_flaw.ensures.flaw
    c.in-Some-suffix_flaw.ensures.piece

pub returns-in-None-clause-rest : goal.returns-in-None-clause-rest
returns-in-None-clause-rest c = self_in c.args.ends _

pub returns-in-None-clause-stops : goal.returns-in-None-clause-stops
returns-in-None-clause-stops c = single_unclosed c.args.ends _ _ _ _ _ _ c.requires (sym c.in-Some.ensures.rest)
    c.in-None.ensures.none (ap (λ k. found_flaw k (chars c.with_piece-in-None.result.rest.now))
    c.with_piece-in-None.ensures.0 ∙ ap (λ z. found_flaw c.flaw_at_end_or_before.result.kind (chars z)) c.with_piece-in-None.ensures.1 ∙
    c.flaw_at_end_or_before.ensures) (ap chars c.with_piece-in-None.ensures.2)

pub returns-in_default-clause-good : goal.returns-in_default-clause-good
returns-in_default-clause-good c = inr (refl, no_unit _ _ (sym c.in_default.ensures.rest))

pub returns-in-None-suffix_flaw-clause-good : goal.returns-in-None-suffix_flaw-clause-good
returns-in-None-suffix_flaw-clause-good c = inl (sym c.in-Some.ensures.rest, unit_quoted _ _ c.in-Some-strip_quote.ensures.some)

pub returns-in-Some-suffix_flaw-clause-good : goal.returns-in-Some-suffix_flaw-clause-good
returns-in-Some-suffix_flaw-clause-good c = inl (sym c.in-Some.ensures.rest, unit_quoted _ _ c.in-Some-strip_quote.ensures.some)

pub returns-in-None-clause-good : goal.returns-in-None-clause-good
returns-in-None-clause-good c = inr (refl, no_quote_unit _ _ _ (sym c.in-Some.ensures.rest) c.in-None.ensures.none)

pub returns-in_default-clause-at : goal.returns-in_default-clause-at
returns-in_default-clause-at c = inl (
  c.with_piece.ensures.2,
  unit_over _ _ _ _ (ap (λ k. found_flaw k (chars c.with_piece.result.rest.now)) c.with_piece.ensures.0
      ∙ ap (λ z. found_flaw c.unit_flaw.result.kind (chars z)) c.with_piece.ensures.1 ∙ c.unit_flaw.ensures),
)

pub returns-in-Some-suffix_flaw-clause-at : goal.returns-in-Some-suffix_flaw-clause-at
returns-in-Some-suffix_flaw-clause-at c = inr (
  chars c.in-Some-strip_quote.suffix.now,
  c.in-Some-suffix_flaw.ensures.flaw,
)

pub returns-in-None-clause-at : goal.returns-in-None-clause-at
returns-in-None-clause-at c = inl (
  c.with_piece-in-None.ensures.2,
  λ e. absurd (unit_some _ _ _ (sym c.in-Some.ensures.rest) e),
)
