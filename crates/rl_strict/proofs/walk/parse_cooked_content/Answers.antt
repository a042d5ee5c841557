use Rattle.rl_strict.proofs.Names.{◌∙◌, ap, inl, inr, chars, found_flaw, CookedForm}
use Rattle.rl_strict.proofs.WalkForms.{cooked_bad, cooked_good, cooked_stuck, good_suffix, plain_not, plain_run, quote_stuck, run_in, run_of, unit_over, units_in, units_of}
use Rattle.rl_strict.proofs.walk.parse_cooked_content.Goals as goal

pub returns-in-None-clause-run : goal.returns-in-None-clause-run
returns-in-None-clause-run c = run_of c.args.ends _ _ _ _ c.requires c.split_plain.ensures.cut c.split_plain.ensures.plain

pub returns-in-None-clause-rest : goal.returns-in-None-clause-rest
returns-in-None-clause-rest c = run_in c.args.ends _ _ _ _ c.requires c.split_plain.ensures.cut c.split_plain.ensures.plain

pub returns-in-None-clause-strict : goal.returns-in-None-clause-strict
returns-in-None-clause-strict c = good_suffix c.args.ends CookedForm _ c.in-None.ensures.flaw

pub returns-in-None-suffix_flaw-clause-strict : goal.returns-in-None-suffix_flaw-clause-strict
returns-in-None-suffix_flaw-clause-strict c = good_suffix c.args.ends CookedForm _ c.in-None-suffix_flaw.ensures.flaw

pub returns-in-None-clause-plain : goal.returns-in-None-clause-plain
returns-in-None-clause-plain c = plain_run _ _ _ _ c.split_plain.ensures.cut c.split_plain.ensures.plain

pub returns-in-None-clause-closes : goal.returns-in-None-clause-closes
returns-in-None-clause-closes c = cooked_good c.args.ends _ _ _ _ c.requires (run_of c.args.ends _ _ _ _ c.requires
    c.split_plain.ensures.cut c.split_plain.ensures.plain) c.in-Some.ensures.some c.in-None.ensures.flaw

pub returns-in-Some-suffix_flaw-clause-run : goal.returns-in-Some-suffix_flaw-clause-run
returns-in-Some-suffix_flaw-clause-run c = run_of c.args.ends _ _ _ _ c.requires c.split_plain.ensures.cut
    c.split_plain.ensures.plain

pub returns-in-Some-suffix_flaw-clause-rest : goal.returns-in-Some-suffix_flaw-clause-rest
returns-in-Some-suffix_flaw-clause-rest c = run_in c.args.ends _ _ _ _ c.requires c.split_plain.ensures.cut
    c.split_plain.ensures.plain

pub returns-in-Some-suffix_flaw-clause-stops : goal.returns-in-Some-suffix_flaw-clause-stops
returns-in-Some-suffix_flaw-clause-stops c =
    let cut = c.split_plain.ensures in
    cooked_bad c.args.ends _ _ _ _ c.in-Some-suffix_flaw.flaw c.requires
    (run_of c.args.ends _ _ _ _ c.requires cut.cut cut.plain) (run_in c.args.ends _ _ _ _ c.requires cut.cut cut.plain)
    c.in-Some.ensures.some c.in-Some-suffix_flaw.ensures.flaw c.in-Some-suffix_flaw.ensures.piece

pub returns-in-None-suffix_flaw-clause-run : goal.returns-in-None-suffix_flaw-clause-run
returns-in-None-suffix_flaw-clause-run c = units_of c.args.ends _ _ _ _ _ c.requires c.split_plain.ensures.cut
    c.split_plain.ensures.plain c.skip_units-closing.ensures.run

pub returns-in-None-suffix_flaw-clause-rest : goal.returns-in-None-suffix_flaw-clause-rest
returns-in-None-suffix_flaw-clause-rest c = units_in c.args.ends _ _ _ _ _ c.requires c.split_plain.ensures.cut
    c.split_plain.ensures.plain c.skip_units-closing.ensures.rest

pub returns-in-None-suffix_flaw-clause-plain : goal.returns-in-None-suffix_flaw-clause-plain
returns-in-None-suffix_flaw-clause-plain c =
    let cut = c.split_plain.ensures in
    plain_not c.args.ends _ _ _ _ _ c.skip_units-closing.ensures.rest cut.cut cut.stops
    (λ e. c.in_default.ensures.none _ (e ∙ c.in-Some-strip_quote.ensures.some))

pub returns-in-None-suffix_flaw-clause-closes : goal.returns-in-None-suffix_flaw-clause-closes
returns-in-None-suffix_flaw-clause-closes c = cooked_good c.args.ends _ _ _ _ c.requires
    (units_of c.args.ends _ _ _ _ _ c.requires c.split_plain.ensures.cut c.split_plain.ensures.plain
    c.skip_units-closing.ensures.run) c.in-Some-strip_quote.ensures.some c.in-None-suffix_flaw.ensures.flaw

pub returns-in-Some-suffix_flaw-2-clause-run : goal.returns-in-Some-suffix_flaw-2-clause-run
returns-in-Some-suffix_flaw-2-clause-run c = units_of c.args.ends _ _ _ _ _ c.requires c.split_plain.ensures.cut
    c.split_plain.ensures.plain c.skip_units-closing.ensures.run

pub returns-in-Some-suffix_flaw-2-clause-rest : goal.returns-in-Some-suffix_flaw-2-clause-rest
returns-in-Some-suffix_flaw-2-clause-rest c = units_in c.args.ends _ _ _ _ _ c.requires c.split_plain.ensures.cut
    c.split_plain.ensures.plain c.skip_units-closing.ensures.rest

pub returns-in-Some-suffix_flaw-2-clause-stops : goal.returns-in-Some-suffix_flaw-2-clause-stops
returns-in-Some-suffix_flaw-2-clause-stops c =
    let cut = c.split_plain.ensures in
    cooked_bad c.args.ends _ _ _ _ c.in-Some-suffix_flaw-2.flaw c.requires
    (units_of c.args.ends _ _ _ _ _ c.requires cut.cut cut.plain c.skip_units-closing.ensures.run)
    (units_in c.args.ends _ _ _ _ _ c.requires cut.cut cut.plain c.skip_units-closing.ensures.rest)
    c.in-Some-strip_quote.ensures.some c.in-Some-suffix_flaw-2.ensures.flaw c.in-Some-suffix_flaw-2.ensures.piece

pub returns-in-None-strip_quote-clause-run : goal.returns-in-None-strip_quote-clause-run
returns-in-None-strip_quote-clause-run c = units_of c.args.ends _ _ _ _ _ c.requires c.split_plain.ensures.cut
    c.split_plain.ensures.plain c.skip_units-closing.ensures.run

pub returns-in-None-strip_quote-clause-rest : goal.returns-in-None-strip_quote-clause-rest
returns-in-None-strip_quote-clause-rest c = units_in c.args.ends _ _ _ _ _ c.requires c.split_plain.ensures.cut
    c.split_plain.ensures.plain c.skip_units-closing.ensures.rest

pub returns-in-None-strip_quote-clause-stops : goal.returns-in-None-strip_quote-clause-stops
returns-in-None-strip_quote-clause-stops c =
    let cut = c.split_plain.ensures in
    cooked_stuck c.args.ends _ _ _ _ _ _ c.requires
    (units_of c.args.ends _ _ _ _ _ c.requires cut.cut cut.plain c.skip_units-closing.ensures.run)
    (units_in c.args.ends _ _ _ _ _ c.requires cut.cut cut.plain c.skip_units-closing.ensures.rest)
    c.skip_units-closing.ensures.stuck c.in-None-strip_quote.ensures.none
    (ap (λ k. found_flaw k (chars c.with_piece.result.rest.now)) c.with_piece.ensures.0
    ∙ ap (λ z. found_flaw c.unit_flaw.result.kind (chars z)) c.with_piece.ensures.1 ∙ c.unit_flaw.ensures)
    (ap chars c.with_piece.ensures.2)

pub returns-in-None-clause-stuck : goal.returns-in-None-clause-stuck
returns-in-None-clause-stuck c = quote_stuck c.args.ends _ _ _ c.requires c.in-Some.ensures.some

pub returns-in-Some-suffix_flaw-clause-stuck : goal.returns-in-Some-suffix_flaw-clause-stuck
returns-in-Some-suffix_flaw-clause-stuck c = quote_stuck c.args.ends _ _ _ c.requires c.in-Some.ensures.some

pub returns-in-Some-suffix_flaw-clause-at : goal.returns-in-Some-suffix_flaw-clause-at
returns-in-Some-suffix_flaw-clause-at c = inr (chars c.in-Some.suffix.now, c.in-Some-suffix_flaw.ensures.flaw)

pub returns-in-Some-suffix_flaw-2-clause-at : goal.returns-in-Some-suffix_flaw-2-clause-at
returns-in-Some-suffix_flaw-2-clause-at c = inr (
  chars c.in-Some-strip_quote.suffix.now,
  c.in-Some-suffix_flaw-2.ensures.flaw,
)

pub returns-in-None-strip_quote-clause-at : goal.returns-in-None-strip_quote-clause-at
returns-in-None-strip_quote-clause-at c = inl (
  c.with_piece.ensures.2,
  unit_over _ _ _ _ (ap (λ k. found_flaw k (chars c.with_piece.result.rest.now)) c.with_piece.ensures.0
      ∙ ap (λ z. found_flaw c.unit_flaw.result.kind (chars z)) c.with_piece.ensures.1 ∙ c.unit_flaw.ensures),
)
