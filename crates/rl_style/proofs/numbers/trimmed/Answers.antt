use Rattle.rl_syntax.proofs.Common.{◌≡◌, ◌∙◌, ◌∷◌, [], ◌++◌, ◌==◌, List, ℕ, refl, ap, sym, append_assoc, append-nil, append_cancel_right, rules, ne_eqb}
use Rattle.std.specs.Str.{chars}
use Rattle.rl_style.specs.Cases.{trimmed}
use Rattle.rl_style.proofs.Trimmed.{other_trims, trimmed_end, under_only}
use Rattle.rl_style.proofs.UnitTexts.{tail_of}
use Rattle.rl_style.proofs.numbers.trimmed.Goals as goal

pub loop-c-init : goal.loop-c-init
loop-c-init c = record { utf8 = search rules; tail = search rules; passed = ([], [], refl, refl, refl, refl) }

pub loop-c-preserved-then-c-ne95 : goal.loop-c-preserved-then-c-ne95
loop-c-preserved-then-c-ne95 c =
    let (front, under, cut, between, only, trims) = c.loop-c.invariant.passed in
    let first = c.in-Some.c in
    let rest : List ℕ = chars c.in-Some.after.now in
    let whole : chars c.args.text.now ≡ ((front ++ under) ++ (first ∷ [])) ++ rest = cut
    ∙ ap (λ z. front ++ z) (between ∙ ap (λ z. under ++ z) c.in-Some.ensures.chars)
    ∙ sym (append_assoc front under (first ∷ rest)) ∙ sym (append_assoc (front ++ under) (first ∷ []) rest) in
    record {
      utf8 = search rules;
      tail = search rules;
      passed = (
        (front ++ under) ++ (first ∷ []),
        [],
        whole,
        refl,
        refl,
        other_trims (front ++ under) first (ne_eqb _ 95 c.if-c-ne95.true),
      );
    }

pub loop-c-preserved : goal.loop-c-preserved
loop-c-preserved c =
    let (front, under, cut, between, only, trims) = c.loop-c.invariant.passed in
    let first = c.in-Some.c in
    let rest : List ℕ = chars c.in-Some.after.now in
    record {
      utf8 = search rules;
      tail = search rules;
      passed = (
        front,
        under ++ (first ∷ []),
        cut,
        between ∙ ap (λ z. under ++ z) c.in-Some.ensures.chars ∙ sym (append_assoc under (first ∷ []) rest),
        under_only under first only (ap (λ z. z == 95) c.if-c-ne95.false),
        trims,
      );
    }

pub before-requires : goal.before-requires
before-requires c =
    let (front, under, cut, between, only, trims) = c.loop-c.invariant.passed in
    tail_of c.args.text.now c.loop-c.tail.now front (search rules) (search rules) cut

pub returns-clause-kept : goal.returns-clause-kept
returns-clause-kept c =
    let (front, under, cut, between, only, trims) = c.loop-c.invariant.passed in
    let tail : List ℕ = chars c.loop-c.tail.now in
    let is : chars c.before-2.result.now ≡ front = append_cancel_right (chars c.before-2.result.now) front tail
    (sym c.before-2.ensures.chars ∙ cut) in
    let left : tail ≡ under = between ∙ ap (λ z. under ++ z) c.in_default.ensures.chars ∙ append-nil under in
    is ∙ sym (ap trimmed (cut ∙ ap (λ z. front ++ z) left) ∙ trimmed_end front under trims only)
