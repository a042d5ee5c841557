use Rattle.rl_syntax.proofs.Common.{[], ◌∷◌, ◌++◌, ◌∙◌, arith, append_assoc, sym, ap, rules}
use Rattle.rl_flaws.proofs.FloatLemmas.{digit_small, more_capped, same_capped}
use Rattle.rl_flaws.proofs.float_range.capped_value.Goals as goal

pub loop-digit-preserved-then-value-lt-HUGE : goal.loop-digit-preserved-then-value-lt-HUGE
loop-digit-preserved-then-value-lt-HUGE c =
    let (front, cut, capped) = c.loop-digit.invariant.passed in
    let some = c.in-Some.ensures.some in
    let digit = c.in-Some.digit in
    record {
      utf8 = search rules;
      passed = (
        front ++ (digit ∷ []),
        cut ∙ ap (λ z. front ++ z) some.1 ∙ sym (append_assoc front (digit ∷ []) _),
        more_capped front digit c.loop-digit.value c.from.result some.0 (omega (arith, c.from.ensures))
            c.if-value-lt-HUGE.true capped,
      );
      fits = omega (arith, c.if-value-lt-HUGE.true, c.from.ensures, digit_small digit some.0);
    }

pub loop-digit-preserved : goal.loop-digit-preserved
loop-digit-preserved c =
    let (front, cut, capped) = c.loop-digit.invariant.passed in
    let some = c.in-Some.ensures.some in
    let digit = c.in-Some.digit in
    record {
      utf8 = search rules;
      passed = (
        front ++ (digit ∷ []),
        cut ∙ ap (λ z. front ++ z) some.1 ∙ sym (append_assoc front (digit ∷ []) _),
        same_capped front digit c.loop-digit.value (omega (arith, c.if-value-lt-HUGE.false)) capped,
      );
      fits = c.loop-digit.invariant.fits;
    }
