use Rattle.rl_syntax.proofs.Common.{common_steps, ◌≡◌, ◌<◌, ◌*◌, Some, true, nat_lt, arith, ap, sym, subst, refl, ◌∙◌, drop, ◌+◌, nat_tests, IsCharBoundary-start}
use Rattle.rl_lenient.specs.Mirrors.NumberAt.{run_from}
use Rattle.rl_lenient.proofs.RowBytes.{digit_cuts, row_goes}
use Rattle.rl_lenient.proofs.TallyLemmas.{stays_small, append_small}
use Rattle.rl_lenient.proofs.digit_runs.first_digits.Goals as goal

pub loop-end-init : goal.loop-end-init
loop-end-init c = record {
  boundary = IsCharBoundary-start c.as_bytes-bytes.result.now c.as_bytes-bytes.ensures.utf8;
  same = refl;
  small = omega arith;
}

pub loop-end-preserved : goal.loop-end-preserved
loop-end-preserved c =
    let s = c.as_bytes-bytes.result.now in
    let i = c.loop-end.end in
    let r = c.args.radix in
    let v = c.loop-end.spelled in
    let d = c.digit_value-digit.result in
    let l = c.loop-end-test.true in
    let below : d < r = c.if-digit-radix.false in
    let some : nat_lt 0 (i + 1) ≡ true = grind (arith, nat_tests) in
    let next : v * c.from.result + c.from-in-loop-end.result ≡ v * r + d = ap (λ n. v * n + c.from-in-loop-end.result)
    c.from.ensures ∙ ap (λ n. v * r + n) c.from-in-loop-end.ensures in
    let small : v * r + d < 18446744073709551615 = stays_small v r d c.if-spelled-lt-MAY_GROW.true (omega arith) below
    in
    record {
      boundary = digit_cuts r s i d c.as_bytes-bytes.ensures.utf8 (omega arith) l c.digit_value-digit.ensures below;
      same = ap (λ b. run_from r b (Some (v * c.from.result + c.from-in-loop-end.result)) (drop (i + 1) s)) some
          ∙ row_goes r (nat_lt 0 i) (Some v) (Some (v * c.from.result + c.from-in-loop-end.result)) s i d (omega arith)
          l c.digit_value-digit.ensures below (ap Some next ∙ append_small v r d small)
          ∙ c.loop-end.invariant.same;
      small = subst (λ n. n < 18446744073709551615) (sym next) small;
    }

pub overflow_mul-spelled : goal.overflow_mul-spelled
overflow_mul-spelled c = grind (arith, common_steps) steps 200000

pub overflow_add-spelled : goal.overflow_add-spelled
overflow_add-spelled c = grind (arith, common_steps) steps 200000

pub returns-else-spelled-lt-MAY_GROW-clause-boundary : goal.returns-else-spelled-lt-MAY_GROW-clause-boundary
returns-else-spelled-lt-MAY_GROW-clause-boundary c = grind (arith, common_steps) steps 200000

pub returns-then-digit-radix-clause-boundary : goal.returns-then-digit-radix-clause-boundary
returns-then-digit-radix-clause-boundary c = grind (arith, common_steps) steps 200000
