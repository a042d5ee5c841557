use Rattle.rl_syntax.proofs.Common.{◌≡◌, ◌<◌, None, true, nat_lt, arith, ap, sym, refl, ◌∙◌, drop, get_or, ◌+◌, nat_tests, IsCharBoundary-start, digit_value}
use Rattle.rl_lenient.specs.Mirrors.NumberAt.{run_from}
use Rattle.rl_lenient.proofs.RowBytes.{digit_cuts, is_digit, row_goes}
use Rattle.rl_lenient.proofs.digit_runs.digits_len.Goals as goal

pub loop-len-init : goal.loop-len-init
loop-len-init c = record {
  boundary = IsCharBoundary-start c.as_bytes-bytes.result.now c.as_bytes-bytes.ensures.utf8;
  same = refl;
}

pub loop-len-preserved : goal.loop-len-preserved
loop-len-preserved c =
    let s = c.as_bytes-bytes.result.now in
    let i = c.loop-len.len in
    let l = c.loop-len-test.true in
    let some : nat_lt 0 (i + 1) ≡ true = grind (arith, nat_tests) in
    let below : digit_value (get_or s i 0) < 10 = is_digit (get_or s i 0)
    (sym c.is_ascii_digit.ensures.value ∙ c.if-is_ascii_digit.true) in
    record {
      boundary = digit_cuts 10 s i _ c.as_bytes-bytes.ensures.utf8 (omega arith) l refl below;
      same = ap (λ b. run_from 10 b None (drop (i + 1) s)) some
          ∙ row_goes 10 (nat_lt 0 i) None None s i _ (omega arith) l refl below refl
          ∙ c.loop-len.invariant.same;
    }
