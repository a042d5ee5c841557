use Rattle.rl_syntax.proofs.Common.{◌≡◌, Bool, ℕ, Option, List, None, false, nat_lt, refl, arith, ap, sym, subst, ◌∙◌, drop, get_or, ◌+◌, IsCharBoundary}
use Rattle.std.specs.Str.{chars}
use Rattle.rl_syntax.proofs.Rests.{tail_drop}
use Rattle.rl_lenient.specs.Mirrors.NumberAt.{run_from}
use Rattle.rl_lenient.proofs.DigitRowLemmas.{row_skipped}
use Rattle.rl_lenient.proofs.RowBytes.{digit_cuts, mark_cuts, is_digit, no_digit, row_mark, row_goes, row_stops, row_ends, row_read}
use Rattle.rl_lenient.proofs.digit_runs.skip_digits.Goals.{then-is_ascii_digit, else-is_ascii_digit+else-byte-ne95, else-loop-at-test, then-loop-at-test+else-is_ascii_digit+then-byte-ne95}
use Rattle.rl_lenient.proofs.digit_runs.skip_digits.Goals as goal

pub loop-at-init : goal.loop-at-init
loop-at-init c =
    let n = c.digits_len-at.result in
    record {
      boundary = subst (λ s. IsCharBoundary s n) (sym c.as_bytes-bytes.ensures.value) c.digits_len-at.ensures.boundary;
      same = ap (λ s. run_from 10 (nat_lt 0 n) None (drop n s)) c.as_bytes-bytes.ensures.value
          ∙ c.digits_len-at.ensures.goes
          ∙ ap (run_from 10 false None) (sym c.as_bytes-bytes.ensures.value);
    }

pub loop-at-preserved : goal.loop-at-preserved
loop-at-preserved c =
    let s = c.as_bytes-bytes.result.now in
    let is = c.as_bytes-bytes.ensures.utf8 in
    let i = c.loop-at.at in
    let l = c.loop-at-test.true in
    let some = c.loop-at.has_digit in
    elim c.if-is_ascii_digit.branch [
      | then-is_ascii_digit w ↦
          let below = is_digit (get_or s i 0) (sym c.is_ascii_digit.ensures.value ∙ w.if-is_ascii_digit.true) in
          record {
            boundary = digit_cuts 10 s i _ is (omega arith) l refl below;
            same = ap (λ b. run_from 10 b None (drop (i + 1) s)) w.has_digit-is
                ∙ row_goes 10 some None None s i _ (omega arith) l refl below refl
                ∙ c.loop-at.invariant.same;
          }
      | else-is_ascii_digit+else-byte-ne95 w ↦ record {
        boundary = mark_cuts s i is l w.if-byte-ne95.false;
        same = ap (λ b. run_from 10 b None (drop (i + 1) s)) w.has_digit-is
            ∙ row_mark 10 some None s i l w.if-byte-ne95.false
            ∙ c.loop-at.invariant.same;
      }
    ]

pub returns : goal.returns
returns c =
    let s = c.as_bytes-bytes.result.now in
    let i = c.loop-at.at in
    let some = c.loop-at.has_digit in
    let t = c.args.text.now in
    let rest = c.range_from.result.now in
    let read = row_read 10 some None None t s rest i (omega arith) c.utf8.text c.range_from.utf8
    c.as_bytes-bytes.ensures.value c.range_from.ensures.value c.loop-at.invariant.same in
    let value : ◌≡◌ {A = Bool × Option ℕ × List ℕ} (some, None, chars rest) (run_from 10 false None (chars t)) =
    elim c.loop-at-test.branch [
      | else-loop-at-test w ↦ read (row_ends 10 some None s i w.loop-at-test.false)
      | then-loop-at-test+else-is_ascii_digit+then-byte-ne95 w ↦ read
          (row_stops 10 some None s i _ w.loop-at-test.true refl (no_digit (get_or s i 0)
          (sym w.is_ascii_digit.ensures.value ∙ w.if-is_ascii_digit.false)) w.if-byte-ne95.true)
    ] in
    let passed = value ∙ row_skipped 10 (chars t) (omega arith) (omega arith) in
    record {
      has_digit = ap (λ p. p.0) passed;
      rest = ap (λ p. p.2) passed;
      following = tail_drop t rest i c.range_from.ensures.value c.range_from.utf8;
    }
