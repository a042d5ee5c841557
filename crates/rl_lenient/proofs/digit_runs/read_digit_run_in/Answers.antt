use Rattle.rl_syntax.proofs.Common.{Some, true, false, nat_lt, arith, ap, sym, subst, ◌∙◌, drop, ◌+◌, IsCharBoundary}
use Rattle.std.specs.Str.{chars}
use Rattle.rl_lenient.specs.Mirrors.NumberAt.{run_from}
use Rattle.rl_lenient.proofs.DigitRowLemmas.{row_start}
use Rattle.rl_lenient.proofs.RowBytes.{digit_cuts, mark_cuts, row_mark, row_goes, row_stops, row_ends, row_read}
use Rattle.rl_lenient.proofs.digit_runs.read_digit_run_in.Goals.{then-digit-radix, else-digit-radix+else-byte-ne95, else-loop-at-test, then-loop-at-test+else-digit-radix+then-byte-ne95}
use Rattle.rl_lenient.proofs.digit_runs.read_digit_run_in.Goals as goal

pub loop-at-init : goal.loop-at-init
loop-at-init c =
    let f = c.first_digits-first in
    let e = f.result.end in
    let r = c.args.radix in
    record {
      boundary = subst (λ s. IsCharBoundary s e) (sym c.as_bytes-bytes.ensures.value) f.ensures.boundary;
      same = ap (λ s. run_from r (nat_lt 0 e) c.of-tally.result (drop e s)) c.as_bytes-bytes.ensures.value
          ∙ ap (λ m. run_from r (nat_lt 0 e) m (drop e c.args.text.now)) c.of-tally.ensures
          ∙ f.ensures.goes
          ∙ ap (run_from r false (Some 0)) (sym c.as_bytes-bytes.ensures.value);
    }

pub loop-at-preserved : goal.loop-at-preserved
loop-at-preserved c =
    let s = c.as_bytes-bytes.result.now in
    let is = c.as_bytes-bytes.ensures.utf8 in
    let i = c.loop-at.at in
    let r = c.args.radix in
    let l = c.loop-at-test.true in
    let joined = c.if-digit-radix in
    let some = c.loop-at.has_digit in
    elim joined.branch [
      | then-digit-radix w ↦ record {
        boundary = digit_cuts r s i _ is (omega arith) l c.digit_value-digit.ensures w.if-digit-radix.true;
        same = ap (λ b. run_from r b joined.tally (drop (i + 1) s)) w.has_digit-is
            ∙ ap (λ m. run_from r true m (drop (i + 1) s)) w.tally-is
            ∙ row_goes r some c.loop-at.tally _ s i _ (omega arith) l c.digit_value-digit.ensures w.if-digit-radix.true
            w.append_digit-tally.ensures
            ∙ c.loop-at.invariant.same;
      }
      | else-digit-radix+else-byte-ne95 w ↦ record {
        boundary = mark_cuts s i is l w.if-byte-ne95.false;
        same = ap (λ b. run_from r b joined.tally (drop (i + 1) s)) w.has_digit-is
            ∙ ap (λ m. run_from r some m (drop (i + 1) s)) w.tally-is
            ∙ row_mark r some c.loop-at.tally s i l w.if-byte-ne95.false
            ∙ c.loop-at.invariant.same;
      }
    ]

pub returns-clause-value : goal.returns-clause-value
returns-clause-value c =
    let s = c.as_bytes-bytes.result.now in
    let i = c.loop-at.at in
    let r = c.args.radix in
    let some = c.loop-at.has_digit in
    let m = c.loop-at.tally in
    let rest = c.range_from.result.now in
    let read = row_read r some m (Some 0) c.args.text.now s rest i (omega arith) c.utf8.text c.range_from.utf8
    c.as_bytes-bytes.ensures.value c.range_from.ensures.value c.loop-at.invariant.same in
    ap (λ n. (some, n, chars rest)) c.magnitude.ensures
    ∙ elim c.loop-at-test.branch [
      | else-loop-at-test w ↦ read (row_ends r some m s i w.loop-at-test.false)
      | then-loop-at-test+else-digit-radix+then-byte-ne95 w ↦ read
          (row_stops r some m s i _ w.loop-at-test.true w.digit_value-digit.ensures w.if-digit-radix.false
          w.if-byte-ne95.true)
    ]

pub returns-clause-has_digit : goal.returns-clause-has_digit
returns-clause-has_digit c = ap (λ p. p.0) (returns-clause-value c
    ∙ row_start c.args.radix (chars c.args.text.now) (omega arith) (omega arith))

pub returns-clause-magnitude : goal.returns-clause-magnitude
returns-clause-magnitude c = ap (λ p. p.1) (returns-clause-value c
    ∙ row_start c.args.radix (chars c.args.text.now) (omega arith) (omega arith))

pub returns-clause-rest : goal.returns-clause-rest
returns-clause-rest c = ap (λ p. p.2) (returns-clause-value c
    ∙ row_start c.args.radix (chars c.args.text.now) (omega arith) (omega arith))
