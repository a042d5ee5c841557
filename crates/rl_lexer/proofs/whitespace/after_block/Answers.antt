-- The cases of an iteration of the loop that searches for the end of a block comment: the loop is at a closing
-- delimiter, an opening delimiter, another `*` or `/`, or other bytes.
use Rattle.rl_syntax.proofs.Common.{arith, ◌+◌, ◌≡◌, [], Some, get_or, sym, ◌∙◌, ap, drop, IsCharBoundary-after_ascii}
use Rattle.std.proofs.Math.ListN.{drop_of_length-le}
use Rattle.rl_lexer.specs.Mirrors.SkippedAt.{after_block}
use Rattle.rl_syntax.proofs.Rests.{tail_drop}
use Rattle.rl_lexer.proofs.CommentBytes.{block_of_bytes, no_block_of_bytes}
use Rattle.rl_lexer.proofs.Comments.{closed}
use Rattle.rl_lexer.proofs.CommentSteps.{block_closes, block_opens, block_goes, block_runs, run_inside, closed-down, next_inside}
use Rattle.rl_lexer.proofs.whitespace.after_block.Goals as goal

pub range_from-requires : goal.range_from-requires
range_from-requires c = λ _.
    let s = c.args.text.now in
    let e : get_or s (c.loop-at.at + 1) 0 ≡ 47 = cc in
    IsCharBoundary-after_ascii s (c.loop-at.at + 1) c.utf8.text (next_inside s (c.loop-at.at + 1) 47 e (omega arith))
    (omega arith)

pub loop-at-preserved-then-byte_at-eq47 : goal.loop-at-preserved-then-byte_at-eq47
loop-at-preserved-then-byte_at-eq47 c =
    let s = c.as_bytes-bytes.result.now in
    let e : get_or s (c.loop-at.at + 1) 0 ≡ 47 = cc in
    let inside = next_inside s (c.loop-at.at + 1) 47 e (omega arith) in
    record {
      within = omega arith;
      shallow = omega arith;
      same = sym (closed-down c.loop-at.depth (drop (c.loop-at.at + 1 + 1) s) (omega arith))
          ∙ sym (block_closes s c.loop-at.at c.loop-at.depth c.loop-at-test.true c.if-byte-eq42.true e)
          ∙ c.loop-at.invariant.same;
    }

pub loop-at-preserved-else-byte_at-eq47 : goal.loop-at-preserved-else-byte_at-eq47
loop-at-preserved-else-byte_at-eq47 c =
    let s = c.as_bytes-bytes.result.now in
    record {
      within = omega arith;
      shallow = omega arith;
      same = sym (block_goes s c.loop-at.at c.loop-at.depth c.loop-at-test.true
          (λ p q. c.if-byte_at-eq47.false (c.byte_at.ensures ∙ q)) (λ p q. omega (arith, sym c.if-byte-eq42.true ∙ p)))
          ∙ c.loop-at.invariant.same;
    }

pub loop-at-preserved-then-byte_at-eq42 : goal.loop-at-preserved-then-byte_at-eq42
loop-at-preserved-then-byte_at-eq42 c =
    let s = c.as_bytes-bytes.result.now in
    let e : get_or s (c.loop-at.at + 1) 0 ≡ 42 = cc in
    let inside = next_inside s (c.loop-at.at + 1) 42 e (omega arith) in
    record {
      within = omega arith;
      shallow = omega arith;
      same = sym (block_opens s c.loop-at.at c.loop-at.depth c.loop-at-test.true c.if-byte-eq47.true e)
          ∙ c.loop-at.invariant.same;
    }

pub loop-at-preserved-else-byte_at-eq42 : goal.loop-at-preserved-else-byte_at-eq42
loop-at-preserved-else-byte_at-eq42 c =
    let s = c.as_bytes-bytes.result.now in
    record {
      within = omega arith;
      shallow = omega arith;
      same = sym (block_goes s c.loop-at.at c.loop-at.depth c.loop-at-test.true (λ p q. c.if-byte-eq42.false p)
          (λ p q. c.if-byte_at-eq42.false (c.byte_at-then-byte-eq47.ensures ∙ q))) ∙ c.loop-at.invariant.same;
    }

pub overflow_add-at-else-byte-eq47 : goal.overflow_add-at-else-byte-eq47
overflow_add-at-else-byte-eq47 c =
    let inside = run_inside _ c.as_bytes-bytes.result.now (c.loop-at.at + 1) c.len_before_near_mark-at.result
    c.len_before_near_mark-at.ensures (omega arith) in
    omega (arith, inside)

pub loop-at-preserved : goal.loop-at-preserved
loop-at-preserved c =
    let s = c.as_bytes-bytes.result.now in
    let inside = run_inside _ s (c.loop-at.at + 1) c.len_before_near_mark-at.result c.len_before_near_mark-at.ensures
    (omega arith) in
    record {
      within = inside;
      shallow = omega arith;
      same =
          block_runs _ s (c.loop-at.at + 1) c.loop-at.depth c.len_before_near_mark-at.result c.from_two_bytes.ensures
          c.len_before_near_mark-at.ensures
          ∙ sym (block_goes s c.loop-at.at c.loop-at.depth c.loop-at-test.true (λ p q. c.if-byte-eq42.false p)
          (λ p q. c.if-byte-eq47.false p)) ∙ c.loop-at.invariant.same;
    }

pub returns-then-depth-eq0-clause-rest : goal.returns-then-depth-eq0-clause-rest
returns-then-depth-eq0-clause-rest c =
    let s = c.as_bytes-bytes.result.now in
    let e : get_or s (c.loop-at.at + 1) 0 ≡ 47 = cc in
    let stops : after_block c.loop-at.depth (drop c.loop-at.at s)
    ≡ closed c.loop-at.depth (drop (c.loop-at.at + 1 + 1) s) =
    block_closes s c.loop-at.at c.loop-at.depth c.loop-at-test.true c.if-byte-eq42.true e in
    let at_zero : closed c.loop-at.depth (drop (c.loop-at.at + 1 + 1) s)
    ≡ Some (drop (c.loop-at.at + 1 + 1) s) = ap (λ d. closed d (drop (c.loop-at.at + 1 + 1) s)) c.if-depth-eq0.true
    in
    let cut : drop (c.loop-at.at + 1 + 1) s ≡ c.range_from.result.now = ap (drop (c.loop-at.at + 1 + 1))
    c.as_bytes-bytes.ensures.value ∙ sym c.range_from.ensures.value in
    let found : after_block 0 c.args.text.now ≡ Some c.range_from.result.now =
    ap (after_block 0) (sym c.as_bytes-bytes.ensures.value) ∙ sym c.loop-at.invariant.same ∙ stops ∙ at_zero
    ∙ ap Some cut in
    block_of_bytes c.args.text.now c.range_from.result.now c.utf8.text c.range_from.utf8 found

pub returns-then-depth-eq0-clause-following : goal.returns-then-depth-eq0-clause-following
returns-then-depth-eq0-clause-following c =
    tail_drop c.args.text.now c.range_from.result.now (c.loop-at.at + 1 + 1) c.range_from.ensures.value
    c.range_from.utf8

pub returns-clause-rest : goal.returns-clause-rest
returns-clause-rest c =
    let s = c.as_bytes-bytes.result.now in
    let at_end : drop c.loop-at.at s ≡ [] = drop_of_length-le s {i = c.loop-at.at} (omega arith) in
    no_block_of_bytes c.args.text.now c.utf8.text (ap (after_block 0) (sym c.as_bytes-bytes.ensures.value)
    ∙ sym c.loop-at.invariant.same ∙ ap (after_block c.loop-at.depth) at_end)
