-- Each iteration of the loop shortens the remaining lines.
use Rattle.std.proofs.Common.{arith}
use Rattle.rl_syntax.proofs.Rests.{tail_length}
use Rattle.rl_uses.proofs.examples.tokens.literal_and_error_offsets.Goals as goal

pub loop-literal-preserved : goal.loop-literal-preserved
loop-literal-preserved c = record {
  utf8 = c.in-Some-following_lines.ensures.following.is_text;
  end = omega (
    arith,
    c.in-Some-following_lines.ensures.shorter,
    tail_length _ _ c.in_default.ensures.passed.following,
    c.loop-literal-2.invariant.rest,
    tail_length _ _ c.new-tokens.ensures.following.following,
    c.loop-literal.invariant.end,
  );
}
