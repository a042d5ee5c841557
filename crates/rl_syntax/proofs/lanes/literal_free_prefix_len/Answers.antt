use Rattle.rl_syntax.proofs.Common.{arith}
use Rattle.rl_syntax.proofs.UnlikelyPlaces.{first_place, none_among}
use Rattle.rl_syntax.proofs.lanes.literal_free_prefix_len.Goals as goal

pub returns-then-found-ne0 : goal.returns-then-found-ne0
returns-then-found-ne0 c =
    let i = c.loop-at.invariant in
    let place = first_place c.args.bytes.now c.loop-at.at c.likely_among-found.result i.front (omega arith)
    c.likely_among-found.ensures c.if-found-ne0.true in
    omega (arith, place)

pub loop-at-preserved : goal.loop-at-preserved
loop-at-preserved c =
    let i = c.loop-at.invariant in
    record {
      front = none_among c.args.bytes.now c.loop-at.at c.likely_among-found.result i.front (omega arith)
          c.likely_among-found.ensures c.if-found-ne0.false;
      in_range = omega arith;
      past_first = omega arith;
    }
