use Rattle.rl_files.proofs.PartLemmas.{no_slash_cuts, no_slash_more, slash_cuts}
use Rattle.rl_files.proofs.glob.first_part.Goals as goal

pub returns-then-path-at-eq47 : goal.returns-then-path-at-eq47
returns-then-path-at-eq47 c = slash_cuts c.args.path.now c.loop-at.at c.loop-at-test.true c.loop-at.invariant
    c.if-path-at-eq47.true

pub loop-at-preserved : goal.loop-at-preserved
loop-at-preserved c = no_slash_more c.args.path.now c.loop-at.at c.loop-at-test.true c.loop-at.invariant
    c.if-path-at-eq47.false

pub returns : goal.returns
returns c = no_slash_cuts c.args.path.now c.loop-at.at c.loop-at-test.false c.loop-at.invariant
