use Rattle.rl_lenient.proofs.FoundContents.{found_kind}
use Rattle.rl_lenient.proofs.found.parse_known_literal.Goals as goal

pub unreachable-requires : goal.unreachable-requires
unreachable-requires c = let (kind, (v, x, r)) = c.requires in c.in-None.ensures.none kind v x r

pub returns-clause-kind : goal.returns-clause-kind
returns-clause-kind c = λ kind r. found_kind kind c.args.text.now c.in-Some.found r c.in-Some.ensures.found
