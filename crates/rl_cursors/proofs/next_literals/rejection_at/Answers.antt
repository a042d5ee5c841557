use Rattle.rl_cursors.proofs.NextLiteralLemmas.{nothing_else}
use Rattle.rl_cursors.proofs.next_literals.rejection_at.Goals as goal

pub unreachable-requires : goal.unreachable-requires
unreachable-requires c = nothing_else c.args.tokens.now c.fork.result c.requires c.fork.ensures c.in-None.ensures.none
    c.in_default.ensures.none
