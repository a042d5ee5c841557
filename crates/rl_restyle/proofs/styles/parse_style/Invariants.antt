use Rattle.std.proofs.Common.{length}
use Rattle.rl_restyle.proofs.ValueLemmas.{HasRead}
use Rattle.rl_restyle.proofs.styles.parse_style.Given as goal

abbrev pub invariant-loop-values : goal.invariant-loop-values
invariant-loop-values l = HasRead l.text l.tokens l.values

abbrev pub decreases-loop-values : goal.decreases-loop-values
decreases-loop-values l = length l.tokens.rest
