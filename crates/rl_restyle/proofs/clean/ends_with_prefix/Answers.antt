use Rattle.rl_syntax.proofs.Common.{ap, arith, length, ◌∙◌}
use Rattle.rl_restyle.specs.Clean.{ends_with_prefix}
use Rattle.rl_restyle.proofs.CleanLemmas.{empty_front}
use Rattle.rl_restyle.proofs.clean.ends_with_prefix.Goals as goal

pub returns-in-empty : goal.returns-in-empty
returns-in-empty c = empty_front c.args.front.now
    (let e = ap length c.as_bytes.ensures.value in omega (arith, e, c.in-empty.len_below))

pub returns-in-len1-up : goal.returns-in-len1-up
returns-in-len1-up c = c.may_be_prefix.ensures ∙ ap ends_with_prefix c.as_bytes.ensures.value
