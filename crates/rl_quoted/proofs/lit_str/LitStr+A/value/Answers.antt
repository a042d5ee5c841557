use Rattle.rl_syntax.proofs.Common.{arith, common_steps}
use Rattle.rl_quoted.proofs.lit_str.LitStr+A.value.Goals as goal

pub str_of_body-requires : goal.str_of_body-requires
str_of_body-requires g c = let body = c.body-plain.ensures in (_, body.stands)

pub returns-in-Ok-clause-value : goal.returns-in-Ok-clause-value
returns-in-Ok-clause-value g c = let body = c.body-plain.ensures in c.in-Ok.ensures.value _ body.stands

pub returns-clause-memory : goal.returns-clause-memory
returns-clause-memory g c = grind (arith, common_steps) steps 400000
