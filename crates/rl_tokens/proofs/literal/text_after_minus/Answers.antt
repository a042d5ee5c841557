use Rattle.rl_syntax.proofs.Common.{rules}
use Rattle.rl_tokens.proofs.literal.text_after_minus.Goals as goal

pub returns : goal.returns
returns g c = search rules steps 300000
