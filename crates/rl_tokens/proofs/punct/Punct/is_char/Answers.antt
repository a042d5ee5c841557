use Rattle.rl_syntax.proofs.Common.{rules}
use Rattle.rl_tokens.proofs.punct.Punct.is_char.Goals as goal

pub returns-in-126 : goal.returns-in-126
returns-in-126 c = search rules steps 300000
