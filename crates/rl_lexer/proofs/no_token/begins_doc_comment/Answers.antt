use Rattle.rl_syntax.proofs.Common.{arith, common_steps}
use Rattle.rl_lexer.proofs.no_token.begins_doc_comment.Goals as goal

pub returns-then-not-begins-2 : goal.returns-then-not-begins-2
returns-then-not-begins-2 c = grind (arith, common_steps)

pub returns-else-not-begins-2 : goal.returns-else-not-begins-2
returns-else-not-begins-2 c = grind (arith, common_steps)
