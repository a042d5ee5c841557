use Rattle.rl_tokens.proofs.Theorems.{printed_literals_lex_to_their_trees}
use Rattle.rl_tokens.proofs.laws.printed_literals_lex_to_their_trees.Goals as goal

pub returns : goal.returns
returns c = printed_literals_lex_to_their_trees
