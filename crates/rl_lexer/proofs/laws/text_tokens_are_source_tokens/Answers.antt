use Rattle.rl_lexer.proofs.Theorems.{holds_lexemes}
use Rattle.rl_lexer.proofs.laws.text_tokens_are_source_tokens.Goals as goal

pub returns : goal.returns
returns c = holds_lexemes
