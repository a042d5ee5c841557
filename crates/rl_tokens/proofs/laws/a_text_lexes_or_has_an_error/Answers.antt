use Rattle.rl_tokens.proofs.Theorems.{a_text_lexes_or_has_an_error}
use Rattle.rl_tokens.proofs.laws.a_text_lexes_or_has_an_error.Goals as goal

pub returns : goal.returns
returns c = a_text_lexes_or_has_an_error
