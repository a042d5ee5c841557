use Rattle.rl_strict.proofs.ReadLemmas.{token_where}
use Rattle.rl_grammar.proofs.strict.is_token.Goals as goal

pub returns : goal.returns
returns c = token_where _ c.read.result c.is_ok.result c.read.ensures.token c.read.ensures.flaw c.is_ok.ensures.value
