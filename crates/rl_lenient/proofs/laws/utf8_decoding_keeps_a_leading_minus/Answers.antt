use Rattle.rl_lenient.proofs.Theorems.{utf8_decoding_keeps_a_leading_minus}
use Rattle.rl_lenient.proofs.laws.utf8_decoding_keeps_a_leading_minus.Goals as goal

pub returns : goal.returns
returns c = utf8_decoding_keeps_a_leading_minus
