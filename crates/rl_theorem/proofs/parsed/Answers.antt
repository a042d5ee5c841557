use Rattle.std.proofs.lemmas.Result.{IfOk-weaker}
use Rattle.rl_theorem.proofs.HeadlineLemmas.{parsed_is}
use Rattle.rl_theorem.proofs.parsed.Goals as goal

pub returns-clause-parsed : goal.returns-clause-parsed
returns-clause-parsed g c = IfOk-weaker c.new.result _ _ (λ lit h. parsed_is c.args.token lit h) c.new.ensures.reads
