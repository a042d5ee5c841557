use Rattle.std.proofs.Common.{[], ◌∷◌}
use Rattle.std.proofs.lemmas.Result.{IfOk-weaker}
use Rattle.std.specs.Str.{chars}
use Rattle.rl_syntax.specs.declared.kind.Kind.TheVariants.{Byte}
use Rattle.rl_theorem.proofs.HeadlineLemmas.{writes}
use Rattle.rl_theorem.proofs.written_byte.Goals as goal

pub returns-clause-written : goal.returns-clause-written
returns-clause-written g c = IfOk-weaker c.new.result _ _ (λ l h. writes Byte (c.args.value ∷ []) (chars l.text) h) c.new.ensures.text
