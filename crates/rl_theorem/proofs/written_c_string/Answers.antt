use Rattle.std.proofs.lemmas.Result.{IfOk-weaker}
use Rattle.std.specs.Str.{chars}
use Rattle.rl_syntax.specs.declared.kind.Kind.TheVariants.{CStr}
use Rattle.rl_theorem.proofs.HeadlineLemmas.{writes}
use Rattle.rl_theorem.proofs.written_c_string.Goals as goal

pub returns-clause-written : goal.returns-clause-written
returns-clause-written g c = IfOk-weaker c.new.result _ _ (λ l h. writes CStr c.args.value.now (chars l.text) h) c.new.ensures.text
