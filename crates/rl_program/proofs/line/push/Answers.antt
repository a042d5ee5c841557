use Rattle.rl_syntax.proofs.Common.{IsUtf8-string_bytes, rules}
use Rattle.rl_program.proofs.LineLemmas.{pushed}
use Rattle.rl_program.proofs.line.push.Goals as goal

pub returns : goal.returns
returns g c = pushed _ _ _ (IsUtf8-string_bytes c.args.out.now) (search rules)
