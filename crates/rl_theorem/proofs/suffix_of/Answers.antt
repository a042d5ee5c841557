use Rattle.std.specs.Str.{chars}
use Rattle.rl_theorem.proofs.HeadlineLemmas.{lit_suffix}
use Rattle.rl_theorem.proofs.suffix_of.Goals as goal

pub returns : goal.returns
returns g c = λ r h. lit_suffix c.args.literal.now (chars c.suffix.result.now) r c.suffix.ensures h
