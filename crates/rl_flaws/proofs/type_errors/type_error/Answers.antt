use Rattle.rl_syntax.proofs.Common.{refl}
use Rattle.std.specs.Str.{chars}
use Rattle.rl_lenient.specs.Founds.{suffix_in}
use Rattle.rl_flaws.proofs.TypeLemmas.{same_typed}
use Rattle.rl_flaws.proofs.type_errors.type_error.Goals as goal

pub returns-clause-none : goal.returns-clause-none
returns-clause-none c = same_typed c.args.found.now.kind c.args.found.now.kind (chars c.args.text.now)
    c.args.found.now.magnitude c.args.negated c.suffix_in.result.now (suffix_in c.args.text.now c.args.found.now.body)
    c.type_error_of.result refl c.suffix_in.ensures.suffix c.type_error_of.ensures.none
