use Rattle.rl_syntax.proofs.Common.{both_ways, refl, sym}
use Rattle.std.specs.Str.{chars}
use Rattle.rl_lenient.proofs.Names.{Float}
use Rattle.rl_flaws.proofs.TypeLemmas.{float_typed, same_typed}
use Rattle.rl_flaws.proofs.type_errors.type_error_of.Goals as goal
use Rattle.rl_flaws.proofs.type_errors.type_error_of.Goals.{in-Float, in_default}

pub returns-then-matches-clause-none : goal.returns-then-matches-clause-none
returns-then-matches-clause-none c = elim c.match-matches.branch [
  | in-Float w ↦ same_typed Float c.args.kind (chars c.args.text.now) c.args.magnitude
      c.args.negated c.args.suffix.now c.args.suffix.now
      c.float_error.result (sym w.in-Float.is) refl
      (float_typed (chars c.args.text.now) c.args.magnitude c.args.negated c.args.suffix.now
      c.float_error.result c.float_error.ensures.none)
  | in_default w ↦ absurd (both_ways c.match-matches.matches w.matches-is c.if-matches.true)
]
