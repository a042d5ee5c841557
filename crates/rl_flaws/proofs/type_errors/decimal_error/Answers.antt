use Rattle.rl_syntax.proofs.Common.{inr, refl}
use Rattle.std.specs.Str.{chars}
use Rattle.rl_flaws.proofs.TypeLemmas.{cut_numeral, finite_float, infinite_float}
use Rattle.rl_flaws.proofs.type_errors.decimal_error.Goals as goal

pub returns-then-is_infinite-clause-some : goal.returns-then-is_infinite-clause-some
returns-then-is_infinite-clause-some c = inr (
  refl,
  infinite_float c.args.ty (chars c.args.text.now)
      (chars c.args.numeral.now) c.args.suffix.now c.requires.typed (cut_numeral c.args.text.now c.args.numeral.now
      c.args.suffix.now c.args.ty c.requires.cut c.utf8.numeral c.requires.typed) (c.is_infinite.ensures.yes
      c.if-is_infinite.true),
)

pub returns-clause-none : goal.returns-clause-none
returns-clause-none c = inr (inr (
  c.args.ty,
  inr (
    refl,
    c.requires.typed,
    finite_float c.args.ty c.args.negated
        (chars c.args.text.now) (chars c.args.numeral.now) c.args.suffix.now c.requires.float
        (cut_numeral c.args.text.now c.args.numeral.now c.args.suffix.now c.args.ty c.requires.cut c.utf8.numeral
        c.requires.typed) (c.is_infinite.ensures.no c.if-is_infinite.false),
  ),
))
