use Rattle.std.proofs.Common.{◌≡◌, arith, subst}
use Rattle.std.specs.Prelude.{IfNone, IfSome}
use Rattle.std.specs.Str.{chars}
use Rattle.rl_syntax.specs.declared.kind.Kind.TheVariants.{Int}
use Rattle.rl_syntax.specs.Numbers.{NoSign}
use Rattle.rl_syntax.specs.Reading.{IsPast}
use Rattle.rl_lenient.specs.declared.found.Found.{Found}
use Rattle.rl_lenient.specs.Founds.{IsFound}
use Rattle.rl_attributes.proofs.TextLemmas.{none_if}
use Rattle.rl_attributes.proofs.values.unsigned_value.Goals as goal

pub returns-in_err-parse_int_literal-clause-none : goal.returns-in_err-parse_int_literal-clause-none
returns-in_err-parse_int_literal-clause-none c =
    none_if c.from_residual.result _ (λ n h. c.in_err-parse_int_literal.ensures.none NoSign n h.suffix h.reads)

pub returns-in_err-found-clause-none : goal.returns-in_err-found-clause-none
returns-in_err-found-clause-none c =
    none_if c.from_residual-in_err-found.result _ (λ n h.
    let p : IsPast (chars c.args.text.now) =
    subst (λ o. IfNone o (IsPast (chars c.args.text.now))) c.in_err-found.was c.in_ok-parse_int_literal.ensures.past in
    let same = c.parse_int_literal.ensures.once p.suffix h.suffix p.sign NoSign p.magnitude n p.reads h.reads in
    absurd (omega (arith, p.past, h.small, c.ranges.most.fits, same.1)))

pub returns-then-found-most-clause-none : goal.returns-then-found-most-clause-none
returns-then-found-most-clause-none c n h =
    let found : IsFound c.args.text.now c.in_ok-found.found =
    subst (λ o. IfSome o (IsFound c.args.text.now)) c.in_ok-found.was c.in_ok-parse_int_literal.ensures.found in
    let kind : c.in_ok-found.found.kind ≡ Int =
    subst (λ o. IfSome o (λ (f : Found). f.kind ≡ Int)) c.in_ok-found.was c.in_ok-parse_int_literal.ensures.kind in
    let m = found.integer kind in
    let same = c.parse_int_literal.ensures.once _ h.suffix m.sign NoSign c.in_ok-found.found.magnitude n m.reads h.reads in
    absurd (omega (arith, h.small, c.if-found-most.true, same.1))
