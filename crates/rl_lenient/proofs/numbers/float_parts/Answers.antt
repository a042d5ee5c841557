use Rattle.rl_syntax.proofs.Common.{ap, ◌∙◌, chars, both_ways}
use Rattle.rl_syntax.proofs.TailLemmas.{if_none}
use Rattle.rl_syntax.specs.declared.kind.Kind.TheVariants.{Float}
use Rattle.rl_lenient.specs.PartMirrors.PartsAt.{fraction_at}
use Rattle.rl_lenient.proofs.PartLemmas.{float_is, found_float, reads_as_none, reads_as_other}
use Rattle.rl_lenient.proofs.numbers.float_parts.Goals as goal
use Rattle.rl_lenient.proofs.numbers.float_parts.Goals.{in-Float, in_default}

pub returns-in_err-found-clause-none : goal.returns-in_err-found-clause-none
returns-in_err-found-clause-none c = if_none _
    (reads_as_none (chars c.args.text.now) Float c.in_err-found.ensures.none)

pub returns-then-not-matches-clause-none : goal.returns-then-not-matches-clause-none
returns-then-not-matches-clause-none c = elim c.match-matches.branch [
  | in-Float w ↦ absurd (both_ways c.match-matches.matches c.if-not-matches.true w.matches-is)
  | in_default w ↦
      reads_as_other (chars c.args.text.now) _ c.in_ok-found.found.kind Float c.in_ok-found.ensures.found.reads
      w.in_default.not-Float
]

pub returns-clause-parts : goal.returns-clause-parts
returns-clause-parts c = elim c.match-matches.branch [
  | in-Float w ↦
      float_is (chars c.args.text.now) (chars c.before-numeral.result.now) (chars c.suffix_in.result.now) _ _ _
      (found_float (chars c.args.text.now) (chars c.suffix_in.result.now) c.in_ok-found.found.kind w.in-Float.is
      (c.suffix_in.ensures.reads c.in_ok-found.ensures.found)) c.before-numeral.ensures.chars (record {
        unsigned = chars c.after_minus.result.now;
        unsigned_is = c.after_minus.ensures.value;
        whole_is = c.split_digits.ensures.run;
        power = chars c.split_fraction.result.1.now;
        fraction_is = c.split_fraction.ensures ∙ ap fraction_at c.split_digits.ensures.rest;
        exponent_is = c.after_letter.ensures;
      })
  | in_default w ↦ absurd (both_ways c.match-matches.matches w.matches-is c.if-not-matches.false)
]
