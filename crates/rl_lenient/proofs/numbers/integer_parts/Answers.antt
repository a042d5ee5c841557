use Rattle.rl_syntax.proofs.Common.{ap, ◌∙◌, chars, both_ways}
use Rattle.rl_syntax.proofs.TailLemmas.{if_none}
use Rattle.rl_syntax.specs.declared.kind.Kind.TheVariants.{Int}
use Rattle.rl_lenient.specs.Mirrors.NumberAt.{radix_at}
use Rattle.rl_lenient.proofs.PartLemmas.{integer_is, reads_as_none, reads_as_other}
use Rattle.rl_lenient.proofs.numbers.integer_parts.Goals as goal
use Rattle.rl_lenient.proofs.numbers.integer_parts.Goals.{in-Int, in_default}

pub returns-in_err-found-clause-none : goal.returns-in_err-found-clause-none
returns-in_err-found-clause-none c = if_none _ (reads_as_none (chars c.args.text.now) Int c.in_err-found.ensures.none)

pub returns-then-not-matches-clause-none : goal.returns-then-not-matches-clause-none
returns-then-not-matches-clause-none c = elim c.match-matches.branch [
  | in-Int w ↦ absurd (both_ways c.match-matches.matches c.if-not-matches.true w.matches-is)
  | in_default w ↦
      reads_as_other (chars c.args.text.now) _ c.in_ok-found.found.kind Int c.in_ok-found.ensures.found.reads
      w.in_default.not-Int
]

pub returns-clause-parts : goal.returns-clause-parts
returns-clause-parts c = elim c.match-matches.branch [
  | in-Int w ↦
      let h = c.in_ok-found.ensures.found.integer w.in-Int.is in
      integer_is (chars c.args.text.now) c.in_ok-found.found.magnitude _ c.split_radix-radix.result.0
      (chars c.split_radix-radix.result.1.now) (chars c.before-digits.result.now) (chars c.read_digit_run.result.rest.now)
      (h.sign, h.reads) (c.split_radix-radix.ensures.value ∙ ap radix_at c.after_minus.ensures.value)
      c.before-digits.ensures.chars c.read_digit_run.ensures.rest
  | in_default w ↦ absurd (both_ways c.match-matches.matches w.matches-is c.if-not-matches.false)
]
