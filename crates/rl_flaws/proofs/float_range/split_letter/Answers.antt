use Rattle.rl_syntax.proofs.Common.{◌≡◌, [], ◌∷◌, ◌++◌, ◌∙◌, ℕ, List, append_assoc, append_cancel_right, sym, ap, rules}
use Rattle.std.specs.Str.{chars}
use Rattle.rl_flaws.specs.FloatRange.{power_part, decimal_part}
use Rattle.rl_flaws.proofs.FloatLemmas.{letter_ends, letter_next, tail_of}
use Rattle.rl_flaws.proofs.float_range.split_letter.Goals as goal

pub before-requires : goal.before-requires
before-requires c =
    let (front, cut, ahead, after) = c.loop-c.invariant.passed in
    tail_of c.args.numeral.now c.loop-c.rest.now front (search rules) (search rules) cut

pub returns-then-is_exponent_letter-clause-before : goal.returns-then-is_exponent_letter-clause-before
returns-then-is_exponent_letter-clause-before c =
    let (front, cut, ahead, after) = c.loop-c.invariant.passed in
    let found : List ℕ = chars c.before-then-is_exponent_letter.result.now in
    let rest : List ℕ = chars c.loop-c.rest.now in
    let is : found ≡ front = append_cancel_right found front rest
    (sym c.before-then-is_exponent_letter.ensures.chars ∙ cut) in
    is ∙ sym (ahead ∙ ap (λ z. front ++ decimal_part z) c.in-Some.ensures.chars
    ∙ letter_ends front (chars c.in-Some.after.now) c.in-Some.c
    (sym c.is_exponent_letter.ensures ∙ c.if-is_exponent_letter.true))

pub loop-c-preserved : goal.loop-c-preserved
loop-c-preserved c =
    let (front, cut, ahead, after) = c.loop-c.invariant.passed in
    let next = letter_next front (chars c.in-Some.after.now) c.in-Some.c
    (sym c.is_exponent_letter.ensures ∙ c.if-is_exponent_letter.false) in
    record {
      utf8 = search rules;
      passed = (
        front ++ (c.in-Some.c ∷ []),
        cut ∙ ap (λ z. front ++ z) c.in-Some.ensures.chars
            ∙ sym (append_assoc front (c.in-Some.c ∷ []) (chars c.in-Some.after.now)),
        ahead ∙ ap (λ z. front ++ decimal_part z) c.in-Some.ensures.chars ∙ next.0,
        after ∙ ap power_part c.in-Some.ensures.chars ∙ next.1,
      );
    }
