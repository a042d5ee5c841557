use Rattle.rl_flaws.proofs.Names.{◌∙◌, sym, rules, tail_step, nil_of, step_in}
use Rattle.rl_flaws.proofs.EndLemmas.{digits_end, digits_halt, digits_on}
use Rattle.rl_flaws.proofs.piece_ends.after_code_digits.Goals as goal

pub returns-then-not-is_code_part-clause-read : goal.returns-then-not-is_code_part-clause-read
returns-then-not-is_code_part-clause-read c = c.after_one.ensures.read ∙ digits_halt _ _ _ _ c.in-Some.ensures.chars
    (sym c.is_code_part.ensures ∙ c.if-not-is_code_part.true) ∙ c.loop-c.invariant.same

pub loop-c-preserved : goal.loop-c-preserved
loop-c-preserved c = record {
  utf8 = search rules;
  following = tail_step _ _ _ c.loop-c.invariant.following c.in-Some.ensures.following;
  is_rest = step_in c.args.ends _ _ _ c.loop-c.invariant.is_rest c.in-Some.ensures.rest;
  same = digits_on _ _ _ _ c.in-Some.ensures.chars (sym c.is_code_part.ensures ∙ c.if-not-is_code_part.false)
      ∙ c.loop-c.invariant.same;
}

pub returns-clause-read : goal.returns-clause-read
returns-clause-read c = digits_end _ _ (nil_of c.args.ends _ c.in_default.ensures.chars) ∙ c.loop-c.invariant.same
