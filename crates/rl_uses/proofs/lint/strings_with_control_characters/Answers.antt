use Rattle.std.proofs.Common.{inr, subst}
use Rattle.std.proofs.lemmas.Result.{IfOk-weaker, IfErr-weaker}
use Rattle.rl_uses.specs.Shortage.{IsShortOf}
use Rattle.rl_uses.specs.Lints.{AreErrors}
use Rattle.rl_uses.proofs.lint.strings_with_control_characters.Goals as goal

pub returns-clause-found : goal.returns-clause-found
returns-clause-found g c =
    let list = c.in_ok-literals.literals.items in
    IfOk-weaker c.bad_spans.result _ _ (λ spans h. (
      list,
      c.in_ok-literals.ensures.read,
      subst
          (λ ls. AreErrors ls spans.items) c.as_slice.ensures.value h,
    )) c.bad_spans.ensures.found

pub returns-clause-rejected : goal.returns-clause-rejected
returns-clause-rejected g c =
    IfErr-weaker c.bad_spans.result _ _ (λ e h. inr (record {
      list = c.in_ok-literals.literals.items;
      read = c.in_ok-literals.ensures.read;
      short = subst (λ ls. IsShortOf ls e) c.as_slice.ensures.value h;
    })) c.bad_spans.ensures.memory
