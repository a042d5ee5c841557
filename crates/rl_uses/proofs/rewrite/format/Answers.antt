use Rattle.std.proofs.Common.{string_bytes, inr, subst}
use Rattle.std.proofs.lemmas.Result.{IfOk-weaker, IfErr-weaker}
use Rattle.rl_uses.specs.Shortage.{IsShortOf}
use Rattle.rl_uses.specs.Rewrites.{AreLines}
use Rattle.rl_uses.proofs.rewrite.format.Goals as goal

pub returns-clause-printed : goal.returns-clause-printed
returns-clause-printed g c =
    let list = c.in_ok-literals.literals.items in
    IfOk-weaker c.lines.result _ _ (λ printed h. (
      list,
      c.in_ok-literals.ensures.read,
      subst
          (λ ls. AreLines ls (string_bytes printed)) c.as_slice.ensures.value h,
    )) c.lines.ensures.lines

pub returns-clause-rejected : goal.returns-clause-rejected
returns-clause-rejected g c =
    IfErr-weaker c.lines.result _ _ (λ e h. inr (record {
      list = c.in_ok-literals.literals.items;
      read = c.in_ok-literals.ensures.read;
      short = subst (λ ls. IsShortOf ls e) c.as_slice.ensures.value h;
    })) c.lines.ensures.memory
