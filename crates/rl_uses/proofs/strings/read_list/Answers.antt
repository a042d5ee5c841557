use Rattle.std.proofs.Common.{inl, inr, refl, sym, ◌∙◌}
use Rattle.std.proofs.lemmas.Result.{IfOk-weaker, IfErr-weaker}
use Rattle.rl_uses.proofs.StringLemmas.{exactly_these}
use Rattle.rl_uses.proofs.strings.read_list.Goals as goal

pub returns-in-Ok-clause-set : goal.returns-in-Ok-clause-set
returns-in-Ok-clause-set g c =
    IfOk-weaker c.strings_of.result _ _ (λ values h. record {
      list = c.in-Ok.literals.items;
      read = c.in-Ok.ensures.read;
      are = rw c.as_slice.ensures.value at h;
    }) c.strings_of.ensures.set

pub returns-in-Ok-clause-exactly : goal.returns-in-Ok-clause-exactly
returns-in-Ok-clause-exactly g c values is =
    exactly_these _ values c.strings_of.result
    (rw (c.as_slice.ensures.value ∙ c.in-Ok.ensures.exactly is.list is.read) is.are)
    c.strings_of.ensures.set c.strings_of.ensures.rejected

pub returns-in-Ok-clause-rejected : goal.returns-in-Ok-clause-rejected
returns-in-Ok-clause-rejected g c =
    IfErr-weaker c.strings_of.result _ _
    (λ e h. inr (c.in-Ok.literals.items, c.in-Ok.ensures.read, rw c.as_slice.ensures.value at h))
    c.strings_of.ensures.rejected

pub returns-in-Err-clause-exactly : goal.returns-in-Err-clause-exactly
returns-in-Err-clause-exactly g c values is = c.in-Err.ensures.exactly is.list is.read

pub returns-in-Err-clause-rejected : goal.returns-in-Err-clause-rejected
returns-in-Err-clause-rejected g c = inl (c.in-Err.error, refl, c.in-Err.ensures.rejected)
