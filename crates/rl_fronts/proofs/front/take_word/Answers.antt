use Rattle.rl_syntax.proofs.TailLemmas.{if_none}
use Rattle.rl_fronts.proofs.FrontLemmas.{no_word_at}
use Rattle.rl_lenient.proofs.StrictItems.{truth_reads}
use Rattle.rl_syntax.proofs.Common.{common_steps, sym, ◌∙◌, ap, arith}
use Rattle.std.specs.Str.{chars}
use Rattle.rl_fronts.proofs.front.take_word.Goals as goal

pub returns-clause-taken : goal.returns-clause-taken
returns-clause-taken g c = (
  sym c.fork-ahead.ensures.trees ∙ c.in_ok-word.ensures.taken,
  truth_reads (chars c.in_ok-word.word.now.text) c.in_ok-bool_of.field-0
      (ap chars (sym c.text.ensures.text) ∙ c.in_ok-bool_of.ensures.some),
)

pub returns-in_err-word-clause-taken : goal.returns-in_err-word-clause-taken
returns-in_err-word-clause-taken g c = grind (arith, common_steps) steps 200000

pub returns-in_err-word-clause-none : goal.returns-in_err-word-clause-none
returns-in_err-word-clause-none g c = grind (arith, common_steps) steps 200000

pub returns-in_err-word-clause-left : goal.returns-in_err-word-clause-left
returns-in_err-word-clause-left g c = grind (arith, common_steps) steps 200000

pub returns-in_err-bool_of-clause-taken : goal.returns-in_err-bool_of-clause-taken
returns-in_err-bool_of-clause-taken g c = grind (arith, common_steps) steps 200000

pub returns-in_err-bool_of-clause-left : goal.returns-in_err-bool_of-clause-left
returns-in_err-bool_of-clause-left g c = grind (arith, common_steps) steps 200000

pub returns-clause-scope : goal.returns-clause-scope
returns-clause-scope g c = grind (arith, common_steps) steps 200000

pub returns-in_err-bool_of-clause-none : goal.returns-in_err-bool_of-clause-none
returns-in_err-bool_of-clause-none g c = if_none _ (no_word_at _ _ _ _
    (sym c.fork-ahead.ensures.trees ∙ c.in_ok-word.ensures.taken) c.text.ensures.text c.in_err-bool_of.ensures.none)
