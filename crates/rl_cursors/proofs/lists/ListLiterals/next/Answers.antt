use Rattle.std.proofs.Common.{true, sym, ap, ◌∙◌}
use Rattle.rl_cursors.specs.Lists.{is_rejected}
use Rattle.rl_cursors.proofs.TakenLemmas.{not_rejected, item_taken_from}
use Rattle.rl_cursors.proofs.lists.ListLiterals.next.Goals as goal

pub returns-in-Rejected-clause-item : goal.returns-in-Rejected-clause-item
returns-in-Rejected-clause-item c = item_taken_from _ _ _ (record { cursor = c.next_list_literal-step.new.tokens; is_done = true })
    c.self.view_is c.next_list_literal-step.ensures.steps (sym (ap is_rejected c.in-Rejected.is))

pub returns-in_default-clause-rejected : goal.returns-in_default-clause-rejected
returns-in_default-clause-rejected c = λ going. c.if-self.false ∙ sym (not_rejected _ c.in_default.not-Rejected)

pub returns-in_default-clause-item : goal.returns-in_default-clause-item
returns-in_default-clause-item c = item_taken_from _ _ _
    (record { cursor = c.next_list_literal-step.new.tokens; is_done = c.self.inside.is_done })
    c.self.view_is c.next_list_literal-step.ensures.steps (c.if-self.false ∙ sym (not_rejected _ c.in_default.not-Rejected))
