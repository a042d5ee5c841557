use Rattle.rl_strict.proofs.Names.{◌∙◌, ap, not, sym, some_text}
use Rattle.rl_strict.proofs.ReadNumbers.{fraction_empty, fraction_stops}
use Rattle.rl_strict.proofs.read_numbers.read_fraction.Goals as goal

pub returns-then-is_empty-clause-value : goal.returns-then-is_empty-clause-value
returns-then-is_empty-clause-value c = fraction_empty _ (some_text _ c.utf8.text
    ∙ ap not (sym c.is_empty.ensures ∙ c.if-is_empty.true))

pub returns-else-begins_digit-clause-value : goal.returns-else-begins_digit-clause-value
returns-else-begins_digit-clause-value c = fraction_stops _ (some_text _ c.utf8.text
    ∙ ap not (sym c.is_empty.ensures ∙ c.if-is_empty.false)) (sym c.begins_digit.ensures ∙ c.if-begins_digit.false)
