use Rattle.rl_strict.proofs.Names.{◌∙◌, ap, not, sym, some_text}
use Rattle.rl_strict.proofs.ReadNumbers.{empty_end, word_end}
use Rattle.rl_strict.proofs.read_numbers.read_suffix.Goals as goal

pub returns-then-is_empty-clause-value : goal.returns-then-is_empty-clause-value
returns-then-is_empty-clause-value c = empty_end _ (some_text _ c.utf8.text
    ∙ ap not (sym c.is_empty.ensures ∙ c.if-is_empty.true))

pub returns-then-is_ascii_word-clause-value : goal.returns-then-is_ascii_word-clause-value
returns-then-is_ascii_word-clause-value c = word_end _ (c.is_ascii_word.ensures c.if-is_ascii_word.true)
