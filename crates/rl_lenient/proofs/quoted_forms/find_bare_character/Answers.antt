use Rattle.rl_syntax.proofs.Common.{◌∙◌}
use Rattle.rl_lenient.proofs.BareCharacters.{bare_text}
use Rattle.rl_lenient.proofs.quoted_forms.find_bare_character.Goals as goal

pub returns : goal.returns
returns c = bare_text _ _ _ c.as_bytes-bytes.ensures.value c.utf8.text c.requires.long c.requires.quote
    (c.if-bytes-quote.false ∙ c.quote.ensures.value) c.if-bytes-eq92.false c.if-bytes-ge128.false c.quoted.ensures
