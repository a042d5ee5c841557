use Rattle.rl_syntax.proofs.Common.{sym}
use Rattle.rl_lenient.proofs.BodyContents.{bytes_of_has}
use Rattle.rl_lenient.proofs.ContentLemmas.{cooked_bytes, not_raw}
use Rattle.rl_lenient.proofs.contents.decode_bytes_into.Goals as goal

pub returns-clause-value : goal.returns-clause-value
returns-clause-value c = λ t has.
    bytes_of_has _ t _ _ _ c.requires.kind has (cooked_bytes _ has.form _ has.value _ has.suffix _
    (not_raw has.form _ _ (sym has.plain_is)) has.parts c.decode_string_content_into.ensures.decodes)
