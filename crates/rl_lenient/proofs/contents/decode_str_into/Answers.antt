use Rattle.rl_syntax.proofs.Common.{sym}
use Rattle.rl_lenient.proofs.Names.{Str}
use Rattle.rl_lenient.proofs.BodyContents.{str_of_has}
use Rattle.rl_lenient.proofs.ContentLemmas.{cooked_bytes, not_raw}
use Rattle.rl_lenient.proofs.contents.decode_str_into.Goals as goal

pub returns-clause-value : goal.returns-clause-value
returns-clause-value c = λ t has.
    (str_of_has t _ _ _ has c.utf8.body (cooked_bytes _ has.form Str has.value _ has.suffix _
    (not_raw has.form Str _ (sym has.plain_is)) has.parts c.decode_string_content_into.ensures.decodes)).1

pub returns-clause-utf8 : goal.returns-clause-utf8
returns-clause-utf8 c =
    let (t, has) = c.requires.body in
    (str_of_has t _ _ _ has c.utf8.body (cooked_bytes _ has.form Str has.value _ has.suffix _
    (not_raw has.form Str _ (sym has.plain_is)) has.parts c.decode_string_content_into.ensures.decodes)).0
