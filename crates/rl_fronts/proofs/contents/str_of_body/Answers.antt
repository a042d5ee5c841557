use Rattle.rl_syntax.proofs.Common.{◌≡◌, subst, rules}
use Rattle.rl_lenient.proofs.Names.{Str, Characters, HasContents}
use Rattle.std.proofs.Common.{string_bytes}
use Rattle.std.specs.Str.{chars}
use Rattle.rl_lenient.proofs.BodyContents.{str_of_has}
use Rattle.rl_fronts.proofs.contents.str_of_body.Goals as goal

pub from_utf8_unchecked-requires : goal.from_utf8_unchecked-requires
from_utf8_unchecked-requires g c =
    let (t, has) = c.requires in
    (str_of_has t _ _ _ has c.utf8.body (c.in_ok-value.ensures t has)).0

pub returns-clause-value : goal.returns-clause-value
returns-clause-value g c = λ t has.
    let same : c.in_ok-value.value.items ≡ string_bytes c.from_utf8_unchecked.result = search rules in
    subst (λ z. HasContents Str t (Characters (chars z))) same
    (str_of_has t _ _ _ has c.utf8.body (c.in_ok-value.ensures t has)).1
