use Rattle.rl_syntax.proofs.Common.{◌∙◌, ap, refl}
use Rattle.rl_lenient.proofs.Names.{Char}
use Rattle.std.specs.Str.{chars}
use Rattle.rl_lenient.specs.declared.quoted_forms.QuotedForm.TheVariants.{Single as SingleForm}
use Rattle.rl_lenient.specs.Mirrors.OpenerAt.{opener_at}
use Rattle.rl_lenient.proofs.BareCharacters.{quote_boundary, quote_first}
use Rattle.rl_lenient.proofs.FormLemmas.{front_complete}
use Rattle.rl_lenient.proofs.quoted_forms.find_character.Goals as goal

pub range_from-requires : goal.range_from-requires
range_from-requires c = λ some. quote_boundary _ c.utf8.text c.requires

pub find_single-requires : goal.find_single-requires
find_single-requires c = ap opener_at (quote_first _ _ c.utf8.text c.requires c.range_from.ensures.value)
    ∙ front_complete SingleForm Char (chars c.range_from.result.now) refl
