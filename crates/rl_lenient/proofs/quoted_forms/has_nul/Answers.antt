use Rattle.rl_syntax.proofs.Common.{◌∙◌, ap, eqb, lit<, not}
use Rattle.rl_lenient.proofs.CutLemmas.{bytes_lack}
use Rattle.std.specs.List.{list_any}
use Rattle.rl_lenient.proofs.quoted_forms.has_nul.Goals as goal

pub returns : goal.returns
returns c =
    ap not c.contains.ensures.value ∙ ap (λ t. not (list_any (λ b. eqb b 0) t)) c.as_bytes.ensures.value
    ∙ bytes_lack 0 c.args.text.now (lit< tt) c.utf8.text
