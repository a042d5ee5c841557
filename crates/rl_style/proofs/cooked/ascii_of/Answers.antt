use Rattle.rl_syntax.proofs.Common.{◌∙◌, ap, sym}
use Rattle.rl_lenient.specs.Mirrors.UnitAt.{piece_value}
use Rattle.rl_style.specs.Mirrors.{ascii_in}
use Rattle.rl_style.proofs.UnitTexts.{content_ascii}
use Rattle.rl_style.proofs.cooked.ascii_of.Goals as goal

pub returns-in-Character-clause-value : goal.returns-in-Character-clause-value
returns-in-Character-clause-value c = content_ascii c.args.kind c.in-Character.c _ c.ascii_or.ensures.value
    ∙ ap (λ z. ascii_in (piece_value c.args.kind z)) (sym c.in-Character.is)
