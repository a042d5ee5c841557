use Rattle.rl_syntax.proofs.Common.{◌∙◌, sym}
use Rattle.rl_lenient.proofs.NamedLemmas.{named_ascii, named_some}
use Rattle.rl_lenient.proofs.units.named_value.Goals as goal

pub returns-clause-value : goal.returns-clause-value
returns-clause-value c = named_some c.args.kind c.args.letter _ c.requires c.if-value.false
    (sym c.allows_code.ensures ∙ c.if-not-allows_code.false)

pub returns-clause-ascii : goal.returns-clause-ascii
returns-clause-ascii c = named_ascii c.args.letter _ c.requires c.if-value.false
