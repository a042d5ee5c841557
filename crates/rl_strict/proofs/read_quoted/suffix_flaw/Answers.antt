use Rattle.rl_strict.proofs.Names.{◌∙◌, ap, not, sym, some_text}
use Rattle.rl_strict.proofs.ReadQuoted.{empty_read}
use Rattle.rl_strict.proofs.read_quoted.suffix_flaw.Goals as goal

pub returns-then-is_empty-clause-flaw : goal.returns-then-is_empty-clause-flaw
returns-then-is_empty-clause-flaw c = empty_read c.args.form _ (some_text _ c.utf8.suffix
    ∙ ap not (sym c.is_empty.ensures ∙ c.if-is_empty.true))
