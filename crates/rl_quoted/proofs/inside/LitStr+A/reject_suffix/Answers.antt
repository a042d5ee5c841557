use Rattle.rl_syntax.proofs.Common.{chars, sym, ◌∙◌}
use Rattle.rl_quoted.proofs.InsideLemmas.{empty_suffix}
use Rattle.rl_quoted.proofs.inside.LitStr+A.reject_suffix.Goals as goal

pub returns-then-is_empty-clause-ok : goal.returns-then-is_empty-clause-ok
returns-then-is_empty-clause-ok g c =
    empty_suffix (chars c.args.self.now.text) c.suffix-suffix.result.now (sym c.is_empty.ensures ∙ c.if-is_empty.true)
    c.suffix-suffix.ensures
