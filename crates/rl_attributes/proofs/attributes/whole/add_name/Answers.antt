use Rattle.rl_syntax.proofs.Common.{true, cond, ap, sym, ◌∙◌}
use Rattle.rl_attributes.specs.Names.{name_key, has_name}
use Rattle.rl_attributes.proofs.NameKeys.{keys_tie}
use Rattle.rl_attributes.proofs.attributes.whole.add_name.Goals as goal

pub returns-in-Ok-true-clause-adds : goal.returns-in-Ok-true-clause-adds
returns-in-Ok-true-clause-adds g c h other =
    (rw (c.new.ensures.key, c.new.ensures.text) at (c.in-Ok-true.ensures.updates.0
    (record { key = name_key other; text = record { ref_ptr = (0, 0); now = other } })))
    ∙ ap (λ b. cond b true (has_name c.args.names.now other)) (sym (keys_tie c.args.name.now other))
