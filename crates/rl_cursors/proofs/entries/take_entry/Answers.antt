use Rattle.rl_syntax.proofs.Common.{inl, refl, sym, ◌∙◌}
use Rattle.rl_cursors.proofs.EntryLemmas.{name_same}
use Rattle.rl_cursors.proofs.entries.take_entry.Goals as goal

pub returns-in-Err-clause-rejected : goal.returns-in-Err-clause-rejected
returns-in-Err-clause-rejected c = inl (refl, c.in-Err.ensures.missed)

pub take_entry_value-requires : goal.take_entry_value-requires
take_entry_value-requires c = c.requires
    ∙ sym (name_same c.args.tokens.now c.take_dotted_name.new.tokens c.in-Ok.name c.in-Ok.ensures.taken)
