use Rattle.std.proofs.lemmas.Bool.{not-false}
use Rattle.std.proofs.Common.{rules, ◌≡◌, inl, inr, true, false, cond, ap, sym, ◌∙◌}
use Rattle.rl_tokens.specs.Buffers.{trees_in}
use Rattle.rl_attributes.specs.Names.{name_key, has_name}
use Rattle.rl_attributes.proofs.NameKeys.{keys_tie}
use Rattle.rl_attributes.proofs.attributes.take.take_name.Goals as goal

pub returns-in-Ok-true-clause-adds : goal.returns-in-Ok-true-clause-adds
returns-in-Ok-true-clause-adds g c other =
    rw (sym c.text.ensures.text)
    ((rw (c.new.ensures.key, c.new.ensures.text) at (c.in-Ok-true.ensures.updates.0
    (record { key = name_key other; text = record { ref_ptr = (0, 0); now = other } })))
    ∙ ap (λ b. cond b true (has_name c.args.names.now other)) (sym (keys_tie c.text.result.now other)))

pub returns-in-Ok-false-clause-rejected : goal.returns-in-Ok-false-clause-rejected
returns-in-Ok-false-clause-rejected g c =
    let none : c.in-Ok-false.field-0 ≡ false = search rules in
    let again : has_name c.args.names.now c.in-Some.name.now.text ≡ true = rw (sym c.text.ensures.text)
    (rw (c.new.ensures.key, c.new.ensures.text) at (not-false _ (sym c.in-Ok-false.ensures.added ∙ none))) in
    inr (record { why = inr (inl (record { name = c.in-Some.name.now; following = trees_in c.ident.new.self; named = c.in-Some.ensures.taken; again = again; error = search rules })) })
