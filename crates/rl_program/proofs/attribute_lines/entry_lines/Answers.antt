use Rattle.rl_syntax.proofs.Common.{[], ap, arith, chars, chars-nil, common_steps, string_bytes, subst, sym, take, ◌++◌, ◌+◌, ◌∙◌, ◌∷◌, ◌≡◌}
use Rattle.rl_program.specs.EntryLines.{IsLineOfEntry, AreLinesOfEntries}
use Rattle.rl_program.proofs.JoinLemmas.{joins_more}
use Rattle.rl_program.proofs.attribute_lines.entry_lines.Goals as goal

pub loop-entry-init : goal.loop-entry-init
loop-entry-init g c = ap chars c.new-lines.ensures.bytes ∙ chars-nil

pub loop-entry-preserved : goal.loop-entry-preserved
loop-entry-preserved g c =
    let entries = c.args.entries.now in
    let i = c.loop-entry.entry-index in
    let grown : take (i + 1) entries ≡ take i entries ++ (c.entry-item.result ∷ []) = grind (arith, common_steps) in
    subst (λ es. AreLinesOfEntries es (chars (string_bytes c.push_entry.new.out))) (sym grown)
    (joins_more IsLineOfEntry (take i entries) c.entry-item.result (chars (string_bytes c.loop-entry.lines))
    (chars (string_bytes c.push_entry.new.out)) c.loop-entry.invariant c.in_ok-push_entry.ensures)
