use Rattle.rl_syntax.proofs.Common.{[], ap, arith, common_steps, drop, length, subst, sym, take, take_all, ◌++◌, ◌+◌, ◌∷◌, ◌≡◌}
use Rattle.std.proofs.Common.{All}
use Rattle.std.proofs.lemmas.List.Elements.{All-push}
use Rattle.std.proofs.lemmas.Result.{err_from_is_err_and}
use Rattle.rl_attributes.specs.Settings.{IsAccepted}
use Rattle.rl_attributes.proofs.EntryLemmas.{parted_at}
use Rattle.rl_attributes.proofs.TextLemmas.{are_named, have_no_suffix, check_accepts}
use Rattle.rl_attributes.proofs.attributes.Attrs.check.Goals as goal

pub returns-in_err-check_entry-clause-first : goal.returns-in_err-check_entry-clause-first
returns-in_err-check_entry-clause-first g c =
    let entries = c.args.self.now.entries.items in
    let i = c.loop-entry.entry-index in
    let p = err_from_is_err_and c.from_residual.result c.from_residual.ensures.1 in
    rw (p.1, p.2)
    (record {
      earlier = take i entries;
      entry = c.entry-item.result;
      later = drop (i + 1) entries;
      entries_are = parted_at entries i c.entry-item.result (omega
          (arith, ap length c.entries-entry-items.ensures.entries))
          (rw c.entries-entry-items.ensures.entries at c.entry-item.is);
      accepted = c.loop-entry.invariant;
      rejected = c.in_err-check_entry.ensures.rejected;
    })

pub loop-entry-preserved : goal.loop-entry-preserved
loop-entry-preserved g c =
    let entries = c.args.self.now.entries.items in
    let i = c.loop-entry.entry-index in
    let grown : take (i + 1) entries ≡ take i entries ++ (c.entry-item.result ∷ []) = grind (arith, common_steps) in
    let accepted = IsAccepted c.args.settings.now in
    subst (λ l. All accepted l) (sym grown) (All-push accepted (take i entries) c.entry-item.result
    c.loop-entry.invariant c.in_ok-check_entry.ensures.accepted)

pub returns-clause-known : goal.returns-clause-known
returns-clause-known g c k d h =
    let entries = c.args.self.now.entries.items in
    let all = subst (λ l. All (IsAccepted c.args.settings.now) l)
    (take_all c.loop-entry.entry-index entries (omega (arith, ap length c.entries-entry-items.ensures.entries)))
    c.loop-entry.invariant in
    (all k d h).known

pub returns-clause-bare : goal.returns-clause-bare
returns-clause-bare g c k d h =
    let entries = c.args.self.now.entries.items in
    let all = subst (λ l. All (IsAccepted c.args.settings.now) l)
    (take_all c.loop-entry.entry-index entries (omega (arith, ap length c.entries-entry-items.ensures.entries)))
    c.loop-entry.invariant in
    (all k d h).bare

pub returns-in_err-check_entry-clause-exactly : goal.returns-in_err-check_entry-clause-exactly
returns-in_err-check_entry-clause-exactly g c named bare =
    let entries = c.args.self.now.entries.items in
    let i = c.loop-entry.entry-index in
    absurd (check_accepts c.args.settings.now entries _ (record {
      earlier = take i entries;
      entry = c.entry-item.result;
      later = drop (i + 1) entries;
      entries_are = parted_at entries i c.entry-item.result (omega
          (arith, ap length c.entries-entry-items.ensures.entries))
          (rw c.entries-entry-items.ensures.entries at c.entry-item.is);
      accepted = c.loop-entry.invariant;
      rejected = c.in_err-check_entry.ensures.rejected;
    }) c.args.self.now.read named bare)

pub returns-clause-names : goal.returns-clause-names
returns-clause-names g c =
    let entries = c.args.self.now.entries.items in
    let all = subst (λ l. All (IsAccepted c.args.settings.now) l)
    (take_all c.loop-entry.entry-index entries (omega (arith, ap length c.entries-entry-items.ensures.entries)))
    c.loop-entry.invariant in
    are_named c.args.settings.now entries (λ k d h. (all k d h).known)

pub returns-clause-bare_texts : goal.returns-clause-bare_texts
returns-clause-bare_texts g c =
    let entries = c.args.self.now.entries.items in
    let all = subst (λ l. All (IsAccepted c.args.settings.now) l)
    (take_all c.loop-entry.entry-index entries (omega (arith, ap length c.entries-entry-items.ensures.entries)))
    c.loop-entry.invariant in
    have_no_suffix entries c.args.self.now.read (λ k d h. (all k d h).bare)
