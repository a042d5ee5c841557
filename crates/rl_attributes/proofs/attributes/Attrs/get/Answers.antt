use Rattle.std.proofs.Common.{length, arith, ap, sym}
use Rattle.rl_attributes.proofs.EntryLemmas.{is_name, no_name, value_lent, none_more}
use Rattle.rl_attributes.proofs.attributes.Attrs.get.Goals as goal

pub returns-then-eq-clause-borrowed : goal.returns-then-eq-clause-borrowed
returns-then-eq-clause-borrowed g c =
    value_lent c.args.self.now.entries.items c.args.name.now c.loop-entry.entry-index c.entry-item.result
    c.args.self.now.differ (omega (arith, ap length c.entries-entry-items.ensures.entries))
    (rw c.entries-entry-items.ensures.entries at c.entry-item.is)
    (is_name _ c.as_str.result.now c.args.name.now c.eq.result c.as_str.ensures.value c.eq.ensures c.if-eq.true)

pub returns-then-eq-clause-named : goal.returns-then-eq-clause-named
returns-then-eq-clause-named g c = (
  c.loop-entry.entry-index,
  c.entry-item.result,
  omega (arith, ap length c.entries-entry-items.ensures.entries),
  sym
      (rw c.entries-entry-items.ensures.entries at c.entry-item.is),
  is_name _ c.as_str.result.now c.args.name.now
      c.eq.result c.as_str.ensures.value c.eq.ensures c.if-eq.true,
)

pub loop-entry-preserved : goal.loop-entry-preserved
loop-entry-preserved g c =
    none_more c.args.self.now.entries.items c.args.name.now c.loop-entry.entry-index c.entry-item.result
    (omega (arith, ap length c.entries-entry-items.ensures.entries))
    (rw c.entries-entry-items.ensures.entries at c.entry-item.is)
    (no_name _ c.as_str.result.now c.args.name.now c.eq.result c.as_str.ensures.value c.eq.ensures c.if-eq.false)
    c.loop-entry.invariant

pub returns-clause-borrowed : goal.returns-clause-borrowed
returns-clause-borrowed g c = λ k d h. c.loop-entry.invariant k d
    (omega (arith, ap length c.entries-entry-items.ensures.entries))
