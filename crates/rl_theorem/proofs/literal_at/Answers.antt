use Rattle.std.proofs.Common.{suc, ◌+◌, ◌≡◌, arith, subst}
use Rattle.rl_theorem.proofs.StepLemmas.{IsAfter, after_step, step_at}
use Rattle.std.specs.Str.{chars}
use Rattle.rl_theorem.specs.Lists.{IsStepAt}
use Rattle.rl_theorem.proofs.PrintedItems.{has_entries}
use Rattle.rl_theorem.proofs.literal_at.Goals as goal

pub loop-init : goal.loop-init
loop-init c = record { left = c.new-list.ensures.left }

pub loop-preserved : goal.loop-preserved
loop-preserved c = record {
  left = λ entries last printed.
      let one : suc c.loop.counter ≡ c.loop.counter + 1 = omega arith in
      subst (λ n. IsAfter n 0 entries c.next.new.self) one
      (after_step c.loop.counter 0 entries c.loop.list c.next.result c.next.new.self
      (record { item = c.next.ensures.item; steps = c.next.ensures.steps })
      (c.loop.invariant.left entries last printed));
}

pub returns : goal.returns
returns c = λ items last printed.
    let at_end : c.loop.counter ≡ c.args.n = omega (arith, c.loop-test.false, c.loop.auto.counter-end) in
    let has = has_entries (chars c.args.text.now) items last printed in
    subst (λ n. IsStepAt 0 items n c.next-2.result) at_end
    (step_at c.loop.counter 0 items has.entries c.loop.list c.next-2.result c.next-2.new.self has.are
    (record { item = c.next-2.ensures.item; steps = c.next-2.ensures.steps })
    (c.loop.invariant.left has.entries last has.printed))
