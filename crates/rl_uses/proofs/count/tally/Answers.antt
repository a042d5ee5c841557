use Rattle.std.proofs.Common.{◌≡◌, ◌<◌, ◌≤◌, length, unwrap_or, sym, ap, subst, ◌∙◌, arith, rules}
use Rattle.std.proofs.lemmas.Grind.{common_steps}
use Rattle.std.proofs.lemmas.Iterator.Adapters.{YieldsList-from_vec}
use Rattle.std.proofs.lemmas.Iterator.Consumers.{YieldsList-turn, YieldsList-end}
use Rattle.std.proofs.lemmas.List.{map-id}
use Rattle.std.proofs.lemmas.List.Sums.{count_by-le-length}
use Rattle.rust_literals.specs.Copies.{is_equal, is_equal_equiv}
use Rattle.rl_uses.specs.Counts.{times, AreCounts}
use Rattle.rl_uses.proofs.CountLemmas.{some_times_value, times_more, firsts_none, firsts_more}
use Rattle.rl_uses.proofs.count.tally.Goals as goal

pub overflow_add-before : goal.overflow_add-before
overflow_add-before g c =
    let into = c.into_iter-literal-iterator.ensures.into_iter_gives in
    let y = c.in-Some.literal in
    let ys = c.loop-literal.yielded in
    let before : c.unwrap_or-before.result ≡ times y ys = c.unwrap_or-before.ensures
    ∙ ap (λ o. unwrap_or o 0) (c.copied.ensures ∙ c.get.ensures.value ∙ c.loop-literal.invariant.numbers y)
    ∙ some_times_value (times y ys) in
    let within : times y ys ≤ length ys = count_by-le-length (is_equal y) ys in
    let turn = YieldsList-turn (YieldsList-from_vec c.args.literals.items into.0 (into.1 ∙ c.args.literals.ok.0)) ys
    c.loop-literal.literal-iterator c.loop-literal.yielded_by c.next.result c.next.new.self y c.in-Some.is
    c.next.ensures.steps in
    let fewer : length ys < length c.args.literals.items = turn.0 in
    omega (arith, into.1, into.2, c.args.literals.ok.0)

pub loop-literal-init : goal.loop-literal-init
loop-literal-init g c = record {
  numbers = λ q. grind (arith, common_steps);
  firsts = firsts_none is_equal c.new-counts.result c.new-counts.ensures.empty;
}

pub loop-literal-preserved : goal.loop-literal-preserved
loop-literal-preserved g c =
    let y = c.in-Some.literal in
    let ys = c.loop-literal.yielded in
    let before : c.unwrap_or-before.result ≡ times y ys = c.unwrap_or-before.ensures
    ∙ ap (λ o. unwrap_or o 0) (c.copied.ensures ∙ c.get.ensures.value ∙ c.loop-literal.invariant.numbers y)
    ∙ some_times_value (times y ys) in
    let old = c.in-Ok.ensures.old ∙ c.loop-literal.invariant.numbers y in
    record {
      numbers = λ q. c.in-Ok.ensures.updates.0 q ∙ rw (before, c.loop-literal.invariant.numbers q)
          (sym (times_more is_equal is_equal_equiv ys y q));
      firsts = firsts_more is_equal is_equal_equiv ys y c.loop-literal.counts c.insert.new.self _ c.in-Ok.field-0 old
          c.in-Ok.ensures.entries c.loop-literal.invariant.firsts;
    }

pub returns-clause-counts : goal.returns-clause-counts
returns-clause-counts g c =
    let into = c.into_iter-literal-iterator.ensures.into_iter_gives in
    let ys = c.loop-literal.yielded in
    let end = YieldsList-end (YieldsList-from_vec c.args.literals.items into.0 (into.1 ∙ c.args.literals.ok.0)) ys
    c.loop-literal.literal-iterator c.loop-literal.yielded_by c.next.result c.next.new.self c.in-None.is
    c.next.ensures.steps in
    subst (λ list. AreCounts list c.loop-literal.counts) (sym (map-id ys) ∙ end.0) c.loop-literal.invariant

pub returns-in_default-clause-memory : goal.returns-in_default-clause-memory
returns-in_default-clause-memory g c =
    let into = c.into_iter-literal-iterator.ensures.into_iter_gives in
    let y = c.in-Some.literal in
    let ys = c.loop-literal.yielded in
    let turn = YieldsList-turn (YieldsList-from_vec c.args.literals.items into.0 (into.1 ∙ c.args.literals.ok.0)) ys
    c.loop-literal.literal-iterator c.loop-literal.yielded_by c.next.result c.next.new.self y c.in-Some.is
    c.next.ensures.steps in
    (length ys, y, turn.0, sym turn.1, search rules)
