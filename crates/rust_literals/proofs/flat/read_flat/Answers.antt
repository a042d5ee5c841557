use Rattle.rl_syntax.proofs.Common.{ap, chars, chars-nil, sym, ◌∙◌}
use Rattle.rust_literals.proofs.FlatLemmas.{read_start, empty_text, read_more, read_whole}
use Rattle.rust_literals.proofs.flat.read_flat.Goals as goal

pub returns-clause-whole : goal.returns-clause-whole
returns-clause-whole g c =
    let empty = empty_text c.rest.result.now (sym c.is_empty.ensures ∙ c.loop-tokens-test.false) in
    read_whole (chars c.args.text.now) c.args.file c.loop-tokens.list.items (chars c.loop-tokens.tokens.rest)
    (ap chars (sym c.rest.ensures ∙ empty) ∙ chars-nil) c.loop-tokens.invariant.read

pub loop-tokens-preserved : goal.loop-tokens-preserved
loop-tokens-preserved g c =
    let added = c.in-Ok-true.ensures.next c.in-Ok-true.field-0-test in
    record {
      read = read_more c.args.text.now c.args.file c.loop-tokens.tokens c.push_leading_literal.new.tokens c.loop-tokens.list.items
          c.push_leading_literal.new.list.items c.loop-tokens.invariant.same c.loop-tokens.invariant.read added;
      same = added.next.same ∙ c.loop-tokens.invariant.same;
    }

pub loop-tokens-init : goal.loop-tokens-init
loop-tokens-init g c = record {
  read = read_start c.args.text.now c.args.file c.new-tokens.result.rest c.new-list.result.items
      c.new-list.ensures.items c.new-tokens.ensures.skipped;
  same = c.new-tokens.ensures.text;
}

pub loop-tokens-smaller : goal.loop-tokens-smaller
loop-tokens-smaller g c = c.in-Ok-true.ensures.shorter c.in-Ok-true.field-0-test
