use Rattle.rl_syntax.proofs.Common.{common_steps, ◌∙◌, ap, arith, rules, on_ok_weaker}
use Rattle.rl_lexer.specs.Cursors.{form_view}
use Rattle.rl_tokens.specs.Puncts.{Mark}
use Rattle.rl_tokens.proofs.NestLemmas.{takes_mark, takes_literal, takes_ident, spanned}
use Rattle.rl_tokens.proofs.nest.TreeBuilder.add.Goals as goal

pub returns-in-Mark-clause-ok : goal.returns-in-Mark-clause-ok
returns-in-Mark-clause-ok g c =
    on_ok_weaker c.append-in-Mark.result
    (takes_mark c.args.self.now c.append-in-Mark.new.self c.new-in-Mark.result (form_view c.args.form) c.in-Mark.c
    c.args.text.now c.args.lo c.args.hi
    (ap form_view c.in-Mark.is) (c.new-in-Mark.ensures ∙ ap (λ s. let m : Mark = record { ch = c.in-Mark.c; span = s }
    in m) c.new-span.ensures))
    c.append-in-Mark.ensures.ok

pub returns-in-Ok-clause-ok : goal.returns-in-Ok-clause-ok
returns-in-Ok-clause-ok g c =
    on_ok_weaker c.append.result
    (takes_literal c.args.self.now c.append.new.self c.of_string.result (form_view c.args.form) c.args.text.now
    c.args.lo c.args.hi
    (ap form_view c.in-Literal.is) (spanned _ _ _ _ _ c.of_string.ensures c.in-Ok.ensures.ok c.new-span.ensures))
    c.append.ensures.ok

pub returns-in-Ok-from_str-clause-ok : goal.returns-in-Ok-from_str-clause-ok
returns-in-Ok-from_str-clause-ok g c =
    on_ok_weaker c.append-in-Ok-from_str.result
    (takes_ident c.args.self.now c.append-in-Ok-from_str.new.self c.of_string-in-Ok-from_str.result
    (form_view c.args.form) c.args.text.now c.args.lo c.args.hi
    (ap form_view c.in-Identifier.is) (spanned _ _ _ _ _ c.of_string-in-Ok-from_str.ensures c.in-Ok-from_str.ensures.ok
    c.new-span.ensures))
    c.append-in-Ok-from_str.ensures.ok

pub returns-in-Ok-clause-at : goal.returns-in-Ok-clause-at
returns-in-Ok-clause-at g c = grind (arith, common_steps) steps 300000

pub returns-in-Ok-clause-kind : goal.returns-in-Ok-clause-kind
returns-in-Ok-clause-kind g c = grind (arith, common_steps) steps 300000

pub returns-in-Ok-from_str-clause-at : goal.returns-in-Ok-from_str-clause-at
returns-in-Ok-from_str-clause-at g c = grind (arith, common_steps) steps 300000

pub returns-in-Ok-from_str-clause-kind : goal.returns-in-Ok-from_str-clause-kind
returns-in-Ok-from_str-clause-kind g c = grind (arith, common_steps) steps 300000

pub returns-then-is_opener-clause-kind : goal.returns-then-is_opener-clause-kind
returns-then-is_opener-clause-kind g c = grind (arith, common_steps) steps 300000

pub returns-in-Mark-clause-at : goal.returns-in-Mark-clause-at
returns-in-Mark-clause-at g c = search rules steps 300000

pub returns-in-Mark-clause-kind : goal.returns-in-Mark-clause-kind
returns-in-Mark-clause-kind g c = search rules steps 300000

pub returns-else-is_opener-clause-ok : goal.returns-else-is_opener-clause-ok
returns-else-is_opener-clause-ok g c = search rules steps 300000

pub returns-else-is_opener-clause-kind : goal.returns-else-is_opener-clause-kind
returns-else-is_opener-clause-kind g c = search rules steps 300000
