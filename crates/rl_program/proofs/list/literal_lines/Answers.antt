use Rattle.std.proofs.Common.{Option, Ok, subst}
use Rattle.rust_literals.specs.declared.lit.Lit.{Lit}
use Rattle.rust_literals.specs.Iterating.{ReturnsNext}
use Rattle.rl_program.proofs.ListLemmas.{answers, first_none, first_more}
use Rattle.rl_program.proofs.list.literal_lines.Goals as goal

pub loop-literal-init : goal.loop-literal-init
loop-literal-init g c = record { has = first_none c.args.text.now c.new-literals.result c.new.result c.new.ensures.bytes c.new-literals.ensures }

pub loop-literal-preserved : goal.loop-literal-preserved
loop-literal-preserved g c =
    let has = c.loop-literal.invariant.has in
    let returned = c.in-Ok-Some.ensures.returns c.args.text.now 0 has.list has.returned in
    let next = subst (λ (f : Option (Lit g.row.A.Denot)). ReturnsNext c.args.text.now 0 has.list (Ok f) c.next.new.self)
    c.in-Ok-Some.field-0-is returned in
    record { has = first_more c.args.text.now c.loop-literal.literals c.next.new.self c.loop-literal.lines c.with_line-lines.result c.in-Ok-Some.literal has next c.with_line-lines.ensures }

pub returns-in-Ok-None-clause-lines : goal.returns-in-Ok-None-clause-lines
returns-in-Ok-None-clause-lines g c =
    let has = c.loop-literal.invariant.has in
    let returned = c.in-Ok-None.ensures.returns c.args.text.now 0 has.list has.returned in
    let ended = subst (λ (f : Option (Lit g.row.A.Denot)). ReturnsNext c.args.text.now 0 has.list (Ok f)
    c.next.new.self) c.in-Ok-None.field-0-is returned in
    (answers c.args.text.now has.list c.loop-literal.lines c.ok_or.result ended.0 has.lines_are
    c.ok_or.ensures.value).lines

pub returns-in-Ok-None-clause-rejection : goal.returns-in-Ok-None-clause-rejection
returns-in-Ok-None-clause-rejection g c =
    let has = c.loop-literal.invariant.has in
    let returned = c.in-Ok-None.ensures.returns c.args.text.now 0 has.list has.returned in
    let ended = subst (λ (f : Option (Lit g.row.A.Denot)). ReturnsNext c.args.text.now 0 has.list (Ok f)
    c.next.new.self) c.in-Ok-None.field-0-is returned in
    (answers c.args.text.now has.list c.loop-literal.lines c.ok_or.result ended.0 has.lines_are
    c.ok_or.ensures.value).rejection

pub returns-in-Err-clause-rejection : goal.returns-in-Err-clause-rejection
returns-in-Err-clause-rejection g c =
    let has = c.loop-literal.invariant.has in
    (c.utf8.text, (c.in-Err.ensures.returns c.args.text.now 0 has.list has.returned).0)
