use Rattle.std.proofs.Common.{refl, sym, ◌∙◌}
use Rattle.rust_literals.specs.Flat.{ReadsNext}
use Rattle.rust_literals.proofs.FlatLemmas.{empty_text, the_some, when_some}
use Rattle.rust_literals.proofs.IteratingLemmas.{none_left, lex_next, cut_lower}
use Rattle.rust_literals.proofs.literals.Literals.lex_next.Goals as goal

pub returns-then-is_empty-clause-returns : goal.returns-then-is_empty-clause-returns
returns-then-is_empty-clause-returns g c none text file taken h =
    none_left text file taken c.args.self.now none h (sym c.rest.ensures
    ∙ empty_text c.rest.result.now (sym c.is_empty.ensures ∙ c.if-is_empty.true))

pub returns-in-Ok-Some-clause-returns : goal.returns-in-Ok-Some-clause-returns
returns-in-Ok-Some-clause-returns g c none text file taken h =
    let old = c.args.self.now in
    let cut = the_some (λ lit. ReadsNext old.file c.fork-ahead.result lit c.take_next.new.tokens) c.in-Ok-Some.field-0
    c.in-Ok-Some.literal c.in-Ok-Some.field-0-is c.in-Ok-Some.ensures.next in
    lex_next text file taken old _ c.in-Ok-Some.literal c.take_next.new.tokens none h (rw c.fork-ahead.ensures at cut)
    refl refl refl refl refl

pub returns-in-Ok-Some-clause-shorter : goal.returns-in-Ok-Some-clause-shorter
returns-in-Ok-Some-clause-shorter g c none =
    let fewer = when_some c.in-Ok-Some.field-0 c.in-Ok-Some.literal c.in-Ok-Some.field-0-is c.in-Ok-Some.ensures.shorter
    in
    cut_lower c.args.self.now _ none (rw c.fork-ahead.ensures at fewer)
