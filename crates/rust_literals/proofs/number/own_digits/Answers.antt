use Rattle.std.proofs.Common.{refl}
use Rattle.rust_literals.proofs.HeldLemmas.{holds_number, holds_lent, found_number}
use Rattle.rust_literals.proofs.number.own_digits.Goals as goal

pub returns-then-found-clause-held : goal.returns-then-found-clause-held
returns-then-found-clause-held g c = holds_lent c.args.found.kind c.args.text.now c.args.found c.utf8.text c.requires
    refl c.if-found.true

pub returns-then-found-clause-number : goal.returns-then-found-clause-number
returns-then-found-clause-number g c = found_number c.args.found.kind c.args.text.now c.args.found c.utf8.text
    c.requires refl

pub returns-in_err-digits_of_found-clause-number : goal.returns-in_err-digits_of_found-clause-number
returns-in_err-digits_of_found-clause-number g c = found_number c.args.found.kind c.args.text.now c.args.found
    c.utf8.text c.requires refl

pub returns-clause-held : goal.returns-clause-held
returns-clause-held g c = holds_number c.args.found.kind c.args.text.now _ c.args.found c.utf8.text c.requires refl
    c.in_ok-digits_of_found.ensures.value

pub returns-clause-number : goal.returns-clause-number
returns-clause-number g c = found_number c.args.found.kind c.args.text.now c.args.found c.utf8.text c.requires refl
