use Rattle.rust_literals.proofs.Theorems.{a_peek_tells_a_literal, a_peek_tells_a_bool, a_peek_tells_the_kind}
use Rattle.rust_literals.proofs.laws.peek_agrees_with_the_parsers.Goals as goal

pub returns-clause-literal : goal.returns-clause-literal
returns-clause-literal g c = a_peek_tells_a_literal

pub returns-clause-truth : goal.returns-clause-truth
returns-clause-truth g c = a_peek_tells_a_bool

pub returns-clause-typed : goal.returns-clause-typed
returns-clause-typed g c = a_peek_tells_the_kind
