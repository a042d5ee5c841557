use Rattle.rl_syntax.proofs.Common.{List, ap, chars, subst, sym, ◌++◌, ◌∙◌, ◌≡◌}
use Rattle.std.proofs.lemmas.List.{append-nil}
use Rattle.rust_literals.specs.declared.lit.Lit.{Lit}
use Rattle.rust_literals.specs.Flat.{AreFirst}
use Rattle.rust_literals.proofs.read.read_after.Given as given
use Rattle.rust_literals.proofs.read.read_after.Goals as goal

-- If the empty list that `read_after` passes to `read_from` is appended to the first literals of a text, the result is
-- these first literals.
none_more : (g : given.Over) (c : goal.After-read_from g) (first : List (Lit g.row.A.Denot))
    → AreFirst (chars c.args.text.now) c.args.file c.args.count first
    → AreFirst (chars c.args.text.now) c.args.file c.args.count (first ++ c.new.result.items)
none_more g c first are =
    let none : first ++ c.new.result.items ≡ first = ap (λ xs. first ++ xs) c.new.ensures.items ∙ append-nil first in
    subst (λ ls. AreFirst (chars c.args.text.now) c.args.file c.args.count ls) (sym none) are

pub returns-clause-read : goal.returns-clause-read
returns-clause-read g c = λ first are. c.read_from.ensures.read first (none_more g c first are)

pub returns-clause-rejected : goal.returns-clause-rejected
returns-clause-rejected g c = λ first are. c.read_from.ensures.rejected first (none_more g c first are)
