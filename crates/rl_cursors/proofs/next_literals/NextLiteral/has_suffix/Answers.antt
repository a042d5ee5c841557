use Rattle.rl_cursors.specs.NextLiterals.{whole_text}
use Rattle.rl_cursors.proofs.NextValueLemmas.{finds, suffix_told}
use Rattle.rl_cursors.proofs.next_literals.NextLiteral.has_suffix.Goals as goal

pub returns-in-Some-clause-reads : goal.returns-in-Some-clause-reads
returns-in-Some-clause-reads c =
    let t = whole_text c.args.self.now in
    suffix_told t c.in-Some.found c.ends_at.result c.ends_at.ensures.utf8
    (finds t c.args.self.now.found c.in-Some.found c.in-Some.is c.requires) c.ends_at.ensures.ends
