use Rattle.rl_syntax.proofs.Common.{both_ways, sym}
use Rattle.std.proofs.lemmas.Slice.Eq.{bytes_eq-Decides}
use Rattle.rl_restyle.proofs.NewTexts.{same_bytes}
use Rattle.rl_restyle.proofs.texts.other_text.Goals as goal

pub returns-clause-differs : goal.returns-clause-differs
returns-clause-differs g c = λ same.
    let e = same_bytes c.args.new.now c.args.old.now c.utf8.new c.utf8.old same in
    both_ways _ (sym c.if-eq.ensures) ((bytes_eq-Decides c.args.new.now c.args.old.now).1 e)
