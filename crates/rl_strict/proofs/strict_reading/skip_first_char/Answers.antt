use Rattle.rl_strict.proofs.Names.{◌∙◌, ap, drop, sym}
use Rattle.rl_strict.proofs.EndLemmas.{nil_of, self_in}
use Rattle.rl_strict.proofs.strict_reading.skip_first_char.Goals as goal

pub returns-in-None-clause-rest : goal.returns-in-None-clause-rest
returns-in-None-clause-rest c = self_in c.args.ends _

pub returns-in-None-clause-read : goal.returns-in-None-clause-read
returns-in-None-clause-read c =
    let none = nil_of c.args.ends _ c.in-None.ensures.chars in
    none ∙ sym (ap (drop 1) none)
