use Rattle.rl_strict.proofs.Names.{◌∙◌, ap, drops}
use Rattle.rl_strict.proofs.UnitForms.{line_in, line_of}
use Rattle.rl_strict.proofs.walk_units.after_line_end.Goals as goal

pub returns-in-Text-clause-none : goal.returns-in-Text-clause-none
returns-in-Text-clause-none c = λ first following e. ap (λ how. drops how first following) c.in-Text.is

pub returns-in-Some-clause-read : goal.returns-in-Some-clause-read
returns-in-Some-clause-read c = line_of c.args.ends _ _ c.in-File.is c.in-Some.ensures.some

pub returns-in-Some-clause-rest : goal.returns-in-Some-clause-rest
returns-in-Some-clause-rest c = line_in c.args.ends _ _ c.in-Some.ensures.some

pub returns-in-None-clause-none : goal.returns-in-None-clause-none
returns-in-None-clause-none c = λ first following e. ap (λ how. drops how first following) c.in-File.is
    ∙ c.in-None.ensures.none first following e
