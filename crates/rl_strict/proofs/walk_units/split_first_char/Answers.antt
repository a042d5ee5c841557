use Rattle.rl_strict.proofs.UnitForms.{kept_in, kept_read}
use Rattle.rl_strict.proofs.walk_units.split_first_char.Goals as goal

pub returns-in_ok-first-in-None-clause-chars : goal.returns-in_ok-first-in-None-clause-chars
returns-in_ok-first-in-None-clause-chars c = kept_read c.args.ends _ _ _ c.in_ok-first-in-None.ensures.chars
    (c.in-None.ensures.none _ _ c.in_ok-first-in-None.ensures.chars)

pub returns-in_ok-first-in-None-clause-rest : goal.returns-in_ok-first-in-None-clause-rest
returns-in_ok-first-in-None-clause-rest c = kept_in c.args.ends _ _ _ c.in_ok-first-in-None.ensures.chars
    (c.in-None.ensures.none _ _ c.in_ok-first-in-None.ensures.chars)
