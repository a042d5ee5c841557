use Rattle.rl_fronts.proofs.digits.digits_of.Goals as goal

pub digits_of_found-requires : goal.digits_of_found-requires
digits_of_found-requires g c = c.found_number.ensures.found

pub returns-clause-value : goal.returns-clause-value
returns-clause-value g c = rw c.found_number.ensures.kind at c.digits_of_found.ensures.value
