-- The laws of src/laws.rt, as lemmas that callers can cite.
use Rattle.rl_lenient.specs.PartLaws.{AnIntegerHasOneBase, AFloatHasOneOfEachPart}
use Rattle.rl_lenient.proofs.PartLemmas.{one_integer_of, one_float_of}

pub an_integer_has_one_base : AnIntegerHasOneBase
an_integer_has_one_base = one_integer_of

pub a_float_has_one_of_each_part : AFloatHasOneOfEachPart
a_float_has_one_of_each_part = one_float_of
