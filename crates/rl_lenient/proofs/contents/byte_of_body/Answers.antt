use Rattle.rl_syntax.proofs.Common.{◌<◌, arith, refl}
use Rattle.rl_lenient.proofs.contents.byte_of_body.Goals as goal

pub overflow_cast-result : goal.overflow_cast-result
overflow_cast-result c =
    let small : c.body_unit.result < 256 = (c.body_unit.ensures c.requires.0 c.requires.1).byte refl in omega arith

pub returns : goal.returns
returns c = λ t has. (c.body_unit.ensures t has).reads
