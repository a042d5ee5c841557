use Rattle.rl_syntax.proofs.Common.{◌<◌, arith, refl}
use Rattle.rl_lenient.proofs.Names.{Byte}
use Rattle.rl_lenient.proofs.FoundContents.{unit_of}
use Rattle.rl_lenient.proofs.contents.byte_of.Goals as goal

pub parse_known_literal-requires : goal.parse_known_literal-requires
parse_known_literal-requires c = (Byte, c.requires)

pub overflow_cast-result : goal.overflow_cast-result
overflow_cast-result c =
    let f = c.parse_known_literal.ensures in
    let small : c.parse_known_literal.result.unit < 256 = (unit_of Byte _ _ (f.kind Byte c.requires) refl f.found).byte refl in
    omega arith

pub returns : goal.returns
returns c =
    let f = c.parse_known_literal.ensures in record { reads = (unit_of Byte _ _ (f.kind Byte c.requires) refl f.found).reads }
