use Rattle.rl_syntax.proofs.Common.{◌<◌, ap, sym, ◌∙◌, rules}
use Rattle.rl_lenient.proofs.Names.{IsScalar}
use Rattle.rl_lenient.specs.Mirrors.UnitAt.{piece_value}
use Rattle.rl_lenient.proofs.SingleBodies.{character_unit, byte_unit}
use Rattle.rl_lenient.proofs.units.piece_code.Goals as goal

pub returns-in-Character : goal.returns-in-Character
returns-in-Character c =
    let scalar : IsScalar c.in-Character.c = search rules in
    rw c.in-Character.is (character_unit _ _ _ c.requires.single scalar
    (ap (piece_value c.args.kind) (sym c.in-Character.is) ∙ c.requires.one.1))

pub returns-in-Byte : goal.returns-in-Byte
returns-in-Byte c =
    let small : c.in-Byte.b < 256 = search rules in rw c.in-Byte.is (byte_unit _ _ c.requires.single small)
