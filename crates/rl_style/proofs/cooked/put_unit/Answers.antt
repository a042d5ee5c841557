use Rattle.rl_syntax.proofs.Common.{length, arith}
use Rattle.rl_style.proofs.Room.{grown_least}
use Rattle.rl_style.proofs.cooked.put_unit.Goals as goal

pub put_escape-requires-clause-room : goal.put_escape-requires-clause-room
put_escape-requires-clause-room c =
    omega (arith, grown_least c.args.style (length c.args.unit.now), c.requires.room)

pub returns-in-Some-clause-end : goal.returns-in-Some-clause-end
returns-in-Some-clause-end c =
    omega (arith, grown_least c.args.style (length c.args.unit.now), c.put_escape.ensures.end)
