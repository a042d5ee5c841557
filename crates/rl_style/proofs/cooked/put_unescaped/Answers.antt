use Rattle.rl_syntax.proofs.Common.{length, arith, not-true}
use Rattle.rl_style.proofs.Room.{grown_hidden, grown_least, not-false, shown_bytes}
use Rattle.rl_style.proofs.cooked.put_unescaped.Goals as goal

pub put_text-requires : goal.put_text-requires
put_text-requires c = omega (arith, grown_least c.args.style (length c.args.unit.now), c.requires.room)

pub returns-then-not-style-clause-end : goal.returns-then-not-style-clause-end
returns-then-not-style-clause-end c =
    omega (arith, grown_least c.args.style (length c.args.unit.now), c.put_text.ensures.end)

pub returns-then-not-style-clause-bytes : goal.returns-then-not-style-clause-bytes
returns-then-not-style-clause-bytes c = shown_bytes c.args.style c.args.kind c.args.byte c.args.unit.now _ _ c.utf8.unit
    (not-true c.args.style.hidden c.if-not-style.true) c.requires.plain c.put_text.ensures.bytes

pub put_plain-requires-clause-room : goal.put_plain-requires-clause-room
put_plain-requires-clause-room c =
    omega (
      arith,
      grown_hidden c.args.style (length c.args.unit.now) (not-false c.args.style.hidden c.if-not-style.false),
      c.requires.room,
    )

pub returns-clause-end : goal.returns-clause-end
returns-clause-end c =
    omega (
      arith,
      grown_hidden c.args.style (length c.args.unit.now) (not-false c.args.style.hidden c.if-not-style.false),
      c.put_plain.ensures.end,
    )
