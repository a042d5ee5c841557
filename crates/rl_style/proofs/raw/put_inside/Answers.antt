use Rattle.rl_syntax.proofs.Common.{length, arith, not-true}
use Rattle.rl_style.proofs.Room.{bare_bytes, grown_hidden, grown_least, not-false}
use Rattle.rl_style.proofs.raw.put_inside.Goals as goal

pub put_text-requires : goal.put_text-requires
put_text-requires c = omega (arith, grown_least c.args.style (length c.args.inside.now), c.requires.room)

pub returns-then-not-style-clause-end : goal.returns-then-not-style-clause-end
returns-then-not-style-clause-end c =
    omega (arith, grown_least c.args.style (length c.args.inside.now), c.put_text.ensures.end)

pub returns-then-not-style-clause-bytes : goal.returns-then-not-style-clause-bytes
returns-then-not-style-clause-bytes c =
    let shows = not-true c.args.style.hidden c.if-not-style.true in
    bare_bytes c.args.style c.args.inside.now _ _ c.utf8.inside shows (c.requires.bare shows) c.put_text.ensures.bytes

pub put_raw_inside-requires : goal.put_raw_inside-requires
put_raw_inside-requires c =
    omega (
      arith,
      grown_hidden c.args.style (length c.args.inside.now) (not-false c.args.style.hidden c.if-not-style.false),
      c.requires.room,
    )

pub returns-clause-end : goal.returns-clause-end
returns-clause-end c =
    omega (
      arith,
      grown_hidden c.args.style (length c.args.inside.now) (not-false c.args.style.hidden c.if-not-style.false),
      c.put_raw_inside.ensures.end,
    )
