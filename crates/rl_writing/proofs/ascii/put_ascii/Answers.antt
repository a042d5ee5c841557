use Rattle.rl_syntax.proofs.Common.{◌++◌, take, ap, length, ◌∙◌, arith}
use Rattle.rl_writing.proofs.AsciiLaws.{low_bytes}
use Rattle.rl_writing.proofs.ascii.put_ascii.Goals as goal

pub put_text-requires : goal.put_text-requires
put_text-requires c =
    let bytes = low_bytes c.args.kind c.args.c _ c.requires.kind c.ranges.c.0 c.if-c-ge128.false c.in-Some.ensures.some
    in
    omega (arith, ap length bytes, c.requires.room)

pub returns-in-Some-clause-end : goal.returns-in-Some-clause-end
returns-in-Some-clause-end c =
    let bytes = low_bytes c.args.kind c.args.c _ c.requires.kind c.ranges.c.0 c.if-c-ge128.false c.in-Some.ensures.some
    in
    omega (arith, ap length bytes, c.put_text.ensures.end)

pub returns-in-Some-clause-bytes : goal.returns-in-Some-clause-bytes
returns-in-Some-clause-bytes c =
    let bytes = low_bytes c.args.kind c.args.c _ c.requires.kind c.ranges.c.0 c.if-c-ge128.false c.in-Some.ensures.some
    in
    c.put_text.ensures.bytes ∙ ap (λ z. take c.args.at c.args.out.now ++ z) bytes
