use Rattle.rl_syntax.proofs.Common.{arith}
use Rattle.rl_writing.proofs.UnicodeLemmas.{digits_fit, escape_pieces}
use Rattle.rl_writing.proofs.ascii.put_unicode_escape.Goals as goal

pub put_grouped-at-requires : goal.put_grouped-at-requires
put_grouped-at-requires c =
    let fit = digits_fit c.args.c _ _ c.put_digits_reversed-count.ensures.digits c.from.ensures in
    omega (arith, fit, c.requires, c.put-at.ensures.end, c.put-at.ensures.len)

pub put_byte-requires : goal.put_byte-requires
put_byte-requires c =
    let fit = digits_fit c.args.c _ _ c.put_digits_reversed-count.ensures.digits c.from.ensures in
    omega (
      arith,
      fit,
      c.requires,
      c.put-at.ensures.end,
      c.put-at.ensures.len,
      c.put_grouped-at.ensures.end,
      c.put_grouped-at.ensures.len,
    )

pub returns-clause-end : goal.returns-clause-end
returns-clause-end c =
    let fit = digits_fit c.args.c _ _ c.put_digits_reversed-count.ensures.digits c.from.ensures in
    omega (arith, fit, c.put-at.ensures.end, c.put_grouped-at.ensures.end, c.put_byte.ensures.end)

pub returns-clause-bytes : goal.returns-clause-bytes
returns-clause-bytes c = escape_pieces c.args.c _ _ _ _ _ _ c.put-at.ensures.bytes c.put_grouped-at.ensures.bytes
    c.put_byte.ensures.bytes c.put_digits_reversed-count.ensures.digits c.from.ensures
