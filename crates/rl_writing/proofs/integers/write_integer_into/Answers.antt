use Rattle.rl_syntax.proofs.Common.{◌∙◌, arith}
use Rattle.rl_writing.specs.Integers.{base_view}
use Rattle.rl_writing.proofs.GroupLemmas.{count_is, grouped_short}
use Rattle.rl_writing.proofs.IntegerLaws.{prefix_short, written_bytes, written_is, written_utf8}
use Rattle.rl_writing.proofs.integers.write_integer_into.Goals as goal

pub returns-clause-written : goal.returns-clause-written
returns-clause-written c =
    let bytes = written_bytes c.args.value c.args.style c.args.suffix _ _ _ _ _ c.radix.result
    c.digit_group_size-size.result c.put_digits_reversed-count.result c.put_text.ensures.bytes
    c.put_grouped-at.ensures.bytes (c.put_text-at.ensures.bytes ∙ c.prefix.ensures)
    c.put_digits_reversed-count.ensures.digits c.radix.ensures c.digit_group_size-size.ensures
    (count_is c.put_digits_reversed-count.result c.put_digits_reversed-count.new.room c.put_digits_reversed-count.ensures.within)
    c.suffix_of.ensures.text in
    written_is c.args.value c.args.style c.args.suffix _ c.ranges.value.fits bytes

pub returns-clause-utf8 : goal.returns-clause-utf8
returns-clause-utf8 c =
    let bytes = written_bytes c.args.value c.args.style c.args.suffix _ _ _ _ _ c.radix.result
    c.digit_group_size-size.result c.put_digits_reversed-count.result c.put_text.ensures.bytes
    c.put_grouped-at.ensures.bytes (c.put_text-at.ensures.bytes ∙ c.prefix.ensures)
    c.put_digits_reversed-count.ensures.digits c.radix.ensures c.digit_group_size-size.ensures
    (count_is c.put_digits_reversed-count.result c.put_digits_reversed-count.new.room c.put_digits_reversed-count.ensures.within)
    c.suffix_of.ensures.text in
    written_utf8 c.args.value c.args.style c.args.suffix _ bytes

pub put_grouped-at-requires : goal.put_grouped-at-requires
put_grouped-at-requires c =
    let digits = grouped_short c.digit_group_size-size.result c.put_digits_reversed-count.result 128 c.put_digits_reversed-count.new.room
    (omega (arith, c.put_digits_reversed-count.ensures.within, c.put_digits_reversed-count.ensures.len)) in
    omega (
      arith,
      digits,
      prefix_short (base_view c.args.style.base) c.prefix.result.now c.prefix.ensures,
      c.put_text-at.ensures.end,
      c.put_text-at.ensures.len,
      c.requires,
    )

pub put_text-requires : goal.put_text-requires
put_text-requires c =
    let digits = grouped_short c.digit_group_size-size.result c.put_digits_reversed-count.result 128 c.put_digits_reversed-count.new.room
    (omega (arith, c.put_digits_reversed-count.ensures.within, c.put_digits_reversed-count.ensures.len)) in
    omega (
      arith,
      digits,
      prefix_short (base_view c.args.style.base) c.prefix.result.now c.prefix.ensures,
      c.put_text-at.ensures.end,
      c.put_text-at.ensures.len,
      c.requires,
      c.put_grouped-at.ensures.end,
      c.put_grouped-at.ensures.len,
      c.suffix_of.ensures.short,
    )

pub returns-clause-within : goal.returns-clause-within
returns-clause-within c =
    let digits = grouped_short c.digit_group_size-size.result c.put_digits_reversed-count.result 128 c.put_digits_reversed-count.new.room
    (omega (arith, c.put_digits_reversed-count.ensures.within, c.put_digits_reversed-count.ensures.len)) in
    omega (
      arith,
      digits,
      prefix_short (base_view c.args.style.base) c.prefix.result.now c.prefix.ensures,
      c.put_text-at.ensures.end,
      c.put_grouped-at.ensures.end,
      c.suffix_of.ensures.short,
      c.put_text.ensures.end,
    )
