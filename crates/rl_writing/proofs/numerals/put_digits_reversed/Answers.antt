use Rattle.rl_syntax.proofs.Common.{length, refl, ◌∙◌, inl, inr, arith}
use Rattle.rl_writing.proofs.NumeralLemmas.{before_nothing, count_left, fits_more, put_first, put_more}
use Rattle.rl_writing.proofs.numerals.put_digits_reversed.Goals as goal

pub loop-left-init : goal.loop-left-init
loop-left-init c = record {
  digits = before_nothing c.args.radix c.args.upper c.args.value;
  fits = omega (arith, c.requires.room);
  some = inr refl;
  len = refl;
}

pub put_byte-count-requires : goal.put_byte-count-requires
put_byte-count-requires c =
    let l = c.loop-left in
    let left = count_left l.left l.count (length c.args.room.now) c.requires.some l.invariant.fits l.invariant.some in
    omega (arith, left, l.invariant.len)

pub returns-then-left-eq0-clause-digits : goal.returns-then-left-eq0-clause-digits
returns-then-left-eq0-clause-digits c =
    let l = c.loop-left in
    let d = c.divided-rest in
    put_first c.args.radix c.args.upper l.left d.result.0 d.result.1 c.digit.result _ _ _ d.ensures.quotient
    d.ensures.rest
    c.put_byte-count.ensures.bytes c.digit.ensures c.if-left-eq0.true l.invariant.digits

pub returns-then-left-eq0-clause-within : goal.returns-then-left-eq0-clause-within
returns-then-left-eq0-clause-within c =
    let l = c.loop-left in
    let left = count_left l.left l.count (length c.args.room.now) c.requires.some l.invariant.fits l.invariant.some in
    omega (arith, left, l.invariant.len, c.put_byte-count.ensures.end, c.put_byte-count.ensures.len)

pub loop-left-preserved : goal.loop-left-preserved
loop-left-preserved c =
    let l = c.loop-left in
    let d = c.divided-rest in
    record {
      digits = put_more c.args.radix c.args.upper l.left d.result.0 d.result.1 c.digit.result _ _ _ c.requires.low
          d.ensures.quotient d.ensures.rest c.put_byte-count.ensures.bytes c.digit.ensures c.if-left-eq0.false
          l.invariant.digits;
      fits = fits_more l.left d.result.0 c.args.radix l.count c.put_byte-count.result _ c.requires.low
          d.ensures.quotient
          c.put_byte-count.ensures.end l.invariant.fits;
      some = inl (omega (arith, c.if-left-eq0.false));
      len = c.put_byte-count.ensures.len ∙ l.invariant.len;
    }
