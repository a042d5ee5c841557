use Rattle.rl_strict.proofs.Names.{ap, refl, subst, sym, [], ◌++◌, ◌∙◌, ◌+◌, chars, tail_drop, first_len, IsRestOf, Text}
use Rattle.rl_strict.proofs.EndLemmas.{self_in}
use Rattle.rl_strict.proofs.FilePlaces.{after_at, front_at}
use Rattle.rl_strict.proofs.LimitLemmas.{front_of}
use Rattle.rl_strict.proofs.limits.flaw_above_128_bits.Goals as goal

pub flaw_with_offsets-requires : goal.flaw_with_offsets-requires
flaw_with_offsets-requires c =
    let tail = tail_drop c.args.text.now c.range_from.result.now c.args.suffix_at c.range_from.ensures.value
    c.range_from.utf8 in
    let cut = front_of c.args.text.now c.range_from.result.now c.utf8.text tail in
    let rest = c.with_piece-found.ensures.1 ∙ c.make_flaw.ensures.1 in
    record {
      piece = subst (λ z. IsRestOf Text (chars c.args.text.now) (chars z)) (sym c.with_piece-found.ensures.2)
          (self_in Text (chars c.args.text.now));
      rest = record { front = cut.0; text_is = cut.1 ∙ ap (λ z. cut.0 ++ chars z) (sym rest); seam = refl };
    }

pub returns : goal.returns
returns c =
    let past = c.requires.past in
    let tail = tail_drop c.args.text.now c.range_from.result.now c.args.suffix_at c.range_from.ensures.value
    c.range_from.utf8 in
    let cut = front_of c.args.text.now c.range_from.result.now c.utf8.text tail in
    let suffix = past.1 ∙ ap chars (sym c.range_from.ensures.value) in
    let rest = c.with_piece-found.ensures.1 ∙ c.make_flaw.ensures.1 in
    let text_is = cut.1 ∙ ap (λ z. cut.0 ++ chars z) (sym rest) in
    let lo = front_at _ _ cut.0 _ c.flaw_with_offsets.ensures.lo text_is in
    record {
      past = past.0;
      number = cut.0;
      text_is = cut.1 ∙ ap (λ z. cut.0 ++ z) (sym suffix);
      kind_is = c.flaw_with_offsets.ensures.kind ∙ c.with_piece-found.ensures.0 ∙ c.make_flaw.ensures.0;
      from_is = front_at _ _ [] _ c.flaw_with_offsets.ensures.from (ap chars (sym c.with_piece-found.ensures.2));
      lo_is = lo;
      hi_is = after_at _ _ cut.0 _ c.flaw_with_offsets.ensures.hi text_is
          ∙ ap (λ z. z + first_len (chars c.with_piece-found.result.rest.now)) (sym lo)
          ∙ ap (λ z. c.flaw_with_offsets.result.lo + first_len z) (ap chars rest ∙ sym suffix);
    }
