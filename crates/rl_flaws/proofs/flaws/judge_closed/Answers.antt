use Rattle.rl_flaws.proofs.Names.{◌≡◌, ◌∷◌, ◌∙◌, ap, arith, rules, sym, IsUtf8, chars}
use Rattle.rl_flaws.proofs.ClosedLemmas.{begins_quote, closed_none, closed_piece, closed_stop, closed_takes}
use Rattle.rl_flaws.proofs.WalkLemmas.{rest_room}
use Rattle.rl_flaws.proofs.flaws.judge_closed.Goals as goal

pub invalid_piece_with_offsets-requires : goal.invalid_piece_with_offsets-requires
invalid_piece_with_offsets-requires c =
    let quote : chars c.args.closing.now ≡ 39 ∷ chars c.without_first_char-suffix.result.now =
    begins_quote _ c.requires.1 ∙ ap (λ z. 39 ∷ z) (sym c.without_first_char-suffix.ensures.rest) in
    let piece : IsUtf8 c.in-Some.found.piece.now = search rules in
    let rest : IsUtf8 c.in-Some.found.rest.now = search rules in
    let fits = rest_room c.args.ends _ _ c.requires.3 piece
    (closed_piece c.args.ends _ _ _ c.in-Some.found.kind quote c.in-Some.ensures.piece) in
    let room = rest_room c.args.ends _ _ c.requires.3 rest
    (closed_stop c.args.ends _ _ c.in-Some.found quote c.in-Some.ensures.flaw) in
    record { piece = omega (arith, fits, c.requires.2); rest = omega (arith, room, c.requires.2) }

pub returns-in-None-clause-gives : goal.returns-in-None-clause-gives
returns-in-None-clause-gives c =
    let quote : chars c.args.closing.now ≡ 39 ∷ chars c.without_first_char-suffix.result.now =
    begins_quote _ c.requires.1 ∙ ap (λ z. 39 ∷ z) (sym c.without_first_char-suffix.ensures.rest) in
    closed_none c.args.ends c.args.kind c.args.closing _ _ c.requires.0 quote c.in-None.ensures.flaw

pub returns-in-Some-clause-gives : goal.returns-in-Some-clause-gives
returns-in-Some-clause-gives c =
    let quote : chars c.args.closing.now ≡ 39 ∷ chars c.without_first_char-suffix.result.now =
    begins_quote _ c.requires.1 ∙ ap (λ z. 39 ∷ z) (sym c.without_first_char-suffix.ensures.rest) in
    let piece : IsUtf8 c.in-Some.found.piece.now = search rules in
    let rest : IsUtf8 c.in-Some.found.rest.now = search rules in
    closed_takes c.args.ends c.args.kind c.args.closing _ _ _ c.in-Some.found _ c.requires.0 quote piece rest
    c.in-Some.ensures.flaw c.in-Some.ensures.piece c.invalid_piece_with_offsets.ensures.kind c.invalid_piece_with_offsets.ensures.from c.invalid_piece_with_offsets.ensures.lo
    c.invalid_piece_with_offsets.ensures.hi c.invalid_piece_with_offsets.ensures.end
