use Rattle.rl_flaws.proofs.Names.{◌&&◌, not, arith, inr, refl, rules, IsUtf8, IfErr-at_err, IfOk-at_ok, is_flaw_after_quote, is_flaw_of_unit}
use Rattle.rl_syntax.specs.Quoted.{is_single, is_string}
use Rattle.rl_flaws.proofs.WalkLemmas.{rest_room}
use Rattle.rl_flaws.proofs.FlawLemmas.{inside_bad, inside_left, inside_less, inside_takes, stays_open}
use Rattle.rl_flaws.proofs.PieceLemmas.{good_left}
use Rattle.rl_flaws.proofs.flaws.next_flaw_inside.Goals as goal

pub invalid_piece_with_offsets-requires : goal.invalid_piece_with_offsets-requires
invalid_piece_with_offsets-requires c =
    let piece : IsUtf8 c.in-Err.found.piece.now = search rules in
    let rest : IsUtf8 c.in-Err.found.rest.now = search rules in
    let fits = rest_room c.args.ends _ _ c.requires.2 piece (IfErr-at_err _ c.in-Err.is c.parse_quoted_content-stretch.ensures.piece) in
    let room = rest_room c.args.ends _ _ c.requires.2 rest (IfErr-at_err _ c.in-Err.is c.parse_quoted_content-stretch.ensures.stop) in
    record { piece = omega (arith, fits, c.requires.1); rest = omega (arith, room, c.requires.1) }

pub returns-in-Ok-clause-gives : goal.returns-in-Ok-clause-gives
returns-in-Ok-clause-gives c = record {
  none = inr (IfOk-at_ok _ c.in-Ok.is c.parse_quoted_content-stretch.ensures.token);
  over = refl;
  same = record { same_ends = refl; same_len = refl };
}

pub returns-in-Err : goal.returns-in-Err
returns-in-Err c =
    let piece : IsUtf8 c.in-Err.found.piece.now = search rules in
    let rest : IsUtf8 c.in-Err.found.rest.now = search rules in
    let closing : IsUtf8 c.parse_quoted_content-stretch.result.closing.now = search rules in
    let piece_in = IfErr-at_err _ c.in-Err.is c.parse_quoted_content-stretch.ensures.piece in
    let stop_in = IfErr-at_err _ c.in-Err.is c.parse_quoted_content-stretch.ensures.stop in
    let room = rest_room c.args.ends _ _ c.requires.2 piece piece_in in
    record {
      gives = inside_takes c.args.ends c.args.opened c.args.rest _ _ _ _ _ piece_in c.invalid_piece_with_offsets.ensures.kind
          (inside_bad c.args.ends c.args.opened c.args.rest _ _ c.in-Err.found _ piece rest piece_in stop_in
          (IfErr-at_err _ c.in-Err.is c.parse_quoted_content-stretch.ensures.flaw) c.quote.ensures.value
          c.invalid_piece_with_offsets.ensures.kind c.invalid_piece_with_offsets.ensures.from c.invalid_piece_with_offsets.ensures.lo c.invalid_piece_with_offsets.ensures.hi c.invalid_piece_with_offsets.ensures.end)
          c.requires.0 c.left_after.ensures;
      less = inside_less c.args.ends c.args.opened c.args.rest _ _ (is_string c.args.opened.kind)
          (is_flaw_of_unit c.in-Err.found.kind)
          (is_single c.args.opened.kind && not (is_flaw_after_quote c.in-Err.found.kind)) _ room
          (IfErr-at_err _ c.in-Err.is c.parse_quoted_content-stretch.ensures.some) c.left_after.ensures;
      left = inside_left c.args.ends c.args.opened c.args.rest _ _
          (is_string c.args.opened.kind && is_flaw_of_unit c.in-Err.found.kind) (is_single c.args.opened.kind)
          (not (is_flaw_after_quote c.in-Err.found.kind)) _ c.requires room refl c.left_after.ensures;
      same = stays_open c.args.ends _ _ _ (is_string c.args.opened.kind && is_flaw_of_unit c.in-Err.found.kind)
          (is_single c.args.opened.kind && not (is_flaw_after_quote c.in-Err.found.kind)) _ c.left_after.ensures;
      good = good_left c.args.ends c.args.opened c.args.rest _ _ _ _ c.requires.0 c.requires.1 c.before-good.utf8 closing
          c.before-good.ensures.cut c.before-good.ensures.chars c.parse_quoted_content-stretch.ensures.good
          c.parse_quoted_content-stretch.ensures.rest refl;
    }

pub returns-in-Ok-clause-good : goal.returns-in-Ok-clause-good
returns-in-Ok-clause-good c =
    let closing : IsUtf8 c.parse_quoted_content-stretch.result.closing.now = search rules in
    good_left c.args.ends c.args.opened c.args.rest _ _ _ _ c.requires.0 c.requires.1 c.before-good.utf8 closing
    c.before-good.ensures.cut c.before-good.ensures.chars c.parse_quoted_content-stretch.ensures.good
    c.parse_quoted_content-stretch.ensures.rest refl
