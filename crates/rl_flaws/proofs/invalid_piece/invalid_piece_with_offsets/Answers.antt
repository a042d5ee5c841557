use Rattle.rl_flaws.proofs.Names.{arith, chars}
use Rattle.rl_syntax.proofs.Rests.{tail_length}
use Rattle.rl_flaws.proofs.PlaceLemmas.{place_at}
use Rattle.rl_flaws.proofs.invalid_piece.invalid_piece_with_offsets.Goals as goal

pub returns-clause-hi : goal.returns-clause-hi
returns-clause-hi c = place_at c.args.ends c.args.len (chars c.args.found.rest.now) _ _ _
    c.skip_first_char.ensures.following.is_text c.skip_first_char.ensures.rest c.skip_first_char.ensures.read
    (omega (arith, c.requires.rest, tail_length _ _ c.skip_first_char.ensures.following))
