use Rattle.rl_flaws.proofs.Names.{arith, chars}
use Rattle.rl_syntax.proofs.Rests.{tail_length}
use Rattle.rl_flaws.proofs.PlaceLemmas.{ends_there, place_at}
use Rattle.rl_flaws.proofs.invalid_piece.end_of.Goals as goal

pub returns-then-is_flaw_of_unit : goal.returns-then-is_flaw_of_unit
returns-then-is_flaw_of_unit c = ends_there _ _ _ _ _ c.is_flaw_of_unit.ensures c.if-is_flaw_of_unit.true
    (place_at c.args.ends c.args.len (chars c.args.piece.now) _ _ _ c.after_bad_piece.ensures.following.is_text
    c.after_bad_piece.ensures.rest c.after_bad_piece.ensures.read
    (omega (arith, c.requires, tail_length _ _ c.after_bad_piece.ensures.following)))
