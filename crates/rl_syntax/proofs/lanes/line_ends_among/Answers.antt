use Rattle.rl_syntax.proofs.Common.{ℕ, refl, arith, zip2_splat, length-chunk, chunk}
use Rattle.rl_syntax.specs.Scanning.{is_one_of, line_ends}
use Rattle.rl_syntax.proofs.RunLanes.{masked_as}
use Rattle.rl_syntax.proofs.lanes.line_ends_among.Goals as goal

pub returns : goal.returns
returns c =
    let v = chunk c.args.at 16 c.args.bytes.now in
    masked_as (is_one_of line_ends) c.args.bytes.now c.args.at 16 _ c.requires (omega arith) c.type_inv.bytes
    (zip2_splat {Y = ℕ} _ v 16 10 (length-chunk c.args.at 16 c.args.bytes.now c.requires)) refl
