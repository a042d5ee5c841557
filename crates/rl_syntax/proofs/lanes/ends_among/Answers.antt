use Rattle.rl_syntax.proofs.Common.{ℕ, true, false, leb, cond, not, map, refl, sym, ap, ◌∙◌, arith, eq-eqb, ne_eqb, zip2_splat, length-chunk, chunk, mask_l}
use Rattle.std.proofs.Common.{bit_or}
use Rattle.rl_syntax.specs.Mirrors.RunsAt.{ends_run}
use Rattle.rl_syntax.proofs.RunLanes.{joined, splat_is, masked_as}
use Rattle.rl_syntax.proofs.lanes.ends_among.Goals as goal

pub returns-then-this-ne0 : goal.returns-then-this-ne0
returns-then-this-ne0 g c =
    let v = chunk c.args.at 16 c.args.bytes.now in
    let long = length-chunk c.args.at 16 c.args.bytes.now c.requires in
    masked_as (ends_run true) c.args.bytes.now c.args.at 16 _ c.requires (omega arith) c.type_inv.bytes
    (joined _ _ _ v (joined _ _ _ v (joined (λ a b. cond (leb a b) 255 0) _ _ v (splat_is v 16 26 long)
    (joined _ _ _ v (zip2_splat {Y = ℕ} bit_or v 16 32 long) (splat_is v 16 97 long)))
    (joined (λ a b. cond (leb a b) 255 0) _ _ v (splat_is v 16 10 long) (zip2_splat {Y = ℕ} _ v 16 48 long)))
    (zip2_splat {Y = ℕ} _ v 16 95 long)) refl
    ∙ ap (λ b. mask_l (map (ends_run (not b)) v)) (sym (ne_eqb g.row.WORD 0 c.if-this-ne0.true))

pub returns-else-this-ne0 : goal.returns-else-this-ne0
returns-else-this-ne0 g c =
    let v = chunk c.args.at 16 c.args.bytes.now in
    let long = length-chunk c.args.at 16 c.args.bytes.now c.requires in
    masked_as (ends_run false) c.args.bytes.now c.args.at 16 _ c.requires (omega arith) c.type_inv.bytes
    (joined _ _ _ v (joined (λ a b. cond (leb a b) 255 0) _ _ v (splat_is v 16 5 long)
    (zip2_splat {Y = ℕ} _ v 16 9 long)) (zip2_splat {Y = ℕ} _ v 16 32 long)) refl
    ∙ ap (λ b. mask_l (map (ends_run (not b)) v)) (sym (eq-eqb g.row.WORD 0 c.if-this-ne0.false))
