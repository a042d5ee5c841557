use Rattle.rl_syntax.proofs.Common.{arith, not, map, sym, ap, ◌∙◌, eq-eqb, ne_eqb, zip2_splat, zip2_splat_left, length-chunk, chunk, mask_l}
use Rattle.rl_syntax.specs.Mirrors.StopsAt.{stops}
use Rattle.rl_syntax.proofs.LaneLemmas.{either, masked}
use Rattle.rl_syntax.proofs.scan.stops_among.Goals as goal

pub returns-then-this-ne0 : goal.returns-then-this-ne0
returns-then-this-ne0 g c =
    let n = g.row.N in
    let v = chunk c.args.at n c.args.bytes.now in
    let long = length-chunk c.args.at n c.args.bytes.now c.requires.1 in
    masked _ v (omega arith) (either _ _ v (zip2_splat_left _ 128 n v long)
    (either _ _ v (either _ _ v (either _ _ v (zip2_splat _ v n c.args.marks.first long)
    (zip2_splat _ v n c.args.marks.second long)) (zip2_splat _ v n c.args.marks.third long))
    (zip2_splat _ v n c.args.marks.fourth long)))
    ∙ ap (λ b. mask_l (map (stops (not b) c.args.marks) v)) (sym (ne_eqb g.row.HIGH 0 c.if-this-ne0.true))

pub returns-else-this-ne0 : goal.returns-else-this-ne0
returns-else-this-ne0 g c =
    let n = g.row.N in
    let v = chunk c.args.at n c.args.bytes.now in
    let long = length-chunk c.args.at n c.args.bytes.now c.requires.1 in
    masked _ v (omega arith) (either _ _ v (either _ _ v (either _ _ v (zip2_splat _ v n c.args.marks.first long)
    (zip2_splat _ v n c.args.marks.second long)) (zip2_splat _ v n c.args.marks.third long))
    (zip2_splat _ v n c.args.marks.fourth long))
    ∙ ap (λ b. mask_l (map (stops (not b) c.args.marks) v)) (sym (eq-eqb g.row.HIGH 0 c.if-this-ne0.false))
