use Rattle.rl_syntax.proofs.Common.{ℕ, ◌==◌, ◌∙◌, cond, is_ascii_digit, leb, lit<, refl, not, zip2_splat, zip2_splat_left, chunk}
use Rattle.std.proofs.Common.{bit_or}
use Rattle.rl_syntax.specs.Mirrors.RunsAt.{is_ascii_id_continue}
use Rattle.rl_syntax.specs.Mirrors.UnlikelyAt.{is_likely_mark}
use Rattle.rl_syntax.proofs.LaneLemmas.{both, either, lane}
use Rattle.rl_syntax.proofs.RunLanes.{joined, splat_is}
use Rattle.rl_syntax.proofs.UnlikelyLanes.{before_is, here_is, lanes_of, likely_mask, near, near-length, near_low, next_bytes_are, same_lanes, three}
use Rattle.rl_syntax.proofs.lanes.likely_among.Goals as goal

pub returns : goal.returns
returns c =
    let bs = c.args.bytes.now in
    let at = c.args.at in
    let some = c.requires.0 in
    let room = c.requires.1 in
    let fits = c.type_inv.bytes in
    let xs = three at bs in
    let v = chunk 0 16 (near at bs) in
    let w = chunk 1 16 (near at bs) in
    let u = chunk 2 16 (near at bs) in
    let long = near-length 0 at bs some (lit< tt) room in
    let here_long = near-length 1 at bs some (lit< tt) room in
    let next_long = near-length 2 at bs some (lit< tt) room in
    let no_words = lanes_of (λ p. not (is_ascii_id_continue p)) (λ x. x.0) xs (before_is at bs some room)
    (joined _ _ _ v (joined _ _ _ v (joined (λ a b. cond (leb a b) 255 0) _ _ v (splat_is v 16 26 long)
    (joined _ _ _ v (zip2_splat {Y = ℕ} bit_or v 16 32 long) (splat_is v 16 97 long)))
    (joined (λ a b. cond (leb a b) 255 0) _ _ v (splat_is v 16 10 long) (zip2_splat {Y = ℕ} _ v 16 48 long)))
    (zip2_splat {Y = ℕ} _ v 16 95 long)
    ∙ same_lanes _ (λ p. lane (not (is_ascii_id_continue p))) refl v (near_low 0 at bs some (lit< tt) room fits)) in
    let here = here_is at bs some in
    let low = near_low 1 at bs some (lit< tt) room fits in
    let marks = lanes_of is_likely_mark (λ x. x.1) xs here
    (joined _ _ _ w (joined _ _ _ w (joined _ _ _ w (zip2_splat {Y = ℕ} _ w 16 34 here_long)
    (zip2_splat {Y = ℕ} _ w 16 39 here_long)) (zip2_splat {Y = ℕ} _ w 16 47 here_long))
    (zip2_splat_left {X = ℕ} (λ a b. cond (leb a b) 255 0) 128 16 w here_long)
    ∙ same_lanes _ (λ c. lane (is_likely_mark c)) refl w low) in
    let digits = lanes_of is_ascii_digit (λ x. x.1) xs here
    (joined (λ a b. cond (leb a b) 255 0) _ _ w (zip2_splat {Y = ℕ} _ w 16 48 here_long) (splat_is w 16 9 here_long)
    ∙ same_lanes _ (λ c. lane (is_ascii_digit c)) refl w low) in
    let next = next_bytes_are at bs some room in
    let quotes = lanes_of (λ n. n == 34) (λ x. x.2) xs next (zip2_splat {Y = ℕ} _ u 16 34 next_long) in
    let ticks = lanes_of (λ n. n == 39) (λ x. x.2) xs next (zip2_splat {Y = ℕ} _ u 16 39 next_long) in
    let letters = lanes_of (λ n. n == 114) (λ x. x.2) xs next (zip2_splat {Y = ℕ} _ u 16 114 next_long) in
    let hashes = lanes_of (λ n. n == 35) (λ x. x.2) xs next (zip2_splat {Y = ℕ} _ u 16 35 next_long) in
    let a = lanes_of (λ n. n == 97) (λ x. x.2) xs next (zip2_splat {Y = ℕ} _ u 16 97 next_long) in
    let b_here = lanes_of (λ k. k == 98) (λ x. x.1) xs here (zip2_splat {Y = ℕ} _ w 16 98 here_long) in
    let c_here = lanes_of (λ k. k == 99) (λ x. x.1) xs here (zip2_splat {Y = ℕ} _ w 16 99 here_long) in
    let r_here = lanes_of (λ k. k == 114) (λ x. x.1) xs here (zip2_splat {Y = ℕ} _ w 16 114 here_long) in
    let t_here = lanes_of (λ k. k == 116) (λ x. x.1) xs here (zip2_splat {Y = ℕ} _ w 16 116 here_long) in
    let f_here = lanes_of (λ k. k == 102) (λ x. x.1) xs here (zip2_splat {Y = ℕ} _ w 16 102 here_long) in
    let b_all = both _ _ xs b_here (either _ _ xs (either _ _ xs quotes letters) ticks) in
    let c_all = both _ _ xs c_here (either _ _ xs quotes letters) in
    let r_all = both _ _ xs r_here (either _ _ xs quotes hashes) in
    let words = either _ _ xs (both _ _ xs t_here letters) (both _ _ xs f_here a) in
    let heads = either _ _ xs (either _ _ xs (either _ _ xs (either _ _ xs digits b_all) c_all) r_all) words in
    likely_mask at bs room fits (either _ _ xs marks (both _ _ xs no_words heads))
