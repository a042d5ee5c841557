use Rattle.rl_syntax.proofs.Common.{ap, arith, chars, length, subst, sym, ◌-◌, ◌≡◌}
use Rattle.rl_lenient.proofs.Names.{opener}
use Rattle.rl_lenient.specs.Raws.{HasHashCount}
use Rattle.rl_lenient.proofs.HashLemmas.{raw_hashes}
use Rattle.rl_lenient.proofs.parts.hashes.Goals as goal

pub returns-then-body-opener : goal.returns-then-body-opener
returns-then-body-opener c =
    let kind = c.args.kind in
    let t = c.args.text.now in
    let body = c.args.body.now in
    let long : length c.opener-opener.result.now ≡ length (opener kind) = ap length c.opener-opener.ensures in
    subst (λ n. HasHashCount kind (chars t) (body.lo - n - 1)) (sym long)
    (raw_hashes kind t body c.requires (omega (arith, c.if-body-opener.true, long)))
