use Rattle.rl_syntax.proofs.Common.{ℕ, sym}
use Rattle.std.proofs.Common.{Vec}
use Rattle.rl_lenient.proofs.BodyContents.{ok_plain, ok_decoded}
use Rattle.rl_fronts.proofs.contents.body_bytes.Goals as goal

pub decode-requires : goal.decode-requires
decode-requires g c = let (t, has) = c.requires in has.string

pub returns-then-plain : goal.returns-then-plain
returns-then-plain g c = ok_plain (λ (v : Vec ℕ g.row.A.Denot). v.items) _ _ _ _ _ c.if-plain.true c.utf8.body
    (sym c.as_bytes.ensures.value) c.from_slice.ensures.items

pub returns-else-plain : goal.returns-else-plain
returns-else-plain g c = ok_decoded (λ (v : Vec ℕ g.row.A.Denot). v.items) _ _ _ _ c.if-plain.false c.decode.ensures
