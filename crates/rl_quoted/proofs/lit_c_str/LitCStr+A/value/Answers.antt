use Rattle.rl_syntax.proofs.Common.{chars, ◌≡◌}
use Rattle.std.proofs.lemmas.Result.{IfOk-at_ok}
use Rattle.rl_fronts.proofs.ByteContents.{no_zero_of, is_made}
use Rattle.rl_quoted.proofs.lit_c_str.LitCStr+A.value.Goals as goal

pub unwrap-requires : goal.unwrap-requires
unwrap-requires g c =
    let t = chars c.args.self.now.text in
    is_made c.new.result c.in-Ok.bytes.items (λ e. e.place) (no_zero_of t c.in-Ok.bytes.items
    (c.in-Ok.ensures.value t c.body-plain.ensures.stands)) c.new.ensures.first

pub returns-in-Ok-clause-value : goal.returns-in-Ok-clause-value
returns-in-Ok-clause-value g c =
    let t = chars c.args.self.now.text in
    let made : c.unwrap.result ≡ c.in-Ok.bytes.items = IfOk-at_ok (λ v. v ≡ c.in-Ok.bytes.items) c.unwrap.ensures
    c.new.ensures.ok in
    rw made (c.in-Ok.ensures.value t c.body-plain.ensures.stands)
