use Rattle.rl_lenient.proofs.Names.{Bytes, CStr, is_string}
use Rattle.rl_syntax.proofs.Common.{ap, chars, refl, ◌≡◌}
use Rattle.std.proofs.lemmas.Result.{IfOk-at_ok}
use Rattle.rl_fronts.proofs.ByteContents.{no_zero_of, is_made}
use Rattle.rl_program.proofs.FoundLineLemmas.{written_shown}
use Rattle.rl_program.proofs.found_line.written_c_string.Goals as goal

pub unwrap-requires : goal.unwrap-requires
unwrap-requires g c =
    let t = chars c.args.text.now in
    let has = c.in_ok-value.ensures.value t (c.body_in.ensures.string c.requires.found (ap is_string c.requires.kind))
    in
    is_made c.new.result c.in_ok-value.value.items (λ e. e.place)
    (no_zero_of t c.in_ok-value.value.items (rw c.requires.kind at has)) c.new.ensures.first

pub returns : goal.returns
returns g c =
    let t = chars c.args.text.now in
    let has = c.in_ok-value.ensures.value t (c.body_in.ensures.string c.requires.found (ap is_string c.requires.kind))
    in
    let made : c.unwrap.result ≡ c.in_ok-value.value.items = IfOk-at_ok (λ v. v ≡ c.in_ok-value.value.items)
    c.unwrap.ensures c.new.ensures.ok in
    written_shown c.c_string-2.result c.args.found.now.kind CStr t c.unwrap.result (Bytes c.unwrap.result)
    c.requires.kind refl (rw made has) c.c_string-2.ensures.text
