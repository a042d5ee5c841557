use Rattle.rl_syntax.proofs.Common.{ap, ◌∙◌}
use Rattle.rl_lenient.proofs.Names.{float_digits, IfOk-weaker}
use Rattle.std.proofs.Common.{string_bytes}
use Rattle.std.specs.Str.{chars}
use Rattle.rl_lenient.specs.Founds.{body_in}
use Rattle.rl_fronts.proofs.NumberFoundLemmas.{plain_digits, written_digits, numeral_digits}
use Rattle.rl_lenient.proofs.PlainNumberLemmas.{held}
use Rattle.rl_fronts.proofs.digits.found_digits.Goals as goal

pub returns-then-found : goal.returns-then-found
returns-then-found g c =
    let t = c.args.text.now in
    let f = c.args.found in
    let digits = plain_digits t f c.utf8.text c.if-found.true c.requires in
    IfOk-weaker c.from_str.result _ _ (λ s e. held f.kind _ (body_in t f.body) (string_bytes s) digits
    (e ∙ c.body_in-body.ensures.body)) c.from_str.ensures.ok

pub returns-in-Int : goal.returns-in-Int
returns-in-Int g c = IfOk-weaker c.signed_decimal.result _ _ (λ s e. written_digits _ _ _ c.in-Int.is c.requires e)
    c.signed_decimal.ensures

pub returns-in_default : goal.returns-in_default
returns-in_default g c =
    let t = c.args.text.now in
    let f = c.args.found in
    let numeral = ap (λ z. float_digits (chars z)) c.body_in-body.ensures.body in
    IfOk-weaker c.plain_numeral.result _ _ (λ s e. numeral_digits t (string_bytes s) f c.utf8.text c.in_default.not-Int
    c.requires (e ∙ numeral)) c.plain_numeral.ensures
