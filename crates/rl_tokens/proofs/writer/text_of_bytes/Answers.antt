use Rattle.rl_syntax.proofs.Common.{◌≡◌, ◌++◌, ◌∙◌, sym, ap, subst, List, ℕ, string_bytes, take, get_or, rules, arith, encode_utf8, take_more, take_all, IsUtf8-string_bytes}
use Rattle.std.specs.Prelude.{encode_utf8_all}
use Rattle.rl_syntax.specs.Quoted.{unit_text}
use Rattle.rl_syntax.specs.Written.{closer, written_unit}
use Rattle.rl_syntax.proofs.WrittenForms.{written_form, all_bytes, bytes_value}
use Rattle.rl_syntax.proofs.WritingLemmas.{begun, begun_start, begun_more, begun_whole}
use Rattle.rl_tokens.proofs.writer.text_of_bytes.Goals as goal

pub loop-byte-init : goal.loop-byte-init
loop-byte-init g c = begun_start _ _ (search rules)

pub loop-byte-preserved : goal.loop-byte-preserved
loop-byte-preserved g c =
    let value = c.args.value.now in
    let i = c.loop-byte.byte-index in
    let same : c.from.result ≡ get_or value i 0 = search rules in
    let written : string_bytes c.push_written.new.out ≡ string_bytes c.loop-byte.text
    ++ encode_utf8_all (unit_text (written_unit c.args.kind c.from.result)) = c.in_ok-push_written.ensures.bytes in
    let pushed : string_bytes c.push_written.new.out ≡ string_bytes c.loop-byte.text
    ++ encode_utf8_all (unit_text (written_unit c.args.kind (get_or value i 0))) = written
    ∙ ap (λ z. string_bytes c.loop-byte.text ++ encode_utf8_all (unit_text (written_unit c.args.kind z))) same in
    let At : List ℕ → Type 0 = λ xs. string_bytes c.push_written.new.out ≡ begun c.args.kind xs in
    subst At (sym (take_more value i 0 (omega arith))) (begun_more _ _ _ (take i value) (get_or value i 0)
    c.loop-byte.invariant pushed)

pub returns : goal.returns
returns g c =
    let pushed : string_bytes c.push.new.self ≡ string_bytes c.loop-byte.text
    ++ encode_utf8 (closer c.args.kind) = c.in_ok-push.ensures.bytes
    ∙ ap (λ z. string_bytes c.loop-byte.text ++ encode_utf8 z) c.quote.ensures.value in
    written_form c.args.kind _ _ (bytes_value c.args.kind c.args.value.now c.requires
    (all_bytes c.args.value.now (λ i l. omega (arith, c.type_inv.value i))))
    (begun_whole _ _ _ (take c.loop-byte.byte-index c.args.value.now) c.args.value.now c.loop-byte.invariant pushed
    (take_all c.loop-byte.byte-index c.args.value.now (omega arith)) (IsUtf8-string_bytes c.push.new.self))
