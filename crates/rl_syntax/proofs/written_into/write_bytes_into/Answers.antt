use Rattle.rl_syntax.proofs.Common.{common_steps, ◌≡◌, ◌++◌, ◌∙◌, sym, ap, subst, List, ℕ, take, get_or, rules, arith, encode_utf8, take_more, take_all}
use Rattle.std.specs.Prelude.{encode_utf8_all}
use Rattle.rl_syntax.specs.Quoted.{unit_text}
use Rattle.rl_syntax.specs.Written.{written_unit}
use Rattle.rl_syntax.proofs.WrittenForms.{written_form, all_bytes, bytes_value}
use Rattle.rl_syntax.proofs.WritingLemmas.{begun, begun_more, begun_whole}
use Rattle.rl_syntax.proofs.written_into.write_bytes_into.Goals as goal

pub loop-byte-preserved : goal.loop-byte-preserved
loop-byte-preserved c =
    let l = c.loop-byte in
    let value = c.args.value.now in
    let i = l.byte-index in
    let w = c.put_written-at.ensures in
    let same : c.from.result ≡ get_or value i 0 = search rules in
    let pushed = w.bytes ∙ ap (λ z. take l.at l.out ++ encode_utf8_all (unit_text (written_unit c.args.kind z))) same in
    let At : List ℕ → Type 0 = λ xs. take c.put_written-at.result c.put_written-at.new.out ≡ begun c.args.kind xs in
    record {
      passed = subst At (sym (take_more value i 0 (omega arith)))
          (begun_more _ _ _ (take i value) (get_or value i 0) l.invariant.passed pushed);
      text = w.utf8 l.invariant.text;
      room = omega (arith, l.invariant.room, w.end);
      len = w.len ∙ l.invariant.len;
    }

pub returns-clause-written : goal.returns-clause-written
returns-clause-written c =
    let l = c.loop-byte in
    let value = c.args.value.now in
    let pushed = c.put_char.ensures.bytes ∙ ap (λ z. take l.at l.out ++ encode_utf8 z) c.quote.ensures.value in
    written_form c.args.kind _ _ (bytes_value c.args.kind value c.requires.bytes
    (all_bytes value (λ i l. omega (arith, c.type_inv.value i))))
    (begun_whole _ _ _ (take l.byte-index value) value l.invariant.passed pushed
    (take_all l.byte-index value (omega arith)) (c.put_char.ensures.utf8 l.invariant.text))

pub loop-byte-init : goal.loop-byte-init
loop-byte-init c = grind (arith, common_steps) steps 300000

pub put_written-at-requires-clause-kind : goal.put_written-at-requires-clause-kind
put_written-at-requires-clause-kind c = grind (arith, common_steps) steps 300000

pub put_char-requires : goal.put_char-requires
put_char-requires c = grind (arith, common_steps) steps 300000

pub returns-clause-utf8 : goal.returns-clause-utf8
returns-clause-utf8 c = grind (arith, common_steps) steps 300000

pub returns-clause-within : goal.returns-clause-within
returns-clause-within c = grind (arith, common_steps) steps 300000
