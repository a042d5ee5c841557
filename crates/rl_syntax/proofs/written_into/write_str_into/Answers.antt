use Rattle.rl_syntax.proofs.Common.{◌∙◌, ◌∷◌, [], ◌++◌, take, ap, sym, append_assoc, append-nil, arith, rules, encode_utf8, chars}
use Rattle.rl_syntax.specs.declared.kind.Kind.TheVariants.{Str}
use Rattle.rl_syntax.proofs.WrittenForms.{written_form}
use Rattle.rl_syntax.proofs.WritingLemmas.{begun_more, begun_whole}
use Rattle.rl_syntax.proofs.written_into.write_str_into.Goals as goal

pub loop-c-preserved : goal.loop-c-preserved
loop-c-preserved c =
    let l = c.loop-c in
    let (xs, cut, bytes) = l.invariant.passed in
    let s = c.in-Some.ensures in
    let w = c.put_written-at.ensures in
    let first = c.in-Some.c in
    record {
      utf8 = search rules;
      passed = (
        xs ++ (first ∷ []),
        cut ∙ ap (λ z. xs ++ z) s.chars
            ∙ sym (append_assoc xs (first ∷ []) (chars c.in-Some.after.now)),
        begun_more Str _ _ xs first bytes w.bytes,
      );
      text = w.utf8 l.invariant.text;
      room = omega (arith, l.invariant.room, s.shorter, w.end);
      len = w.len ∙ l.invariant.len;
    }

pub returns-clause-written : goal.returns-clause-written
returns-clause-written c =
    let l = c.loop-c in
    let (xs, cut, bytes) = l.invariant.passed in
    let whole = cut ∙ ap (λ z. xs ++ z) c.in_default.ensures.chars ∙ append-nil xs in
    let pushed = c.put_char.ensures.bytes ∙ ap (λ z. take l.at l.out ++ encode_utf8 z) c.quote.ensures.value in
    written_form Str _ _ tt (begun_whole Str _ _ xs (chars c.args.value.now) bytes pushed (sym whole)
    (c.put_char.ensures.utf8 l.invariant.text))
