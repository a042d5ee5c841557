use Rattle.rl_syntax.proofs.Common.{◌≡◌, ◌++◌, ◌∷◌, [], ◌∙◌, ap, refl, take, rules, encode_utf8, IsUtf8}
use Rattle.rl_syntax.specs.declared.kind.Kind.TheVariants.{Char}
use Rattle.rl_syntax.specs.Quoted.{opener}
use Rattle.rl_syntax.proofs.WrittenForms.{written_form}
use Rattle.rl_syntax.proofs.WritingLemmas.{begun_start, begun_more, begun_whole}
use Rattle.rl_syntax.proofs.written_into.write_char_into.Goals as goal

pub returns-clause-written : goal.returns-clause-written
returns-clause-written c =
    let opened : take c.put_text-at.result c.put_text-at.new.out ≡ opener Char = search rules in
    let text : IsUtf8 (take c.put_written-at.result c.put_written-at.new.out) = search rules in
    let pushed = c.put_char.ensures.bytes ∙ ap (λ z. take c.put_written-at.result c.put_written-at.new.out
    ++ encode_utf8 z) c.quote.ensures.value in
    written_form Char _ _ refl (begun_whole Char _ _ (c.args.value ∷ []) (c.args.value ∷ [])
    (begun_more Char _ _ [] c.args.value (begun_start Char _ opened) c.put_written-at.ensures.bytes) pushed refl
    (c.put_char.ensures.utf8 text))
