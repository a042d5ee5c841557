use Rattle.rl_syntax.proofs.Common.{◌≡◌, ◌++◌, ◌+◌, ◌∷◌, ◌∙◌, [], List, ℕ, ap, arith, chars, chars_from_encodes, common_steps, encode_utf8_all, IsUtf8-string_bytes, string_bytes, subst, sym, take}
use Rattle.rl_syntax.specs.declared.kind.Kind.TheVariants.{Str}
use Rattle.rl_syntax.specs.Written.{written_text}
use Rattle.rl_tokens.specs.WrittenLists.{characters_of, str_list_text}
use Rattle.rl_tokens.proofs.WrittenListLemmas.{lines_more}
use Rattle.rl_tokens.proofs.writer.write_str_list.Goals as goal

pub loop-value-preserved : goal.loop-value-preserved
loop-value-preserved g c =
    let values = c.args.values.now in
    let i = c.loop-value.value-index in
    let v = c.value-item.result in
    let grown : take (i + 1) values ≡ take i values ++ (v ∷ []) = grind (arith, common_steps) in
    let new = string_bytes c.push_str_line.new.out in
    let old = string_bytes c.loop-value.text in
    let line : new ≡ old ++ encode_utf8_all (written_text Str (chars (string_bytes v)) ++ (10 ∷ [])) =
    subst (λ (z : List ℕ). new ≡ old ++ encode_utf8_all (written_text Str (chars z) ++ (10 ∷ [])))
    c.as_str.ensures.value c.in_ok-push_str_line.ensures in
    rw grown (lines_more old new (take i values) v c.loop-value.invariant line)

pub returns : goal.returns
returns g c =
    let all : take c.loop-value.value-index c.args.values.now ≡ c.args.values.now = grind (arith, common_steps) in
    let text = c.loop-value.text in
    sym (chars_from_encodes (str_list_text (characters_of c.args.values.now)) (string_bytes text)
    (IsUtf8-string_bytes text)
    (sym (c.loop-value.invariant ∙ ap (λ z. encode_utf8_all (str_list_text (characters_of z))) all)))
