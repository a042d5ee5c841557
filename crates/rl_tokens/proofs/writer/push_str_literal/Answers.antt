use Rattle.rl_syntax.proofs.Common.{◌++◌, ◌∙◌, ap, sym, refl, encode_utf8_all, encodes-append, encodes-chars, string_bytes, IsUtf8-string_bytes}
use Rattle.rl_syntax.specs.declared.kind.Kind.TheVariants.{Str}
use Rattle.std.specs.Str.{chars}
use Rattle.rl_syntax.specs.Written.{written_text}
use Rattle.rl_syntax.proofs.WrittenForms.{written_form}
use Rattle.rl_syntax.proofs.WritingLemmas.{cut_back}
use Rattle.rl_tokens.proofs.writer.push_str_literal.Goals as goal

pub truncate-requires : goal.truncate-requires
truncate-requires g c = rw c.as_str-len.ensures.value (λ _. cut_back _ (string_bytes c.push_characters.new.out)
    (IsUtf8-string_bytes c.args.out.now) (IsUtf8-string_bytes c.push_characters.new.out) c.in-Err.ensures.front)

pub returns-in-Ok-clause-form : goal.returns-in-Ok-clause-form
returns-in-Ok-clause-form g c = written_form Str _ _ tt refl

pub returns-in-Ok-clause-bytes : goal.returns-in-Ok-clause-bytes
returns-in-Ok-clause-bytes g c =
    let old = string_bytes c.args.out.now in
    let new = string_bytes c.push_characters.new.out in
    sym (encodes-chars new (IsUtf8-string_bytes c.push_characters.new.out))
    ∙ ap encode_utf8_all c.in-Ok.ensures.text ∙ encodes-append (chars old) (written_text Str (chars c.args.value.now))
    ∙ ap (λ z. z ++ encode_utf8_all (written_text Str (chars c.args.value.now)))
    (encodes-chars old (IsUtf8-string_bytes c.args.out.now))
