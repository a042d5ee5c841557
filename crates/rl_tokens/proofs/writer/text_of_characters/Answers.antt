use Rattle.rl_syntax.proofs.Common.{◌++◌, ◌∙◌, ap, chars, chars-nil}
use Rattle.rl_syntax.specs.Written.{written_text}
use Rattle.rl_syntax.proofs.WrittenForms.{written_form}
use Rattle.rl_tokens.proofs.writer.text_of_characters.Goals as goal

pub returns : goal.returns
returns g c = written_form c.args.kind _ _ c.requires.value (c.in_ok-push_characters.ensures.text
    ∙ ap (λ z. z ++ written_text c.args.kind (chars c.args.value.now)) (ap chars c.new-text.ensures.bytes ∙ chars-nil))
