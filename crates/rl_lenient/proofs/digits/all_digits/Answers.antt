use Rattle.rl_syntax.proofs.Common.{ap, ◌∙◌, is_ascii_digit, list_all}
use Rattle.rl_lenient.proofs.RowBytes.{digits_same}
use Rattle.rl_lenient.proofs.digits.all_digits.Goals as goal

pub returns : goal.returns
returns c = c.are_digits.ensures ∙ ap (list_all is_ascii_digit) c.as_bytes.ensures.value
    ∙ digits_same c.args.text.now c.utf8.text
