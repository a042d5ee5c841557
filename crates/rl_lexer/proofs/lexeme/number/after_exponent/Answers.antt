-- Each text that `after_exponent` returns is the end of the given text.
use Rattle.rl_syntax.proofs.TailLemmas.{tail_self, tail_step}
use Rattle.rl_lexer.proofs.lexeme.number.after_exponent.Goals as goal

pub returns-then-is_ascii_digit-clause-following : goal.returns-then-is_ascii_digit-clause-following
returns-then-is_ascii_digit-clause-following c =
    let t = c.args.text.now in
    let signed = c.in-Some-e-default.following.now in
    let digits = c.after_sign-digits.result.now in
    tail_step t digits c.skip_class-then-is_ascii_digit.result.now
    (tail_step t signed digits c.in-Some-e-default.ensures.following c.after_sign-digits.ensures.following)
    c.skip_class-then-is_ascii_digit.ensures.following

pub returns-in_default-split_char-clause-following : goal.returns-in_default-split_char-clause-following
returns-in_default-split_char-clause-following c = tail_self c.args.text.now c.utf8.text

pub returns-else-is_ascii_digit-clause-following : goal.returns-else-is_ascii_digit-clause-following
returns-else-is_ascii_digit-clause-following c = tail_self c.args.text.now c.utf8.text
