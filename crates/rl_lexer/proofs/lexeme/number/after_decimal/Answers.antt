-- Each text that `after_decimal` returns is the end of the given text.
use Rattle.rl_syntax.proofs.TailLemmas.{tail_step}
use Rattle.rl_lexer.proofs.lexeme.number.after_decimal.Goals as goal

pub returns-clause-following : goal.returns-clause-following
returns-clause-following c =
    let t = c.args.text.now in
    let whole = c.skip_class.result.now in
    let fraction = c.after_fraction.result.now in
    let exponent = c.after_exponent.result.now in
    tail_step t exponent c.after_suffix.result.now
    (tail_step t fraction exponent (tail_step t whole fraction c.skip_class.ensures.following
    c.after_fraction.ensures.following) c.after_exponent.ensures.following)
    c.after_suffix.ensures.following
