use Rattle.rl_syntax.proofs.Common.{◌≡◌, true, Some, sym, ◌∙◌, ap, rules, is_ascii_digit, chars}
use Rattle.rl_lexer.specs.Lexemes.{LiteralForm}
use Rattle.rl_lexer.proofs.NumberEnds.{digit_first}
use Rattle.rl_lexer.proofs.LexemeAnswers.{form_before}
use Rattle.rl_lexer.proofs.lexeme.after_number.Goals as goal

pub returns-in-Some-clause-found : goal.returns-in-Some-clause-found
returns-in-Some-clause-found c =
    let s = c.in-Some in
    let is : is_ascii_digit s.byte ≡ true = search rules in
    form_before (chars c.args.text.now) (LiteralForm, chars c.after_digit.result.now)
    (digit_first (chars c.args.text.now) (chars s.following.now) s.byte s.ensures.some is
    ∙ ap (λ r. Some (LiteralForm, r)) (sym (c.after_digit.ensures.rest s.byte)))
