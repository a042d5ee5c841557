use Rattle.rl_syntax.proofs.Common.{ap, chars, string_bytes}
use Rattle.rl_program.proofs.LitLineLemmas.{line_of_text}
use Rattle.rl_program.proofs.run.literal_line.Goals as goal

pub returns-clause-line : goal.returns-clause-line
returns-clause-line g c =
    line_of_text c.in_ok-token.token c.in_ok-literal.literal c.args.bytes.items (chars (string_bytes c.in_ok-line.line))
    c.in_ok-literal.ensures.reads (ap (λ z. z.text) c.in_ok-token.ensures.token) c.in_ok-line.ensures
