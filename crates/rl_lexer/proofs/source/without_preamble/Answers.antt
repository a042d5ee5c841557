use Rattle.rl_syntax.proofs.Common.{subst, ℕ, List, chars}
use Rattle.rl_lexer.specs.Sources.{IsWithoutLine}
use Rattle.rl_lexer.proofs.source.without_preamble.Goals as goal

pub returns-clause-front : goal.returns-clause-front
returns-clause-front c =
    subst (λ (x : List ℕ). IsWithoutLine x (chars c.without_line.result.now)) c.without_byte_order_mark.ensures.rest
    c.without_line.ensures.front
