use Rattle.rl_syntax.proofs.Common.{refl}
use Rattle.rl_lexer.proofs.SourceFronts.{line_ends}
use Rattle.rl_lexer.proofs.source.line_end.Goals as goal

pub returns-clause-rest : goal.returns-clause-rest
returns-clause-rest c = line_ends _ _ _ _ refl c.split_line.ensures.cut c.split_line.ensures.others
    c.split_line.ensures.stops
