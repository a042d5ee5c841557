use Rattle.rl_syntax.proofs.Common.{chars}
use Rattle.rl_lexer.proofs.SourceFronts.{plain_before}
use Rattle.rl_lexer.proofs.source.first_source_token.Goals as goal

pub returns-in-Some-clause-found : goal.returns-in-Some-clause-found
returns-in-Some-clause-found c = plain_before (chars c.args.text.now) (chars c.in-Some.following.now) _
    c.in-Some.ensures.found
