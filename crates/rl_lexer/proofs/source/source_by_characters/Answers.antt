use Rattle.rl_syntax.proofs.Common.{chars}
use Rattle.rl_lexer.proofs.SourceFronts.{no_other, other_found, plain_before, source_found, source_none}
use Rattle.rl_lexer.proofs.source.source_by_characters.Goals as goal

pub returns-in-Some-clause-found : goal.returns-in-Some-clause-found
returns-in-Some-clause-found c = other_found (chars c.args.text.now) c.other_token.result _ c.in-Some.is
    c.other_token.ensures.rest

pub returns-in-Some-number_or_other-clause-found : goal.returns-in-Some-number_or_other-clause-found
returns-in-Some-number_or_other-clause-found c = plain_before (chars c.args.text.now)
    (chars c.in-Some-number_or_other.following.now) _ c.in-Some-number_or_other.ensures.found

pub returns-clause-found : goal.returns-clause-found
returns-clause-found c = source_found (chars c.args.text.now) c.stray.result c.in_default-number_or_other.ensures.none
    (no_other (chars c.args.text.now) c.other_token.result c.stray.result c.in_default.is c.other_token.ensures.rest
    c.stray.ensures.rest)

pub returns-clause-none : goal.returns-clause-none
returns-clause-none c = source_none (chars c.args.text.now) c.stray.result c.in_default-number_or_other.ensures.none
    (no_other (chars c.args.text.now) c.other_token.result c.stray.result c.in_default.is c.other_token.ensures.rest
    c.stray.ensures.rest)
