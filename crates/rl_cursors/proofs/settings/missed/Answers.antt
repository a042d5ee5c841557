use Rattle.rl_syntax.proofs.Common.{chars}
use Rattle.rl_cursors.proofs.NextLiteralLemmas.{nothing_else}
use Rattle.rl_cursors.proofs.SettingLemmas.{no_memory, some_rest}
use Rattle.rl_cursors.proofs.settings.missed.Goals as goal

pub lexer_error-kind-requires : goal.lexer_error-kind-requires
lexer_error-kind-requires c = no_memory c.in-Some.error.kind (chars c.args.tokens.now.rest) c.in-Some.ensures.error

pub unreachable-requires : goal.unreachable-requires
unreachable-requires c = nothing_else c.args.tokens.now c.fork-ahead.result
    (some_rest c.args.tokens.now.rest c.rest.result.now c.is_empty.result c.rest.ensures c.is_empty.ensures
    c.if-is_empty.false) c.fork-ahead.ensures c.in-None.ensures.none c.in_default.ensures.none
