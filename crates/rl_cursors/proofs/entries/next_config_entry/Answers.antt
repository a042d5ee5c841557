use Rattle.rl_syntax.proofs.Common.{refl, subst}
use Rattle.rl_lexer.specs.Cursors.{CursorState}
use Rattle.rl_cursors.specs.EntrySteps.{RejectsNextEntry}
use Rattle.rl_cursors.proofs.SettingLemmas.{some_rest}
use Rattle.rl_cursors.proofs.entries.next_config_entry.Goals as goal

pub returns-in-Err : goal.returns-in-Err
returns-in-Err c = (
  some_rest c.args.tokens.now.rest c.rest.result.now c.is_empty.result c.rest.ensures c.is_empty.ensures
      c.if-is_empty.false,
  subst (λ (t : CursorState). RejectsNextEntry t c.in-Err.rejection) c.fork-ahead.ensures c.in-Err.ensures.rejected,
  refl,
)
