use Rattle.rl_syntax.proofs.Common.{sym}
use Rattle.rl_program.proofs.CommandLineLemmas.{help_asked}
use Rattle.rl_program.proofs.command_line.text_of_word.Goals as goal

pub returns-then-requests_help : goal.returns-then-requests_help
returns-then-requests_help c = help_asked c.args.word.now (sym c.if-requests_help.ensures)
