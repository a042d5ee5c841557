use Rattle.rl_syntax.proofs.Common.{chars}
use Rattle.rl_tokens.proofs.LexLaws.{one_list, one_error, never_both}
use Rattle.rl_tokens.proofs.PrintedAnswers.{exact_answer, printed_answer, reprinted_answer}
use Rattle.rl_tokens.proofs.lexer.lex.Goals as goal

pub returns-clause-exactly : goal.returns-clause-exactly
returns-clause-exactly g c = exact_answer (chars c.args.text.now) c.args.file c.trees_of.result c.trees_of.ensures.trees
    c.trees_of.ensures.rejected

pub returns-clause-one_list : goal.returns-clause-one_list
returns-clause-one_list g c = one_list

pub returns-clause-one_error : goal.returns-clause-one_error
returns-clause-one_error g c = one_error

pub returns-clause-never_both : goal.returns-clause-never_both
returns-clause-never_both g c = never_both

pub returns-clause-printed : goal.returns-clause-printed
returns-clause-printed g c = printed_answer c.args.text.now c.args.file c.trees_of.result c.trees_of.ensures.trees
    c.trees_of.ensures.rejected

pub returns-clause-reprinted : goal.returns-clause-reprinted
returns-clause-reprinted g c = reprinted_answer c.args.text.now c.args.file c.trees_of.result c.trees_of.ensures.trees
    c.trees_of.ensures.rejected
