use Rattle.rl_syntax.proofs.TailLemmas.{tail_step, some_tail}
use Rattle.rl_syntax.proofs.Common.{rules}
use Rattle.rl_lexer.proofs.source.after_doc.Goals as goal

pub returns-then-is_comment_block-clause-rest : goal.returns-then-is_comment_block-clause-rest
returns-then-is_comment_block-clause-rest c = search rules steps 300000

pub returns-else-is_comment_block-clause-rest : goal.returns-else-is_comment_block-clause-rest
returns-else-is_comment_block-clause-rest c = search rules steps 300000

pub returns-else-is_comment_line-clause-following : goal.returns-else-is_comment_line-clause-following
returns-else-is_comment_line-clause-following c = tail_step _ c.in-Some.following.now _ c.in-Some.ensures.following
    c.line_end.ensures.following

pub returns-else-is_comment_block-clause-following : goal.returns-else-is_comment_block-clause-following
returns-else-is_comment_block-clause-following c = some_tail _ c.args.text.now c.in-Some.following.now
    c.after_block.result c.in-Some.ensures.following c.after_block.ensures.following
