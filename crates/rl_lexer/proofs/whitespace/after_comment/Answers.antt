use Rattle.rl_syntax.proofs.TailLemmas.{tail_step, some_tail}
use Rattle.rl_lexer.proofs.whitespace.after_comment.Goals as goal

pub returns-then-is_comment_line-clause-following : goal.returns-then-is_comment_line-clause-following
returns-then-is_comment_line-clause-following c = tail_step _ _ _ c.in-Some.ensures.following
    c.after_line.ensures.following

pub returns-then-is_comment_block-clause-following : goal.returns-then-is_comment_block-clause-following
returns-then-is_comment_block-clause-following c = some_tail _ _ _ c.after_block.result c.in-Some.ensures.following
    c.after_block.ensures.following
