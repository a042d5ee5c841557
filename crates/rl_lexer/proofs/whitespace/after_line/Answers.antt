-- The text after a line is the text after its LF, or is empty if the line has no LF.
use Rattle.rl_syntax.proofs.Common.{refl}
use Rattle.rl_lexer.proofs.CommentSteps.{line_rest}
use Rattle.rl_lexer.proofs.whitespace.after_line.Goals as goal

pub returns : goal.returns
returns c =
    let found = c.after_first_line_feed.ensures in
    let rest = line_rest c.args.text.now c.after_first_line_feed.result _ c.unwrap_or.result found.some found.none found.following
    refl c.unwrap_or.ensures in
    record { rest = rest.0; following = rest.1 }
