-- `skip` skips the leading white space of a text, and then the comments and white space that follow.
use Rattle.rl_syntax.proofs.Common.{chars}
use Rattle.rl_syntax.specs.Texts.{is_white}
use Rattle.rl_syntax.proofs.TailLemmas.{tail_step}
use Rattle.rl_lexer.proofs.Pieces.{one_rest, run_ends, skipped_again, skipped_none, skipped_run}
use Rattle.rl_lexer.proofs.whitespace.skip.Goals as goal

pub skip_comments-requires : goal.skip_comments-requires
skip_comments-requires c = run_ends is_white (chars c.args.text.now) _ c.skip_white-rest.ensures.rest

pub returns : goal.returns
returns c =
    let run = c.skip_white-rest.ensures in
    let more = c.skip_comments.ensures in
    let skipped = skipped_run (chars c.args.text.now) _ _ run.rest more.skipped in
    record { skipped = skipped; following = tail_step _ _ _ run.following more.following; only = one_rest; again = skipped_again _ _ skipped }

pub returns-in_default : goal.returns-in_default
returns-in_default c =
    let run = c.skip_white-rest.ensures in
    let none = skipped_none _ (run_ends is_white (chars c.args.text.now) _ run.rest) c.in_default.ensures.rest in
    record { skipped = skipped_run (chars c.args.text.now) _ _ run.rest none; following = run.following; only = one_rest; again = none }
