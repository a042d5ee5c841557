use Rattle.rl_syntax.proofs.Common.{chars}
use Rattle.rl_cursors.proofs.OpenerLemmas.{hashes_taken}
use Rattle.rl_cursors.proofs.openers.split_raw_opener.Goals as goal

pub returns : goal.returns
returns c = hashes_taken c.before-hashes.result.now (chars c.args.text.now) (chars c.skip_hashes-quote.result.now)
    (chars c.in_ok-body.body.now) c.before-hashes.utf8 c.before-hashes.ensures.chars c.skip_hashes-quote.ensures.rest
    c.in_ok-body.ensures.rest
