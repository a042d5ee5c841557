use Rattle.rl_strict.proofs.Names.{IsCharBoundary-start}
use Rattle.rl_strict.proofs.strict_reading.classify_start.Goals as goal

pub ascii_at-requires : goal.ascii_at-requires
ascii_at-requires c = IsCharBoundary-start c.args.text.now c.utf8.text
