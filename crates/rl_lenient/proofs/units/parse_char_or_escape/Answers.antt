use Rattle.rl_syntax.proofs.Common.{IsCharBoundary-start}
use Rattle.rl_lenient.proofs.units.parse_char_or_escape.Goals as goal

pub ascii_at-requires : goal.ascii_at-requires
ascii_at-requires c = IsCharBoundary-start c.args.text.now c.utf8.text
