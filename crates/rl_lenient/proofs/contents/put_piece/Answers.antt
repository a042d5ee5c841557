use Rattle.rl_syntax.proofs.Common.{rules}
use Rattle.rl_lenient.proofs.contents.put_piece.Goals as goal

pub returns-in-Byte-clause-bytes : goal.returns-in-Byte-clause-bytes
returns-in-Byte-clause-bytes c = search rules steps 300000
