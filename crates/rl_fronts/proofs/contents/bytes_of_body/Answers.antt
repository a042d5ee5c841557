use Rattle.rl_lenient.proofs.BodyContents.{bytes_of_has}
use Rattle.rl_fronts.proofs.contents.bytes_of_body.Goals as goal

pub returns-clause-value : goal.returns-clause-value
returns-clause-value g c = λ t has. bytes_of_has _ t _ _ _ c.requires.kind has (c.in_ok-body_bytes.ensures t has)
