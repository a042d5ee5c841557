use Rattle.std.proofs.Common.{rules}
use Rattle.rust_literals.proofs.lit.copies.LitToTokens.to_tokens.Goals as goal

pub returns-in_default : goal.returns-in_default
returns-in_default g c = search rules steps 400000
