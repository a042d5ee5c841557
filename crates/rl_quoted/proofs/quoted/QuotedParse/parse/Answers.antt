use Rattle.std.proofs.Common.{rules}
use Rattle.rl_quoted.proofs.quoted.QuotedParse.parse.Goals as goal

pub returns-in-Err-clause-runs : goal.returns-in-Err-clause-runs
returns-in-Err-clause-runs g c = search rules steps 400000
