use Rattle.rl_syntax.proofs.Common.{rules}
use Rattle.rl_tokens.proofs.CStringLemmas.{none_is_zero}
use Rattle.rl_tokens.proofs.c_string.CString.new.Goals as goal

pub invariant_of-result-in-None : goal.invariant_of-result-in-None
invariant_of-result-in-None g c = none_is_zero c.args.bytes.items (search rules)

pub returns-in-None-clause-none_is_zero : goal.returns-in-None-clause-none_is_zero
returns-in-None-clause-none_is_zero g c = none_is_zero c.args.bytes.items (search rules)

pub invariant_of-result : goal.invariant_of-result
invariant_of-result g c = search rules steps 300000

pub returns-in-Some-clause-first : goal.returns-in-Some-clause-first
returns-in-Some-clause-first g c = search rules steps 300000
