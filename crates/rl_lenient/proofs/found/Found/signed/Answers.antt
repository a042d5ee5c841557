use Rattle.rl_lenient.proofs.ValueLemmas.{some_value, no_value}
use Rattle.rl_lenient.proofs.found.Found.signed.Goals as goal

pub returns-clause-some : goal.returns-clause-some
returns-clause-some c =
    some_value c.args.text.now c.args.self.now _ c.number_found.result c.requires c.is_negative.ensures c.number_found.ensures.kind
    c.number_found.ensures.some

pub returns-clause-none : goal.returns-clause-none
returns-clause-none c =
    no_value c.args.text.now c.args.self.now _ c.number_found.result c.requires c.is_negative.ensures c.number_found.ensures.none
