use Rattle.rl_scan.proofs.AcceptLemmas.{none_still}
use Rattle.rl_scan.proofs.errors.next_token.Goals as goal

pub returns-then-all-clause-none : goal.returns-then-all-clause-none
returns-then-all-clause-none c = none_still c.next.result c.args.tokens.now c.next.new.self c.next.ensures.none
    c.next.ensures.stays
