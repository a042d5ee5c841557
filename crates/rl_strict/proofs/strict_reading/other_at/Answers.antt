use Rattle.rl_strict.proofs.Names.{sym}
use Rattle.rl_strict.proofs.FileStrings.{token_of, truth_reads}
use Rattle.rl_strict.proofs.StrictLemmas.{truth_token}
use Rattle.rl_strict.proofs.strict_reading.other_at.Goals as goal

pub quoted_at-requires : goal.quoted_at-requires
quoted_at-requires c = sym c.in-Some.ensures

pub returns-in-Some-bool_of-clause-reads : goal.returns-in-Some-bool_of-clause-reads
returns-in-Some-bool_of-clause-reads c = truth_reads c.args.ends _ _ (truth_token _ _ c.in-Some-bool_of.ensures.some)
    c.in-Some-bool_of.ensures.some

pub returns-in-Some-bool_of-clause-token : goal.returns-in-Some-bool_of-clause-token
returns-in-Some-bool_of-clause-token c = token_of c.args.ends _ (truth_token _ _ c.in-Some-bool_of.ensures.some)

pub returns-in-None-bool_of-clause-flaw : goal.returns-in-None-bool_of-clause-flaw
returns-in-None-bool_of-clause-flaw c = c.word_flaw.ensures c.args.ends
