use Rattle.rl_lenient.proofs.CutLemmas.{rsplit_once_some, rsplit_once_none}
use Rattle.rl_lenient.proofs.quoted_forms.split_last_quote.Goals as goal

pub returns-clause-some : goal.returns-clause-some
returns-clause-some c = rsplit_once_some _ _ c.rsplit_once.ensures.cases c.utf8.text

pub returns-clause-none : goal.returns-clause-none
returns-clause-none c = rsplit_once_none _ _ c.rsplit_once.ensures.cases c.utf8.text
