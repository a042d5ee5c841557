use Rattle.rl_syntax.proofs.TailLemmas.{tail_step}
use Rattle.rl_lexer.proofs.SourceCuts.{begun}
use Rattle.rl_lexer.proofs.sources.Sources.new.Goals as goal

pub invariant_of-result : goal.invariant_of-result
invariant_of-result c = record { is_text = c.utf8.text; following = tail_step _ _ _ c.without_preamble.ensures.following c.skip.ensures.following }

pub returns-clause-begun : goal.returns-clause-begun
returns-clause-begun c = begun _ _ _ c.utf8.text c.without_preamble.ensures.following c.without_preamble.ensures.front
    c.skip.ensures.skipped

pub returns-clause-following : goal.returns-clause-following
returns-clause-following c = record { is_text = c.utf8.text; following = tail_step _ _ _ c.without_preamble.ensures.following c.skip.ensures.following }
