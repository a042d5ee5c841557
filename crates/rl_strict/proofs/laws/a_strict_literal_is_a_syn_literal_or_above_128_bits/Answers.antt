use Rattle.rl_strict.proofs.Theorems.{a_token_reads_or_is_past_the_limit, an_unread_token_is_past_the_limit}
use Rattle.rl_strict.proofs.laws.a_strict_literal_is_a_syn_literal_or_above_128_bits.Goals as goal

pub returns-clause-either : goal.returns-clause-either
returns-clause-either c = a_token_reads_or_is_past_the_limit

pub returns-clause-unread : goal.returns-clause-unread
returns-clause-unread c = an_unread_token_is_past_the_limit
