use Rattle.rl_style.proofs.Theorems.{the_same_literal_reads_alike, the_same_literal_is_strict_alike}
use Rattle.rl_style.proofs.laws.equal_literals_have_equal_readings.Goals as goal

pub returns-clause-reads : goal.returns-clause-reads
returns-clause-reads c = the_same_literal_reads_alike

pub returns-clause-strict : goal.returns-clause-strict
returns-clause-strict c = the_same_literal_is_strict_alike
