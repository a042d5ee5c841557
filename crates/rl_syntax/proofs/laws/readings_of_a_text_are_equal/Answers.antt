use Rattle.rl_syntax.proofs.Theorems.{readings_of_a_text_are_one, strict_readings_of_a_text_are_one, a_reading_is_the_strict_one}
use Rattle.rl_syntax.proofs.laws.readings_of_a_text_are_equal.Goals as goal

pub returns-clause-readings : goal.returns-clause-readings
returns-clause-readings c = readings_of_a_text_are_one

pub returns-clause-strict : goal.returns-clause-strict
returns-clause-strict c = strict_readings_of_a_text_are_one

pub returns-clause-both : goal.returns-clause-both
returns-clause-both c = a_reading_is_the_strict_one
