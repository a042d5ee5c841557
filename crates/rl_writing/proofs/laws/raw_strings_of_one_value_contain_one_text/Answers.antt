use Rattle.rl_writing.proofs.Theorems.{raw_strings_of_one_value_contain_one_text}
use Rattle.rl_writing.proofs.laws.raw_strings_of_one_value_contain_one_text.Goals as goal

pub returns : goal.returns
returns c = raw_strings_of_one_value_contain_one_text
