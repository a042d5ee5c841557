-- The theorems of src/laws.rt, as lemmas that callers may cite.
use Rattle.rl_restyle.specs.Clean.{KeepsTheCleanSource}
use Rattle.rl_restyle.specs.Edits.{KeepsTheWholeSource, HasOneText}
use Rattle.rl_restyle.specs.SameTokens.{KeepsEachLiteral}
use Rattle.rl_restyle.proofs.CleanLemmas.{keeps_the_clean_source as keeps_the_clean_source_law}
use Rattle.rl_restyle.proofs.KeptCuts.{keeps_the_source_around_a_restyled_literal}
use Rattle.rl_restyle.proofs.OneText.{has_one_text as has_one_text_law}
use Rattle.rl_restyle.proofs.SameTokens.{keeps_each_literal as keeps_each_literal_law}

pub keeps_the_whole_source : KeepsTheWholeSource
keeps_the_whole_source = keeps_the_source_around_a_restyled_literal

pub keeps_the_clean_source : KeepsTheCleanSource
keeps_the_clean_source = keeps_the_clean_source_law

pub has_one_text : HasOneText
has_one_text = has_one_text_law

pub keeps_each_literal : KeepsEachLiteral
keeps_each_literal = keeps_each_literal_law
