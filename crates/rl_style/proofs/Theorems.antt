-- The theorems of src/laws.rt, as lemmas that callers may cite.
use Rattle.rl_style.specs.Laws.{ARewrittenLiteralIsTheSame, ARewrittenLiteralIsTheSameExceptFloatZero, TheSameLiteralReadsAlike, TheSameLiteralIsStrictAlike, ARewrittenTextStays, ALiteralHasOneTextInAStyle, NoRuleChangesNothing}
use Rattle.rl_style.specs.Around.{StaysAround, KeepsItsEnds, StaysBeforeQuote}
use Rattle.rl_style.specs.Recut.{KeepsTheTokens, KeepsTheSource, KeepsTheTokensUnraw}
use Rattle.rl_style.specs.Restyled.{KeepsTheTokensAroundARestyledLiteral, KeepsTheSourceAroundARestyledLiteral, KeepsTheTokensOfEdits, KeepsTheEditedSource}
use Rattle.rl_style.proofs.SameLiterals.{same, same_number, stays}
use Rattle.rl_style.proofs.ReadsAlike.{reads_alike, strict_alike}
use Rattle.rl_style.proofs.OneAnswer.{one_answer}
use Rattle.rl_style.proofs.NoRule.{nothing_changes}
use Rattle.rl_style.proofs.Stays.{stays_around as stays_around_law}
use Rattle.rl_style.proofs.Ends.{keeps_its_ends as keeps_its_ends_law}
use Rattle.rl_style.proofs.Recut.{keeps_the_tokens as keeps_the_cut_law}
use Rattle.rl_style.proofs.WholeSource.{keeps_the_source as keeps_the_source_law}
use Rattle.rl_style.proofs.RestyledCuts.{keeps_the_tokens_around_a_restyled_literal as keeps_the_restyled_cut_law, keeps_the_source_around_a_restyled_literal as keeps_the_restyled_source_law}
use Rattle.rl_style.proofs.EditedCuts.{keeps_the_tokens_of_edits as keeps_the_edited_cut_law, keeps_the_edited_source as keeps_the_edited_source_law}
use Rattle.rl_style.proofs.Unraws.{unraws_around}
use Rattle.rl_style.proofs.UnrawCuts.{keeps_the_tokens_unraw as keeps_the_cut_unraw_law}

pub a_rewritten_literal_is_the_same : ARewrittenLiteralIsTheSame
a_rewritten_literal_is_the_same = same

pub a_rewritten_literal_is_the_same_except_float_zero : ARewrittenLiteralIsTheSameExceptFloatZero
a_rewritten_literal_is_the_same_except_float_zero = same_number

pub the_same_literal_reads_alike : TheSameLiteralReadsAlike
the_same_literal_reads_alike = reads_alike

pub the_same_literal_is_strict_alike : TheSameLiteralIsStrictAlike
the_same_literal_is_strict_alike = strict_alike

pub a_rewritten_text_stays : ARewrittenTextStays
a_rewritten_text_stays = stays

pub a_literal_has_one_text_in_a_style : ALiteralHasOneTextInAStyle
a_literal_has_one_text_in_a_style = one_answer

pub no_rule_changes_nothing : NoRuleChangesNothing
no_rule_changes_nothing = nothing_changes

pub stays_around : StaysAround
stays_around = stays_around_law

pub keeps_its_ends : KeepsItsEnds
keeps_its_ends = keeps_its_ends_law

pub keeps_the_tokens : KeepsTheTokens
keeps_the_tokens = keeps_the_cut_law

pub keeps_the_source : KeepsTheSource
keeps_the_source = keeps_the_source_law

pub keeps_the_tokens_around_a_restyled_literal : KeepsTheTokensAroundARestyledLiteral
keeps_the_tokens_around_a_restyled_literal = keeps_the_restyled_cut_law

pub keeps_the_source_around_a_restyled_literal : KeepsTheSourceAroundARestyledLiteral
keeps_the_source_around_a_restyled_literal = keeps_the_restyled_source_law

pub keeps_the_tokens_of_edits : KeepsTheTokensOfEdits
keeps_the_tokens_of_edits = keeps_the_edited_cut_law

pub keeps_the_edited_source : KeepsTheEditedSource
keeps_the_edited_source = keeps_the_edited_source_law

pub stays_before_quote : StaysBeforeQuote
stays_before_quote = unraws_around

pub keeps_the_tokens_unraw : KeepsTheTokensUnraw
keeps_the_tokens_unraw = keeps_the_cut_unraw_law
