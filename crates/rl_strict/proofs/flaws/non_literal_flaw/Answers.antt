use Rattle.rl_strict.proofs.Names.{ap, true, false, refl, ◌∙◌, end_flaw_at, NotALiteral, UnexpectedEnd}
use Rattle.rl_lexer.proofs.TruthWords.{truth_chars}
use Rattle.rl_strict.proofs.WordFlawLemmas.{false_place, true_place}
use Rattle.rl_strict.proofs.flaws.non_literal_flaw.Goals as goal

pub returns-in-Some-t-default : goal.returns-in-Some-t-default
returns-in-Some-t-default c = c.flaw_at_end_or_before.ensures
    ∙ ap (end_flaw_at UnexpectedEnd NotALiteral) c.skip_letters.ensures
    ∙ true_place _ _ _ _ c.in-Some-t-default.ensures.chars c.in-Some-t-default.field-0-0-test (truth_chars _ true refl)

pub returns-in-Some-f-default : goal.returns-in-Some-f-default
returns-in-Some-f-default c = c.flaw_at_end_or_before-in-Some-f-default.ensures ∙ ap (end_flaw_at UnexpectedEnd NotALiteral)
    c.skip_letters-in-Some-f-default.ensures ∙ false_place _ _ _ _ c.in-Some-f-default.ensures.chars
    c.in-Some-f-default.field-0-0-test (truth_chars _ false refl)
