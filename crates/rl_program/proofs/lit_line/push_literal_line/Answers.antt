use Rattle.rl_syntax.proofs.Common.{[], ap, chars, on_ok_weaker, refl, ◌∙◌, ◌≡◌}
use Rattle.rl_syntax.specs.declared.kind.Kind.TheVariants.{Int, Bool}
use Rattle.rl_syntax.specs.Reading.{Digits, Truth, truth_text}
use Rattle.rl_program.specs.Lines.{literal_line}
use Rattle.rl_program.proofs.PrintLemmas.{prints_kind, truth_chars, no_chars, appends_is}
use Rattle.rl_program.proofs.LitLineLemmas.{prints_float}
use Rattle.rl_program.proofs.lit_line.push_literal_line.Goals as goal

pub returns-in-Int : goal.returns-in-Int
returns-in-Int g c =
    rw c.in-Int.is (on_ok_weaker c.push_line_of_kind.result (λ e. prints_kind Int (chars c.in-Int.number.text) _ _ _
    (chars c.suffix.result.now) (Digits (chars c.base10_digits.result.now)) c.base10_digits.ensures c.suffix.ensures
    refl e) c.push_line_of_kind.ensures)

pub returns-in-Float : goal.returns-in-Float
returns-in-Float g c =
    rw c.in-Float.is (on_ok_weaker c.push_line_of_kind-in-Float.result
    (λ e. prints_float (chars c.in-Float.number.text) _ _ (chars c.base10_digits-in-Float.result.now)
    (chars c.suffix-in-Float.result.now) c.base10_digits-in-Float.ensures c.suffix-in-Float.ensures e)
    c.push_line_of_kind-in-Float.ensures)

pub returns-in-Bool : goal.returns-in-Bool
returns-in-Bool g c =
    let truth = c.in-Bool.truth.value in
    let word : chars c.bool_word.result.now ≡ truth_text truth = ap chars c.bool_word.ensures ∙ truth_chars _
    ∙ ap truth_text c.value.ensures in
    rw c.in-Bool.is (on_ok_weaker c.push_line_of_kind-in-Bool.result (λ e. appends_is (literal_line Bool (Truth truth) []) _ _
    (rw (word, no_chars) at e)) c.push_line_of_kind-in-Bool.ensures)
