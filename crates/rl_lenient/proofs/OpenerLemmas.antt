-- A text that begins with the opening delimiter of a quoted literal is a quoted literal, or isn't a literal.
use Rattle.rl_syntax.proofs.Common.{◌≡◌, ℕ, Bool, true, false, List, ◌++◌, None, refl, sym, ap, ◌∙◌}
use Rattle.rl_lenient.proofs.Names.{Kind, first_passes, HasNoReading, HasNoTruth, truth_text}
use Rattle.rl_lenient.specs.declared.quoted_forms.QuotedForm.{QuotedForm}
use Rattle.rl_lenient.specs.Forms.{HasNoParts, form_opener}
use Rattle.rl_lenient.specs.Mirrors.OpenerAt.{found_opener, opener_at}
use Rattle.rl_lenient.specs.WholeShapes.{is_number_front}
use Rattle.rl_lenient.proofs.FormLemmas.{no_parts}
use Rattle.rl_lenient.proofs.ReadingLemmas.{front_not_quoted, no_front_number, no_reading}

-- ---- a text with an opening delimiter is a quoted literal, or isn't a literal

opener_no_number : (t : List ℕ) (form : QuotedForm) (kind : Kind) (inside : List ℕ) → opener_at t
    ≡ found_opener form kind inside → first_passes is_number_front t ≡ false
opener_no_number t form kind inside h = go (first_passes is_number_front t) refl
  where
    go : (b : Bool) → first_passes is_number_front t ≡ b → b ≡ false
    go true e = let h : None ≡ found_opener form kind inside = sym (front_not_quoted t e) ∙ h in absurd (cc)
    go false e = refl

pub word_has_none : (b : Bool) → opener_at (truth_text b) ≡ None
unfolding opener_at
word_has_none true = refl
word_has_none false = refl

opener_no_truth : (t : List ℕ) (form : QuotedForm) (kind : Kind) (inside : List ℕ) → opener_at t
    ≡ found_opener form kind inside → HasNoTruth t
opener_no_truth t form kind inside h v x r = let e : None ≡ found_opener form kind inside = sym (word_has_none r.truth)
    ∙ ap opener_at (sym r.text_is) ∙ h in absurd (cc)

pub only_quoted : (t : List ℕ) (form : QuotedForm) (kind : Kind) (inside : List ℕ) → opener_at t
    ≡ found_opener form kind inside → HasNoParts form kind (form_opener form kind ++ inside) → HasNoReading t
only_quoted t form kind inside h none = no_reading t (no_parts t form kind inside h none)
    (no_front_number t (opener_no_number t form kind inside h)) (opener_no_truth t form kind inside h)
