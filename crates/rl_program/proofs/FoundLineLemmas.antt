-- Lemmas about the value in the output line of a literal.
use Rattle.rl_lenient.proofs.Names.{Characters, Contents, Float, HasContents, HasSuffix, Int, Kind, ReadsAs, SpannedText, Str, is_single, quoted_contents}
use Rattle.std.proofs.Common.{◌≡◌, ℕ, List, [], ◌∷◌, ◌++◌, Result, IfOk, true, refl, sym, ap, subst, ◌∙◌}
use Rattle.std.proofs.lemmas.Result.{IfOk-weaker}
use Rattle.std.specs.Str.{chars}
use Rattle.rl_syntax.specs.Written.{written_text, IsWrittenForm}
use Rattle.rl_lenient.specs.declared.found.Found.{Found}
use Rattle.rl_lenient.specs.Founds.{IsFound}
use Rattle.rl_lenient.specs.NumberShapes.{AreDigits}
use Rattle.rl_lenient.proofs.FoundContents.{unit_of}
use Rattle.rl_program.specs.FoundLines.{IsShownOf}
use Rattle.rl_program.specs.Lines.{line, kind_label, payload, literal_line, IsLineOfKind, Appends}
use Rattle.rl_program.proofs.PrintLemmas.{prints_kind}

-- If a line with a literal's kind, its shown value and its suffix is appended to the output, the literal's output line
-- is appended.
pub shows_line : (kind : Kind) (text old new shown suffix : List ℕ) → IsShownOf kind text shown
    → HasSuffix kind text suffix → new ≡ old ++ line (kind_label kind) shown suffix
    → Appends (IsLineOfKind kind text) old new
shows_line kind text old new shown suffix (contents, has, is) s e = prints_kind kind text old new shown suffix contents
    has s is e

-- The output line of a string literal consists of its kind, its value written as a new string literal, and its suffix.
pub string_line : (text value suffix old new : List ℕ) → HasContents Str text (Characters (chars value))
    → HasSuffix Str text suffix → new ≡ old ++ literal_line Str (Characters (chars value)) suffix
    → Appends (IsLineOfKind Str text) old new
string_line text value suffix old new has s e = shows_line Str text old new (written_text Str (chars value)) suffix
    (Characters (chars value), has, refl) s e

-- If the value of a literal is written as a new literal, the new literal is the value that the output line shows.
pub written_shown : {E : Type 0} (r : Result SpannedText E) (kind other : Kind) (text value : List ℕ)
    (contents : Contents) → kind ≡ other → payload other contents ≡ written_text other value
    → HasContents kind text contents → IfOk r (λ l. IsWrittenForm other value (chars l.text))
    → IfOk r (λ l. IsShownOf kind text (chars l.text))
written_shown r kind other text value contents is same has w =
    IfOk-weaker r _ _ (λ l form. (
      contents,
      has,
      form.text_is ∙ sym same
          ∙ ap (λ (k : Kind). payload k contents) (sym is),
    )) w

-- If the value of a character or byte literal is written as a new literal, the new literal is the value that the output
-- line shows.
pub unit_shown : {E : Type 0} (r : Result SpannedText E) (kind : Kind) (text : List ℕ) (found : Found) → found.kind
    ≡ kind → is_single kind ≡ true → payload kind (quoted_contents kind (found.unit ∷ []))
    ≡ written_text kind (found.unit ∷ []) → IsFound text found
    → IfOk r (λ l. IsWrittenForm kind (found.unit ∷ []) (chars l.text))
    → IfOk r (λ l. IsShownOf found.kind (chars text) (chars l.text))
unit_shown r kind text found is single same f w =
    let contents = quoted_contents kind (found.unit ∷ []) in
    written_shown r found.kind kind (chars text) (found.unit ∷ []) contents is same
    (subst (λ (k : Kind). HasContents k (chars text) contents) (sym is) (unit_of kind text found is single f).reads)
    w

-- The digits of a number are the value that its output line shows.
pub number_shown : (kind : Kind) (text digits : List ℕ) → ReadsAs kind text → AreDigits kind text digits
    → IsShownOf kind text digits
number_shown Int text digits (v, x, r) are = (v, (x, r), sym (ap (payload Int) (are v x r)))
number_shown Float text digits (v, x, r) are = (
  v,
  (x, r),
  are r.numeral x r.reads
      ∙ sym (ap (payload Float) r.contents_is),
)
number_shown kind text digits reads are = absurd are
