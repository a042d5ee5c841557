-- Lemmas: the output line of a `Lit` is the output line of the text from which the `Lit` was parsed.
use Rattle.rl_lenient.proofs.Names.{Byte, ByteStr, CStr, Char, Digits, Float, FloatReads, Int, Kind, Reads, ReadsAs, SpannedText, Str, Truth, float_digits, truth_text}
use Rattle.rl_syntax.proofs.Common.{List, [], ap, chars, inl, inr, refl, subst, sym, ℕ, ◌++◌, ◌∙◌, ◌≡◌}
use Rattle.rl_syntax.specs.declared.kind.Kind.TheVariants.{Bool}
use Rattle.rl_syntax.proofs.OneNumber.{float_once}
use Rattle.rl_syntax.proofs.OneReading.{one_reading}
use Rattle.rust_literals.specs.declared.lit.Lit.{Lit}
use Rattle.rust_literals.specs.declared.lit.Lit.TheVariants.{Str as StrLit, ByteStr as ByteStrLit, CStr as CStrLit, Byte as ByteLit, Char as CharLit, Int as IntLit, Float as FloatLit, Bool as BoolLit, Verbatim}
use Rattle.rust_literals.specs.Literals.{IsReadFrom}
use Rattle.rust_literals.proofs.LitLemmas.{truth_reads}
use Rattle.rl_program.specs.Lines.{line, kind_label, literal_line, verbatim_line, Appends, IsLineOf, IsLineOfKind}
use Rattle.rl_program.specs.LitLines.{IsLineOfFloat, IsLineOfLit}

-- The text of a literal is the text of the token from which the literal was parsed.
same_text : (l token : SpannedText) (t : List ℕ) → l ≡ token → token.text ≡ t → chars l.text ≡ chars t
same_text l token t e k = ap chars (ap (λ z. z.text) e ∙ k)

kind_line : (kind : Kind) (l token : SpannedText) (t shown : List ℕ) → l ≡ token → token.text ≡ t
    → IsLineOfKind kind (chars l.text) shown → IsLineOf (chars t) shown
kind_line kind l token t shown e k p =
    inl (kind, p.0, p.1, subst (λ z. Reads z kind p.0 p.1) (same_text l token t e k) p.2, p.3)

float_line : (l token : SpannedText) (t shown : List ℕ) → l ≡ token → token.text ≡ t → ReadsAs Float (chars token.text)
    → IsLineOfFloat (chars l.text) shown → IsLineOf (chars t) shown
float_line l token t shown e k r p =
    let same : chars l.text ≡ chars token.text = ap (λ z. chars z.text) e in
    let one = float_once (chars l.text) p.0 r.2.numeral p.1 r.1 p.2 (rw same r.2.reads) in
    let digits : Digits (float_digits p.0) ≡ r.0 = ap (λ z. Digits (float_digits z)) one.0 ∙ sym r.2.contents_is in
    inl (
      Float,
      r.0,
      r.1,
      subst (λ z. Reads z Float r.0 r.1) (ap chars k) r.2,
      p.3
          ∙ ap (λ z. literal_line Float z p.1) digits ∙ ap (λ z. literal_line Float r.0 z) one.1,
    )

-- The output line of a literal is the output line of the text of its token.
pub line_of_text : {A : Type 0} (token : SpannedText) (literal : Lit A) (t shown : List ℕ) → IsReadFrom token literal
    → token.text ≡ t → IsLineOfLit literal shown → IsLineOf (chars t) shown
line_of_text token (StrLit l) t shown r k p = kind_line Str l token t shown r.0 k p
line_of_text token (ByteStrLit l) t shown r k p = kind_line ByteStr l token t shown r.0 k p
line_of_text token (CStrLit l) t shown r k p = kind_line CStr l token t shown r.0 k p
line_of_text token (ByteLit l) t shown r k p = kind_line Byte l token t shown r.0 k p
line_of_text token (CharLit l) t shown r k p = kind_line Char l token t shown r.0 k p
line_of_text token (IntLit l) t shown r k p = kind_line Int l token t shown r.0 k p
line_of_text token (FloatLit l) t shown r k p = float_line l token t shown r.0 k r.1 p
line_of_text token (BoolLit l) t shown r k p =
    let word : token.text ≡ truth_text l.value = sym (ap (λ z. z.text) r.0) in
    inl (
      Bool,
      Truth l.value,
      [],
      subst (λ z. Reads z Bool (Truth l.value) []) (ap chars k)
          (truth_reads token.text l.value word),
      p,
    )
line_of_text token (Verbatim l) t shown r k p =
    let same : chars l.text ≡ chars t = same_text l token t r.0 k in
    inr (rw (ap chars (sym k)) r.1, p ∙ ap verbatim_line same)

-- The output line of a float is the output line of the text of its token.
pub prints_float : (text old new shown suffix : List ℕ) → ((n x : List ℕ) × FloatReads text n x
    × (shown ≡ float_digits n)) → ((n : List ℕ) × FloatReads text n suffix) → new ≡ old
    ++ line (kind_label Float) shown suffix → Appends (IsLineOfFloat text) old new
prints_float text old new shown suffix d s h =
    let one = float_once text d.0 s.0 d.1 suffix d.2 s.1 in (
      literal_line Float (Digits (float_digits s.0)) suffix,
      (s.0, suffix, s.1, refl),
      h
          ∙ ap (λ z. old ++ line (kind_label Float) z suffix) (d.3 ∙ ap float_digits one.0),
    )

-- If a text is parsed as a kind, its output line is the output line for that kind.
pub kind_lined : (kind : Kind) (t shown : List ℕ) → ReadsAs kind t → IsLineOf t shown → IsLineOfKind kind t shown
kind_lined kind t shown r (inl (k, contents, suffix, reads, is)) =
    let one = one_reading t k kind contents r.0 suffix r.1 reads r.2 in
    (contents, suffix, subst (λ (z : Kind). Reads t z contents suffix) one.0 reads, is ∙ ap (λ (z : Kind). literal_line z contents suffix) one.0)
kind_lined kind t shown r (inr (none, is)) = absurd (none kind r.0 r.1 r.2)
