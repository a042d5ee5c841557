-- A text that begins neither as a number nor as a quoted literal is a literal token only if it is `true` or `false`. In the
-- text after an opening delimiter, and in the whole text, the longest prefix that can be completed ends at one position.
use Rattle.rl_strict.proofs.Names.{◌≡◌, ◌≢◌, ℕ, Bool, true, false, ◌==◌, List, [], ◌∷◌, ◌++◌, None, refl, sym, ap, subst, ◌∙◌, inl, inr, both_ways, or_right, is_ascii_digit, IsTrue, Reads, Kind, Str, ByteStr, CStr, Byte, Char, Int, Float, BoolKind, first_passes, HasReading, truth_text, Strict, number_front, strict_float, strict_int, exponent_text, fraction_text, passes_more, FlawKind, QuotedForm, StopsBefore, form_opener, HasStrictQuotedFlaw, StrictQuotedFlaw, ClosesForm, IsToken, is_number_front, found_opener, opener_at, front_complete, front_sound, front_not_quoted}
use Rattle.rl_syntax.proofs.Agreeing.{strict_reads}
use Rattle.rl_strict.proofs.Stops.{raised}
use Rattle.rl_strict.proofs.StrictLemmas.{IsStrictNumber, Opened, close_token, seen, told_token}

-- ---- numbers begin with a digit

number_digit : (t : List ℕ) → IsStrictNumber t → first_passes is_ascii_digit t ≡ true
number_digit t (v, x, inl s) =
    let r = (strict_int t x v s).reads in
    ap (first_passes is_ascii_digit) r.text_is ∙ number_front r.base r.digits x r.front
number_digit t (v, x, inr s) =
    let f = strict_float t x v s in
    let more : List ℕ = fraction_text f.fraction ++ exponent_text f.exponent in
    ap (first_passes is_ascii_digit) f.text_is
    ∙ passes_more is_ascii_digit (f.whole ++ more) x (passes_more is_ascii_digit f.whole more f.first)

-- A text that begins with a digit begins as a number.
pub digit_front : (t : List ℕ) → first_passes is_ascii_digit t ≡ true → first_passes is_number_front t ≡ true
digit_front [] h = absurd (cc)
digit_front (c ∷ cs) h = or_right (c == 45) (is_ascii_digit c) h

no_opener : (t : List ℕ) → opener_at t ≡ None → Opened t → ⊥
no_opener t h o =
    let found = sym h ∙ ap opener_at o.text_is ∙ front_complete o.form o.kind o.inside o.has in
    absurd (cc)

pub truth_no_digit : (b : Bool) → first_passes is_ascii_digit (truth_text b) ≡ false
truth_no_digit true = refl
truth_no_digit false = refl

pub token_number : (t : List ℕ) → first_passes is_ascii_digit t ≡ true → IsToken t → IsStrictNumber t
token_number t d c =
    elim (seen t c.kind c.contents c.suffix c.strict) [
      | inl o ↦ absurd (no_opener t (front_not_quoted t (digit_front t d)) o)
      | inr w ↦ elim w [
        | inl n ↦ n
        | inr v ↦ absurd (both_ways (first_passes is_ascii_digit t) (ap (first_passes is_ascii_digit) v.1
            ∙ truth_no_digit v.0) d)
      ]
    ]

-- ---- texts that aren't literal tokens

pub no_token : (t : List ℕ) → opener_at t ≡ None → first_passes is_ascii_digit t ≡ false → ((b : Bool) → t
    ≢ truth_text b) → IsToken t → ⊥
no_token t opener digit truth c =
    elim (seen t c.kind c.contents c.suffix c.strict) [
      | inl o ↦ no_opener t opener o
      | inr w ↦ elim w [
        | inl n ↦ both_ways (first_passes is_ascii_digit t) digit (number_digit t n)
        | inr v ↦ truth v.0 v.1
      ]
    ]

-- A literal token that isn't a number parses by `syn`'s grammar.
pub token_reads : (t : List ℕ) → first_passes is_ascii_digit t ≡ false → IsToken t → HasReading t
token_reads t n c = (c.kind, (c.contents, c.suffix, go c.kind c.strict))
  where
    go : (k : Kind) → Strict t k c.contents c.suffix → Reads t k c.contents c.suffix
    go Str s = strict_reads t Str c.contents c.suffix s tt
    go ByteStr s = strict_reads t ByteStr c.contents c.suffix s tt
    go CStr s = strict_reads t CStr c.contents c.suffix s tt
    go Byte s = strict_reads t Byte c.contents c.suffix s tt
    go Char s = strict_reads t Char c.contents c.suffix s tt
    go Int s = absurd (both_ways (first_passes is_ascii_digit t) n (number_digit t (c.contents, c.suffix, inl s)))
    go Float s = strict_reads t Float c.contents c.suffix s tt
    go BoolKind s = strict_reads t BoolKind c.contents c.suffix s tt

-- ---- the text after an opening delimiter

pub stops_token : (t : List ℕ) (form : QuotedForm) (kind : Kind) (inside rest : List ℕ) → opener_at t
    ≡ found_opener form kind inside → StopsBefore (ClosesForm form kind) inside rest → StopsBefore IsToken t rest
stops_token t form kind inside rest h s =
    let told = front_sound t (form, kind, inside) h in
    let before : List ℕ = form_opener form kind in
    subst (λ z. StopsBefore IsToken z rest) (sym told.text_is)
    (raised (ClosesForm form kind) IsToken before inside rest s
    (λ y. close_token form kind (before ++ (s.front ++ s.begins.ending)) (s.front ++ s.begins.ending) told.has refl y)
    (λ c cs e same y.
    let inner : List ℕ = s.front ++ (c ∷ e) in
    let none : IsTrue false → ClosesForm form kind inner = λ n. absurd (both_ways false refl n) in
    let back : ClosesForm form kind inner → IsTrue false = λ k. absurd (s.stuck c cs e same k) in
    absurd (both_ways false refl ((told_token (before ++ inner) (form, kind, inner) false
    (sym (front_complete form kind inner told.has)) (none, back)).1 y))))

pub strict_quoted_has : (t : List ℕ) (form : QuotedForm) (kind : Kind) (inside : List ℕ) (k : FlawKind)
    (piece rest : List ℕ) → opener_at t ≡ found_opener form kind inside
    → StrictQuotedFlaw form kind k inside piece rest → HasStrictQuotedFlaw k t piece rest
strict_quoted_has t form kind inside k piece rest h f =
    let told = front_sound t (form, kind, inside) h in
    record { form = form; kind = kind; inside = inside; is_form = told.has; text_is = told.text_is; spoils = f }
