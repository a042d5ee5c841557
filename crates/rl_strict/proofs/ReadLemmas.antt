-- The parse result of a text with an opening delimiter or a minus, given the result for the text after the delimiter or the
-- minus.
use Rattle.rl_strict.proofs.Names.{◌≡◌, ℕ, Bool, true, false, List, ◌∷◌, refl, sym, ap, subst, ◌∙◌, inl, inr, both_ways, is_ascii_digit, IsTrue, IsUtf8, ◌↔◌, Kind, Str, Char, first_passes, is_string, Result, Ok, Err, IfOk, IfErr, is_ok, chars, IsTail, cut_boundary, cut_drop, Body, QuotedForm, CookedForm, SingleForm, IsFound, IsQuotedAt, found_opener, opener_at, front_complete, front_sound, OfUnit, quoted_found, no_unit, ClosesForm, IsToken, FlawKind, StopsIn, Flaw, Reading, Number, ExplainsStrictly, IsFloatRead, IsIntegerRead, IsNumberRead, IsStop, suffix_of, IsFlawAt, IsMinusStop, IsStrictReading, IsSignedRead, placed_in, NoNumber, UnexpectedEnd, end_flaw_at, found_flaw}
use Rattle.rl_strict.proofs.StrictLemmas.{close_token, told_token}
use Rattle.rl_strict.specs.declared.read_numbers.Number.TheVariants.{Integer, Float}
use Rattle.rl_strict.proofs.SignedFlaws.{no_digit, number_of, number_stops}
use Rattle.rl_strict.proofs.StrictTokens.{stops_token, strict_quoted_has}

-- A text that begins with `"` begins with the opening delimiter of a string with escapes.
pub string_opens : (t inside : List ℕ) → t ≡ 34 ∷ inside → opener_at t ≡ found_opener CookedForm Str inside
string_opens t inside e = ap opener_at e ∙ front_complete CookedForm Str inside refl

pub character_opens : (t inside : List ℕ) → t ≡ 39 ∷ inside → opener_at t ≡ found_opener SingleForm Char inside
character_opens t inside e = ap opener_at e ∙ front_complete SingleForm Char inside refl

-- A text is a literal token if the text after its opening delimiter closes the literal.
pub form_token : (t : List ℕ) (form : QuotedForm) (kind : Kind) (inside : List ℕ) → opener_at t
    ≡ found_opener form kind inside → ClosesForm form kind inside → IsToken t
form_token t form kind inside h c =
    let told = front_sound t (form, kind, inside) h in
    close_token form kind t inside told.has told.text_is c

-- A flaw in the text after an opening delimiter is a flaw of the whole text.
pub form_flaw : (t : List ℕ) (form : QuotedForm) (kind : Kind) (inside : List ℕ) (k : FlawKind) (piece rest : List ℕ)
    → opener_at t ≡ found_opener form kind inside → StopsIn form kind k inside piece rest → IsFlawAt t k piece rest
form_flaw t form kind inside k piece rest h s =
    let off : IsTrue false → ClosesForm form kind inside = λ n. absurd (both_ways false refl n) in
    let back : ClosesForm form kind inside → IsTrue false = λ c. absurd (s.none c) in
    record {
      none = λ y. both_ways false refl ((told_token t (form, kind, inside) false (sym h) (off, back)).1 y);
      stops = stops_token t form kind inside rest h s.stops;
      says = inl (strict_quoted_has t form kind inside k piece rest h s.has);
    }

-- If `body` has the byte offsets of a string's parts, it is the result of `parse_literal` for the string.
pub text_found : (t : List ℕ) (kind : Kind) (body : Body) → is_string kind ≡ true → IsUtf8 t → IsQuotedAt kind t body
    → IsFound t (OfUnit kind body 0)
text_found t kind body s u q = quoted_found t kind body 0 (OfUnit kind body 0) u q (no_unit kind q.value s) refl

-- ---- the text after a minus

pub minus_number : (t : List ℕ) (k : FlawKind) (rest : List ℕ) → first_passes is_ascii_digit t ≡ true → IsStop t k rest
    → IsMinusStop t k rest
minus_number t k rest d s = record { none = λ y. s.none (number_of t y).1; stops = number_stops t rest d s.stops; says = inl (d, s.kind) }

pub minus_alone : (t : List ℕ) (k : FlawKind) (rest : List ℕ) → first_passes is_ascii_digit t ≡ false
    → found_flaw k rest ≡ end_flaw_at UnexpectedEnd NoNumber t → IsMinusStop t k rest
minus_alone t k rest n same =
    let flaw = no_digit t (found_flaw k rest) n same in
    record { none = λ y. both_ways (first_passes is_ascii_digit t) n (number_of t y).0; stops = flaw.stops; says = flaw.has }

-- ---- a number by the byte offset of its suffix

pub number_placed : (t : List ℕ) (n : Number) (r : Reading) → r ≡ placed_in t n → IsNumberRead (chars t) n
    → IsTail t (suffix_of n) → IsStrictReading t r
number_placed t (Integer m x) r e h tail = subst (IsStrictReading t) (sym e) (
  cut_boundary t x.now tail,
  subst (λ z. IsIntegerRead (chars t) m (chars z)) (sym (cut_drop t x.now tail)) h,
)
number_placed t (Float x) r e h tail = subst (IsStrictReading t) (sym e) (
  cut_boundary t x.now tail,
  subst (λ z. IsFloatRead (chars t) (chars z)) (sym (cut_drop t x.now tail)) h,
)

pub minus_placed : (t u : List ℕ) (n : Number) (r : Reading) → r ≡ placed_in t n → chars t ≡ 45 ∷ chars u
    → IsNumberRead (chars u) n → IsTail t (suffix_of n) → IsSignedRead t r
minus_placed t u (Integer m x) r e text h tail = subst (IsSignedRead t) (sym e) (inr (
  chars u,
  text,
  cut_boundary t x.now tail,
  subst (λ z. IsIntegerRead (chars u) m (chars z)) (sym (cut_drop t x.now tail)) h,
))
minus_placed t u (Float x) r e text h tail = subst (IsSignedRead t) (sym e) (inr (
  chars u,
  text,
  cut_boundary t x.now tail,
  subst (λ z. IsFloatRead (chars u) (chars z)) (sym (cut_drop t x.now tail)) h,
))

-- ---- a text parses if and only if it is a literal token

pub token_where : (t : List ℕ) (r : Result Reading Flaw) (b : Bool) → IfOk r (λ a. IsToken t)
    → IfErr r (ExplainsStrictly t) → b ≡ is_ok r → IsTrue b ↔ IsToken t
token_where t (Ok a) b y n e = (λ h. y, λ k. e)
token_where t (Err f) b y n e = (λ h. absurd (both_ways b e h), λ k. absurd (n.no_token k))
