-- The results of parsing the content of a quoted literal.
use Rattle.rl_flaws.proofs.Names.{◌≡◌, ◌≢◌, ◌≤◌, ◌<◌, ◌+◌, encode_utf8_all, encodes-append, encodes-chars, length, length-append, IsUtf8, ◌⊎◌, ℕ, true, false, List, [], ◌∷◌, ◌++◌, Some, None, refl, sym, ap, ◌∙◌, inl, inr, both_ways, append_assoc, arith, replicate, chars, Kind, is_single, raw_opener, is_apostrophe, BeginsStrictUnit, QuotedForm, CookedForm, RawForm, SingleForm, byte_len, form_opener, has_form, FoundOpener, found_opener, opener_at, front_complete, unit_rest, quoted_single, unit_rest_complete, unit_rest_sound, FlawAt, FlawKind, LineEnds, IsRestOf, Option, first_of, StopsAsRead, read_of, SuffixFlaw, CarriageReturn, EmptyBraces, MustEscape, NoBrace, NoHexDigit, NoUnicode, NotAscii, Nul, HexEscapeOutOfRange, UnicodeEscapeOutOfRange, Surrogate, TooManyDigits, UnknownEscape, is_flaw_of_unit, IsFlawAt, suffix_read_at, found_flaw, IsUnitUpTo, OpensSingle, OpensString, HasForm, front_of}
use Rattle.rl_lenient.proofs.Names.{first_passes}
use Rattle.rl_strict.specs.LineEnds.{IsGoodUnit, IsOfStretch}
use Rattle.rl_strict.proofs.ReadQuoted.{judged_by}
use Rattle.rl_strict.proofs.ReadLemmas.{form_flaw}
use Rattle.rl_strict.proofs.EndLemmas.{single_of}
use Rattle.std.proofs.Common.{option_map}

-- ---- the content of a character or byte literal

pub unit_at_front : (k : Kind) (t closing : List ℕ) → is_single k ≡ true → unit_rest k t ≡ Some closing
    → BeginsStrictUnit k t closing
unit_at_front k t closing s h =
    let f = unit_rest_sound k t closing (quoted_single k s) h in
    record { unit = f.unit; is_unit = f.is_unit; ends = f.may_end; text_is = f.text_is }

pub unit_up_to : (how : LineEnds) (k : Kind) (t closing : List ℕ) → is_single k ≡ true → IsGoodUnit k t closing
    → IsUnitUpTo k (read_of how t) (read_of how closing)
unit_up_to how k t closing s (inl (h, q)) = inl (
  unit_at_front k (read_of how t) (read_of how closing) s (single_of how k t s ∙ ap (option_map (read_of how)) h),
  first_of how is_apostrophe refl closing ∙ q,
)
unit_up_to how k t closing s (inr (same, none)) = inr (
  ap (read_of how) same,
  λ rest b q. go rest (unit_rest k t) refl (sym (single_of how k t s) ∙ ap (unit_rest k) b.text_is
      ∙ unit_rest_complete k b.unit rest b.is_unit b.ends) q,
)
  where
    go : (rest : List ℕ) (o : Option (List ℕ)) → unit_rest k t ≡ o → option_map (read_of how) (unit_rest k t) ≡ Some rest
        → first_passes is_apostrophe rest ≡ true → ⊥
    go rest None e h q =
        let left : None ≡ Some rest = sym (ap (option_map (read_of how)) e) ∙ h in
        absurd (cc)
    go rest (Some r) e h q =
        let left : Some (read_of how r) ≡ Some rest = sym (ap (option_map (read_of how)) e) ∙ h in
        let same : read_of how r ≡ rest = cc in
        both_ways (first_passes is_apostrophe r) (none r e)
        (sym (first_of how is_apostrophe refl r) ∙ ap (first_passes is_apostrophe) same ∙ q)

-- ---- the flaw that is found after the opening delimiter is a flaw of the whole text

pub flaw_after : (how : LineEnds) (form : QuotedForm) (k : Kind) (f : FlawKind) (t inside text piece rest : List ℕ)
    → has_form form k ≡ true → t ≡ form_opener form k ++ inside → StopsAsRead how form k f inside text piece rest
    → IsFlawAt t f (read_of how piece) (read_of how rest)
flaw_after how form k f t inside text piece rest has e h = form_flaw t form k inside f (read_of how piece)
    (read_of how rest) (ap opener_at e ∙ front_complete form k inside has) h.stops

-- ---- the opening delimiters of quoted literals

-- Only raw strings have hashes.
pub plain_form : (form : QuotedForm) (k : Kind) (h : List ℕ) → (form ≡ RawForm → ⊥) → has_form form k ≡ true
    → HasForm form k h
plain_form CookedForm k h other has = has
plain_form SingleForm k h other has = has
plain_form RawForm k h other has = absurd (other refl)

pub plain_front : (form : QuotedForm) (k : Kind) (h : List ℕ) → (form ≡ RawForm → ⊥) → form_opener form k
    ≡ front_of form k h
plain_front CookedForm k h other = refl
plain_front SingleForm k h other = refl
plain_front RawForm k h other = absurd (other refl)

pub raw_cut : (k : Kind) (front hashes rest : List ℕ) → front ≡ raw_opener k ++ (hashes ++ (34 ∷ []))
    → front ++ rest ≡ raw_opener k ++ (hashes ++ (34 ∷ rest))
raw_cut k front hashes rest e = ap (λ z. z ++ rest) e ∙ append_assoc (raw_opener k) (hashes ++ (34 ∷ [])) rest
    ∙ ap (λ z. raw_opener k ++ z) (append_assoc hashes (34 ∷ []) rest)

pub raw_front : (k : Kind) (t inside quote hashes rest : List ℕ) → t ≡ raw_opener k ++ inside → inside ≡ hashes ++ quote
    → quote ≡ 34 ∷ rest → t ≡ (raw_opener k ++ (hashes ++ (34 ∷ []))) ++ rest
raw_front k t inside quote hashes rest a b d = a ∙ ap (λ z. raw_opener k ++ z) (b ∙ ap (λ z. hashes ++ z) d)
    ∙ sym (raw_cut k (raw_opener k ++ (hashes ++ (34 ∷ []))) hashes rest refl)

-- ---- a text that doesn't begin as a quoted literal

pub string_told : (t : List ℕ) (k : Kind) → OpensString k t → ((inside : List ℕ) × (opener_at t
    ≡ found_opener CookedForm k inside)) ⊎ ((n : ℕ) × (inside : List ℕ) × (n < 256) × (opener_at t
    ≡ found_opener RawForm k (replicate n 35 ++ (34 ∷ inside))))
string_told t k (front, inside, (s, inl e), text) = inl (
  inside,
  ap opener_at (text ∙ ap (λ z. z ++ inside) e) ∙ front_complete CookedForm k inside s,
)
string_told t k (front, inside, (s, inr (n, few, e)), text) = inr (
  n,
  inside,
  few,
  ap opener_at (text ∙ raw_cut k front (replicate n 35) inside e)
      ∙ front_complete RawForm k (replicate n 35 ++ (34 ∷ inside)) s,
)

pub single_told : (t : List ℕ) (k : Kind) → OpensSingle k t → (inside : List ℕ) × (opener_at t
    ≡ found_opener SingleForm k inside)
single_told t k (s, (inside, text)) = (inside, ap opener_at text ∙ front_complete SingleForm k inside s)

-- A number for each form of a quoted literal. Different forms have different numbers.
tag : QuotedForm → ℕ
tag CookedForm = 1
tag RawForm = 2
tag SingleForm = 3

told_tag : FoundOpener → ℕ
told_tag None = 0
told_tag (Some p) = tag p.0

told_rest : FoundOpener → List ℕ
told_rest None = []
told_rest (Some p) = p.2

pub none_opens : (t : List ℕ) → opener_at t ≡ None → (k : Kind) → OpensString k t ⊎ OpensSingle k t → ⊥
unfolding told_tag tag
none_opens t h k (inl s) = elim (string_told t k s) [
  | inl p ↦ absurd (let e : 0 ≡ 1 = ap told_tag (sym h ∙ p.1) in (cc))
  | inr p ↦ absurd (let e : 0 ≡ 2 = ap told_tag (sym h ∙ p.3) in (cc))
]
none_opens t h k (inr s) = let p = single_told t k s in absurd (let e : 0 ≡ 3 = ap told_tag (sym h ∙ p.1) in (cc))

pub raw_none_opens : (t inside : List ℕ) (kind : Kind) → opener_at t ≡ found_opener RawForm kind inside
    → ((n : ℕ) (opened : List ℕ) → n ≤ 255 → inside ≡ replicate n 35 ++ (34 ∷ opened) → ⊥) → (k : Kind)
    → OpensString k t ⊎ OpensSingle k t → ⊥
unfolding told_tag told_rest tag
raw_none_opens t inside kind h none k (inr s) =
    let p = single_told t k s in absurd (let x : 2 ≡ 3 = ap told_tag (sym h ∙ p.1) in (cc))
raw_none_opens t inside kind h none k (inl s) = elim (string_told t k s) [
  | inl p ↦ absurd (let x : 2 ≡ 1 = ap told_tag (sym h ∙ p.1) in (cc))
  | inr p ↦ none p.0 p.1 (omega (arith, p.2)) (ap told_rest (sym h ∙ p.3))
]

-- ---- the flaws of a character or an escape

suffix_no_unit : (form : QuotedForm) (k : FlawKind) (front rest : List ℕ) → SuffixFlaw form k front rest → is_flaw_of_unit k
    ≡ false
suffix_no_unit form UnknownEscape front rest h = absurd h
suffix_no_unit form NoUnicode front rest h = absurd h
suffix_no_unit form NoHexDigit front rest h = absurd h
suffix_no_unit form NoBrace front rest h = absurd h
suffix_no_unit form EmptyBraces front rest h = absurd h
suffix_no_unit form TooManyDigits front rest h = absurd h
suffix_no_unit form HexEscapeOutOfRange front rest h = absurd h
suffix_no_unit form UnicodeEscapeOutOfRange front rest h = absurd h
suffix_no_unit form Surrogate front rest h = absurd h
suffix_no_unit form Nul front rest h = absurd h
suffix_no_unit form NotAscii front rest h = absurd h
suffix_no_unit form MustEscape front rest h = absurd h
suffix_no_unit form CarriageReturn front rest h = absurd h
suffix_no_unit form kind front rest h = refl

pub no_unit_suffix : (form : QuotedForm) (suffix : List ℕ) (f : FlawAt)
    → Some (found_flaw f.kind (chars f.rest.now)) ≡ suffix_read_at form suffix → is_flaw_of_unit f.kind ≡ true → ⊥
no_unit_suffix form suffix f h u =
    let j = judged_by form suffix (Some (found_flaw f.kind (chars f.rest.now))) h in
    both_ways (is_flaw_of_unit f.kind) (suffix_no_unit form f.kind j.1.stops.front (chars f.rest.now) j.1.spoils) u

-- ---- a flaw's piece, and the text from the flaw on, are ends of the text

pub part : (t a b : List ℕ) → IsUtf8 b → t ≡ a ++ chars b → byte_len t ≡ byte_len a + length b
part t a b u e = ap byte_len e ∙ ap length (encodes-append a (chars b)) ∙ length-append (encode_utf8_all a)
    (encode_utf8_all (chars b)) ∙ ap (λ x. byte_len a + length x) (encodes-chars b u)

pub opened_bytes : (t o r : List ℕ) → IsUtf8 t → IsUtf8 r → chars t ≡ o ++ chars r → byte_len o + length r ≤ length t
opened_bytes t o r ut ur e = omega (arith, part (chars t) o r ur e, ap length (encodes-chars t ut))

-- An end of a text has at most as many bytes as the text.
pub rest_room : (how : LineEnds) (t r : List ℕ) → IsUtf8 t → IsUtf8 r → IsRestOf how (chars t) (chars r)
    → length r ≤ length t
rest_room how t r ut ur i = omega (arith, part (chars t) i.front r ur i.text_is, ap length (encodes-chars t ut))

-- The piece of a flaw in a character or an escape isn't empty.
pub piece_some : (form : QuotedForm) (closing : List ℕ) (f : FlawAt) → IsOfStretch form closing f
    → is_flaw_of_unit f.kind ≡ true → chars f.piece.now ≢ []
piece_some form closing f (inl (at, over)) u none = both_ways (is_flaw_of_unit f.kind)
    (ap is_flaw_of_unit (over (ap chars (sym at) ∙ none))) u
piece_some form closing f (inr (suffix, h)) u none = absurd (no_unit_suffix form suffix f h u)
