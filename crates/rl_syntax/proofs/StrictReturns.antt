-- A literal of Rust's grammar contains no CR.
use Rattle.rl_syntax.proofs.Common.{◌≡◌, ℕ, zero, suc, ◌||◌, ◌&&◌, Bool, true, false, not, eqb, List, [], ◌∷◌, ◌++◌, replicate, refl, ap, ◌∙◌, ◌⊎◌, inl, inr, arith, nat_lt, codes, if◌then◌else◌, digit_value, is_ascii_digit, is_ascii_hexdigit, all_scalars, list_all, flat_map, list_all-append, and_parts, and_from, not_from_false}
use Rattle.rl_syntax.specs.declared.kind.Kind.{Kind}
use Rattle.rl_syntax.specs.declared.kind.Kind.TheVariants.{Str, ByteStr, CStr, Byte, Char, Int, Float, Bool as BoolKind}
use Rattle.rl_syntax.specs.Reading.{Contents}
use Rattle.rl_syntax.specs.Strict.{Strict, IsStrictSuffix, StrictUnit, Itself, QuoteEscape, PlainEscape, AsciiEscape, ByteEscape, UnicodeEscape, LineBreak, spaced_digit, strict_text, is_plain_letter, is_octal, is_unicode_escape, spaced_value, is_strict_unit, strict_opener, strict_closer, StrictCooked, StrictRaw, strict_raw_opener, IsDigits, StrictInt, IsStrictExponent, StrictFloat}
use Rattle.rl_syntax.specs.Texts.{is_dropped_blank, is_run_part}
use Rattle.rl_syntax.proofs.Basics.{apart, all_weaker, word_without}
use Rattle.rl_syntax.proofs.StrictQuoted.{not_return}
use Rattle.rl_syntax.specs.Spelling.{place_value}

abbrev pub no_return_in : List ℕ → Bool
no_return_in t = list_all (λ c. not (eqb c 13)) t

join : (a b : List ℕ) → no_return_in a ≡ true → no_return_in b ≡ true → no_return_in (a ++ b) ≡ true
join a b p q = list_all-append (λ c. not (eqb c 13)) a b ∙ and_from (no_return_in a) (no_return_in b) p q

before : (c : ℕ) (t : List ℕ) → eqb c 13 ≡ false → no_return_in t ≡ true → no_return_in (c ∷ t) ≡ true
before c t p q = and_from (not (eqb c 13)) (no_return_in t) (not_from_false (eqb c 13) p) q

row_of : (test : ℕ → Bool) (t : List ℕ) → test 13 ≡ false → list_all test t ≡ true → no_return_in t ≡ true
row_of test t p h = all_weaker test (λ c. not (eqb c 13)) (λ c q. not_from_false (eqb c 13) (apart test c 13 q p)) t h

repeated : (n c : ℕ) → eqb c 13 ≡ false → no_return_in (replicate n c) ≡ true
repeated zero c h = refl
repeated (suc n) c h = before c (replicate n c) h (repeated n c h)

in_suffix : (x : List ℕ) → IsStrictSuffix x → no_return_in x ≡ true
in_suffix x (inl e) = ap no_return_in e
in_suffix x (inr w) = word_without 13 x (omega arith) refl w.identifier

spaced : (ds : List (ℕ × ℕ)) → list_all (λ d. is_ascii_hexdigit d.0) ds ≡ true → no_return_in (flat_map spaced_digit ds)
    ≡ true
spaced [] h = refl
spaced (d ∷ ds) h =
    let p = and_parts (is_ascii_hexdigit d.0) (list_all (λ d. is_ascii_hexdigit d.0) ds) h in
    before d.0 (replicate d.1 95 ++ flat_map spaced_digit ds) (apart is_ascii_hexdigit d.0 13 p.0 refl)
    (join (replicate d.1 95) (flat_map spaced_digit ds) (repeated d.1 95 refl) (spaced ds p.1))

all_hexadecimal : (ds : List (ℕ × ℕ)) → is_unicode_escape ds ≡ true → list_all (λ d. is_ascii_hexdigit d.0) ds ≡ true
all_hexadecimal ds h = (and_parts _ (list_all (λ d. is_ascii_hexdigit d.0) ds)
    (and_parts _ (all_scalars (spaced_value ds ∷ [])) h).0).1

braced : (ds : List (ℕ × ℕ)) → is_unicode_escape ds ≡ true → no_return_in (strict_text (UnicodeEscape ds)) ≡ true
braced ds h = join (92 ∷ 117 ∷ 123 ∷ [] ++ flat_map spaced_digit ds) (125 ∷ [])
    (join (92 ∷ 117 ∷ 123 ∷ []) (flat_map spaced_digit ds) refl (spaced ds (all_hexadecimal ds h))) refl

two : (high low : ℕ) → eqb high 13 ≡ false → eqb low 13 ≡ false → no_return_in (92 ∷ 120 ∷ high ∷ low ∷ []) ≡ true
two high low p q = before high (low ∷ []) p (before low [] q refl)

octal : (high low : ℕ) → (is_octal high && is_ascii_hexdigit low) ≡ true → no_return_in (92 ∷ 120 ∷ high ∷ low ∷ [])
    ≡ true
octal high low h = let p = and_parts (is_octal high) (is_ascii_hexdigit low) h in two high low
    (apart is_octal high 13 p.0 refl) (apart is_ascii_hexdigit low 13 p.1 refl)

hexadecimal : (high low : ℕ) → (is_ascii_hexdigit high && is_ascii_hexdigit low) ≡ true
    → no_return_in (92 ∷ 120 ∷ high ∷ low ∷ []) ≡ true
hexadecimal high low h = let p = and_parts (is_ascii_hexdigit high) (is_ascii_hexdigit low) h in two high low
    (apart is_ascii_hexdigit high 13 p.0 refl) (apart is_ascii_hexdigit low 13 p.1 refl)

broken : (blanks : List ℕ) → list_all is_dropped_blank blanks ≡ true → no_return_in (strict_text (LineBreak blanks))
    ≡ true
broken blanks h = row_of is_dropped_blank blanks refl h

plain_letter : (c : ℕ) → is_plain_letter c ≡ true → no_return_in (92 ∷ c ∷ []) ≡ true
plain_letter c h = before c [] (apart is_plain_letter c 13 h refl) refl

in_unit : (k : Kind) (u : StrictUnit) → is_strict_unit k u ≡ true → no_return_in (strict_text u) ≡ true
in_unit k (Itself c) h = before c [] (not_return k c h) refl
in_unit k (QuoteEscape c) h = before c [] (apart (λ c. eqb c 39 || eqb c 34) c 13 h refl) refl
in_unit CStr (PlainEscape c) h = plain_letter c (and_parts (is_plain_letter c) (not (eqb c 48)) h).0
in_unit Str (PlainEscape c) h = plain_letter c h
in_unit ByteStr (PlainEscape c) h = plain_letter c h
in_unit Byte (PlainEscape c) h = plain_letter c h
in_unit Char (PlainEscape c) h = plain_letter c h
in_unit Int (PlainEscape c) h = plain_letter c h
in_unit Float (PlainEscape c) h = plain_letter c h
in_unit BoolKind (PlainEscape c) h = plain_letter c h
in_unit Char (AsciiEscape high low) h = octal high low h
in_unit Str (AsciiEscape high low) h = octal high low h
in_unit ByteStr (AsciiEscape high low) h = absurd (cc)
in_unit CStr (AsciiEscape high low) h = absurd (cc)
in_unit Byte (AsciiEscape high low) h = absurd (cc)
in_unit Int (AsciiEscape high low) h = absurd (cc)
in_unit Float (AsciiEscape high low) h = absurd (cc)
in_unit BoolKind (AsciiEscape high low) h = absurd (cc)
in_unit Byte (ByteEscape high low) h = hexadecimal high low h
in_unit ByteStr (ByteEscape high low) h = hexadecimal high low h
in_unit CStr (ByteEscape high low) h = hexadecimal high low (and_parts (is_ascii_hexdigit high && is_ascii_hexdigit low)
    (not (eqb (place_value 16 (high ∷ low ∷ [])) 0)) h).0
in_unit Str (ByteEscape high low) h = absurd (cc)
in_unit Char (ByteEscape high low) h = absurd (cc)
in_unit Int (ByteEscape high low) h = absurd (cc)
in_unit Float (ByteEscape high low) h = absurd (cc)
in_unit BoolKind (ByteEscape high low) h = absurd (cc)
in_unit Char (UnicodeEscape digits) h = braced digits h
in_unit Str (UnicodeEscape digits) h = braced digits h
in_unit CStr (UnicodeEscape digits) h = braced digits (and_parts (is_unicode_escape digits)
    (not (eqb (spaced_value digits) 0)) h).0
in_unit ByteStr (UnicodeEscape digits) h = absurd (cc)
in_unit Byte (UnicodeEscape digits) h = absurd (cc)
in_unit Int (UnicodeEscape digits) h = absurd (cc)
in_unit Float (UnicodeEscape digits) h = absurd (cc)
in_unit BoolKind (UnicodeEscape digits) h = absurd (cc)
in_unit Str (LineBreak blanks) h = broken blanks h
in_unit ByteStr (LineBreak blanks) h = broken blanks h
in_unit CStr (LineBreak blanks) h = broken blanks h
in_unit kind (LineBreak blanks) h = absurd (cc)

in_units : (k : Kind) (us : List StrictUnit) → list_all (is_strict_unit k) us ≡ true
    → no_return_in (flat_map strict_text us) ≡ true
in_units k [] h = refl
in_units k (u ∷ us) h =
    let p = and_parts (is_strict_unit k u) (list_all (is_strict_unit k) us) h in
    join (strict_text u) (flat_map strict_text us) (in_unit k u p.0) (in_units k us p.1)

opening : (k : Kind) → no_return_in (strict_opener k) ≡ true
opening Str = refl
opening ByteStr = refl
opening CStr = refl
opening Byte = refl
opening Char = refl
opening Int = refl
opening Float = refl
opening BoolKind = refl

closing : (k : Kind) → no_return_in (strict_closer k) ≡ true
closing Str = refl
closing ByteStr = refl
closing CStr = refl
closing Byte = refl
closing Char = refl
closing Int = refl
closing Float = refl
closing BoolKind = refl

raw_opening : (k : Kind) → no_return_in (strict_raw_opener k) ≡ true
raw_opening Str = refl
raw_opening ByteStr = refl
raw_opening CStr = refl
raw_opening Byte = refl
raw_opening Char = refl
raw_opening Int = refl
raw_opening Float = refl
raw_opening BoolKind = refl

in_cooked : (t : List ℕ) (k : Kind) (v : Contents) (x : List ℕ) → StrictCooked t k v x → no_return_in t ≡ true
in_cooked t k v x s =
    let body = flat_map strict_text s.units in
    let opened = join (strict_opener k) body (opening k) (in_units k s.units s.each) in
    let closed = join (strict_opener k ++ body) (strict_closer k) opened (closing k) in
    ap no_return_in s.text ∙ join (strict_opener k ++ body ++ strict_closer k) x closed (in_suffix x s.suffix)

in_raw : (t : List ℕ) (k : Kind) (v : Contents) (x : List ℕ) → StrictRaw t k v x → no_return_in t ≡ true
in_raw t k v x s =
    let hashes = replicate s.hashes 35 in
    let marked = join (strict_raw_opener k) hashes (raw_opening k) (repeated s.hashes 35 refl) in
    let opened = join (strict_raw_opener k ++ hashes) (34 ∷ s.inside) marked s.no_carriage_return in
    let closed = join (strict_raw_opener k ++ hashes ++ 34 ∷ s.inside) (34 ∷ hashes) opened (repeated s.hashes 35 refl)
    in
    ap no_return_in s.text ∙ join (strict_raw_opener k ++ hashes ++ 34 ∷ s.inside ++ 34 ∷ hashes) x closed
    (in_suffix x s.suffix)

in_quoted : (t : List ℕ) (k : Kind) (v : Contents) (x : List ℕ) → (StrictCooked t k v x ⊎ StrictRaw t k v x)
    → no_return_in t ≡ true
in_quoted t k v x (inl s) = in_cooked t k v x s
in_quoted t k v x (inr s) = in_raw t k v x s

int_at : (p r x : List ℕ) (base : ℕ) → no_return_in p ≡ true → is_run_part (λ c. nat_lt (digit_value c) base) 13 ≡ false
    → list_all (is_run_part (λ c. nat_lt (digit_value c) base)) r ≡ true → no_return_in x ≡ true
    → no_return_in (p ++ r ++ x)
    ≡ true
int_at p r x base front none each end = join (p ++ r) x (join p r front
    (row_of (is_run_part (λ c. nat_lt (digit_value c) base)) r none each)) end

in_int : (t x : List ℕ) (v : Contents) → StrictInt t v x → no_return_in t ≡ true
in_int t x v s =
    let from : no_return_in s.prefix ≡ true → is_run_part (λ c. nat_lt (digit_value c) s.base) 13 ≡ false
    → no_return_in t
    ≡ true =
    λ f n. ap no_return_in s.text ∙ int_at s.prefix s.run x s.base f n s.each (in_suffix x s.suffix.0) in
    elim s.is_front [
      | inl f ↦ from (ap no_return_in f.0) (ap (λ n. is_run_part (λ c. nat_lt (digit_value c) n) 13) f.1)
      | inr f ↦ elim f [
        | inl g ↦ from (ap no_return_in g.0) (ap (λ n. is_run_part (λ c. nat_lt (digit_value c) n) 13) g.1)
        | inr g ↦ elim g [
          | inl h ↦ from (ap no_return_in h.0) (ap (λ n. is_run_part (λ c. nat_lt (digit_value c) n) 13) h.1)
          | inr h ↦ from (ap no_return_in h.0) (ap (λ n. is_run_part (λ c. nat_lt (digit_value c) n) 13) h.1)
        ]
      ]
    ]

in_digits : (d : List ℕ) → IsDigits d → no_return_in d ≡ true
in_digits d h = row_of (is_run_part is_ascii_digit) d refl h.1

in_sign : (sign : List ℕ) → ((sign ≡ []) ⊎ ((sign ≡ 43 ∷ []) ⊎ (sign ≡ 45 ∷ []))) → no_return_in sign ≡ true
in_sign sign (inl e) = ap no_return_in e
in_sign sign (inr (inl e)) = ap no_return_in e
in_sign sign (inr (inr e)) = ap no_return_in e

in_exponent : (e : List ℕ) → IsStrictExponent e → no_return_in e ≡ true
in_exponent e s =
    ap no_return_in s.text
    ∙ join (s.letter ∷ s.sign) s.run (before s.letter s.sign (apart (λ c. eqb c 101 || eqb c 69) s.letter 13 s.is_letter
    refl) (in_sign s.sign s.is_sign))
    (row_of (is_run_part is_ascii_digit) s.run refl s.each)

pointed : (d f : List ℕ) → IsDigits d → IsDigits f → no_return_in (d ++ 46 ∷ f) ≡ true
pointed d f p q = join d (46 ∷ f) (in_digits d p) (in_digits f q)

in_float : (t x : List ℕ) (v : Contents) → StrictFloat t v x → no_return_in t ≡ true
in_float t x v s =
    let from : no_return_in s.numeral ≡ true → no_return_in t ≡ true = λ h. ap no_return_in s.text
    ∙ join s.numeral x h (in_suffix x s.suffix.0) in
    elim s.form [
      | inl a ↦ from (ap no_return_in a.2 ∙ join a.0 (46 ∷ []) (in_digits a.0 a.1) refl)
      | inr b ↦ elim b [
        | inl a ↦ from (ap no_return_in a.4 ∙ pointed a.0 a.1 a.2 a.3)
        | inr a ↦ elim a.4 [
          | inl e ↦ from (ap no_return_in e ∙ join a.0 a.1 (in_digits a.0 a.2) (in_exponent a.1 a.3))
          | inr e ↦ from (ap no_return_in e.2 ∙ join (a.0 ++ 46 ∷ e.0) a.1 (pointed a.0 e.0 a.2 e.1)
              (in_exponent a.1 a.3))
        ]
      ]
    ]

in_truth : (b : Bool) → no_return_in (if b then codes "true" else codes "false") ≡ true
in_truth true = refl
in_truth false = refl

pub strict_holds_no_return : (t : List ℕ) (k : Kind) (v : Contents) (x : List ℕ) → Strict t k v x → no_return_in t
    ≡ true
strict_holds_no_return t Str v x s = in_quoted t Str v x s
strict_holds_no_return t ByteStr v x s = in_quoted t ByteStr v x s
strict_holds_no_return t CStr v x s = in_quoted t CStr v x s
strict_holds_no_return t Byte v x s = in_quoted t Byte v x s
strict_holds_no_return t Char v x s = in_quoted t Char v x s
strict_holds_no_return t Int v x s = in_int t x v s
strict_holds_no_return t Float v x s = in_float t x v s
strict_holds_no_return t BoolKind v x s = ap no_return_in s.text ∙ in_truth s.truth
