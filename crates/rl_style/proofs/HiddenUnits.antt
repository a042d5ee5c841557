-- Invisible and bidirectional characters, and their numeric escapes.
use Rattle.rl_syntax.proofs.Common.{◌≡◌, ℕ, ◌/◌, ◌%◌, ◌*◌, ◌<◌, ◌≤◌, ◌||◌, ◌&&◌, Bool, true, false, not, ◌==◌, cond, nat_lt, nat_tests, List, [], ◌∷◌, length, refl, sym, ap, ◌∙◌, inl, inr, arith, append-nil, and_from, and_parts, both_ways, cases_lt, lt-ltb, ltb-true, not-true, eqb-true, agree_below_at, is_ascii_hexdigit, list_all, scalar, encode_utf8, encode_ascii, length-encode, len_utf8_bounds}
use Rattle.std.specs.Char.{IsScalar}
use Rattle.std.specs.Str.{IsUtf8, chars}
use Rattle.std.proofs.lemmas.Bool.{le-ltb}
use Rattle.std.proofs.Math.Utf8.{scalars}
use Rattle.rl_syntax.proofs.Basics.{all_weaker, false_unless}
use Rattle.rl_writing.specs.Hiding.{is_control_invisible_or_bidi}
use Rattle.rl_lenient.proofs.Names.{Kind, Str, ByteStr, CStr, Byte, Char, Int, Float, BoolKind, StrictUnit, Itself, AsciiEscape, ByteEscape, UnicodeEscape, strict_contents, strict_content_of, is_strict_unit, place_value}
use Rattle.rl_syntax.specs.Strict.{HasUnits, is_bare_in_string, is_octal, is_unicode_escape, spaced_value}
use Rattle.rl_writing.specs.AsciiStrings.{unicode_escape}
use Rattle.rl_writing.proofs.AsciiLemmas.{is_low, low_chars, low_utf8}
use Rattle.rl_writing.proofs.UnicodeLemmas.{digits_of, escape_fits, escape_is, escape_low, escape_short, escape_value}
use Rattle.rl_style.specs.Mirrors.{code_text}
use Rattle.rl_style.specs.Rewriting.{has_letter, needs_number, is_visible, lower_digit, number_escape, hex_escape}

-- A property that holds for all numeric escapes holds for the numeric escape of each character.
pub number_any : (P : StrictUnit → Type 0) (k : Kind) (c : ℕ) → ((high low : ℕ) → P (AsciiEscape high low))
    → ((high low : ℕ) → P (ByteEscape high low)) → ((ds : List (ℕ × ℕ)) → P (UnicodeEscape ds))
    → P (number_escape k c)
number_any P k c ascii byte unicode = go (nat_lt c 128)
  where
    two : (k : Kind) (high low : ℕ) → P (hex_escape k high low)
    two Str high low = ascii high low
    two Char high low = ascii high low
    two ByteStr high low = byte high low
    two CStr high low = byte high low
    two Byte high low = byte high low
    two Int high low = byte high low
    two Float high low = byte high low
    two BoolKind high low = byte high low

    go : (b : Bool) → P (cond b (hex_escape k (lower_digit (c / 16)) (lower_digit (c % 16)))
        (UnicodeEscape (digits_of c)))
    go true = two k (lower_digit (c / 16)) (lower_digit (c % 16))
    go false = unicode (digits_of c)

-- ---- the characters that become numeric escapes

hidden_escaped : (c : ℕ) → needs_number c ≡ true → is_control_invisible_or_bidi c ≡ true
hidden_escaped c h = (and_parts (is_control_invisible_or_bidi c) (not (has_letter c)) h).0

pub hidden_unnamed : (c : ℕ) → needs_number c ≡ true → has_letter c ≡ false
hidden_unnamed c h = not-true (has_letter c) (and_parts (is_control_invisible_or_bidi c) (not (has_letter c)) h).1

pub visible_shown : (c : ℕ) → is_visible c ≡ true → needs_number c ≡ false
visible_shown c v =
    let low : c < 128 = grind (arith, nat_tests) in
    not-true (needs_number c) (follows (is_visible c) (not (needs_number c)) v
    (agree_below_at (λ c. not (is_visible c) || not (needs_number c)) (λ c. true) 128 c refl low))
  where
    follows : (a b : Bool) → a ≡ true → (not a || b) ≡ true → b ≡ true
    follows true b h k = k
    follows false b h k = absurd (cc)

pub hidden_invisible : (c : ℕ) → needs_number c ≡ true → is_visible c ≡ false
hidden_invisible c h = false_unless (is_visible c) (λ v. both_ways (needs_number c) (visible_shown c v) h)

pub quotes_shown : (c : ℕ) → (c == 39 || c == 34) ≡ true → needs_number c ≡ false
quotes_shown c q = visible_shown c (grind (arith, nat_tests))

no_surrogate : (c : ℕ) → 0xD800 ≤ c → c < 0xE000 → is_control_invisible_or_bidi c ≡ false
no_surrogate c low high = grind (arith, nat_tests)

none_past : (c : ℕ) → 0x110000 ≤ c → is_control_invisible_or_bidi c ≡ false
none_past c low = grind (arith, nat_tests)

-- Each invisible, bidirectional or control character other than LF, CR and TAB is a Unicode scalar value.
pub hidden_scalar : (c : ℕ) → needs_number c ≡ true → IsScalar c
hidden_scalar c h =
    let e = hidden_escaped c h in
    elim (cases_lt c 0xD800) [
      | inl a ↦ grind (arith, nat_tests)
      | inr a ↦ elim (cases_lt c 0xE000) [
        | inl b ↦ absurd (both_ways (is_control_invisible_or_bidi c) (no_surrogate c a b) e)
        | inr b ↦ elim (cases_lt c 0x110000) [
          | inl d ↦ grind (arith, nat_tests)
          | inr d ↦ absurd (both_ways (is_control_invisible_or_bidi c) (none_past c d) e)
        ]
      ]
    ]

-- ---- the two hexadecimal digits of an ASCII character

pub low_value : (c : ℕ) → c < 128 → place_value 16 (lower_digit (c / 16) ∷ lower_digit (c % 16) ∷ []) ≡ c
low_value c h = eqb-true _ c (agree_below_at
    (λ c. place_value 16 (lower_digit (c / 16) ∷ lower_digit (c % 16) ∷ []) == c) (λ c. true) 128 c refl h)

low_octal : (c : ℕ) → c < 128 → (is_octal (lower_digit (c / 16)) && is_ascii_hexdigit (lower_digit (c % 16))) ≡ true
low_octal c h = agree_below_at (λ c. is_octal (lower_digit (c / 16)) && is_ascii_hexdigit (lower_digit (c % 16)))
    (λ c. true) 128 c refl h

low_hex : (c : ℕ) → c < 128 → (is_ascii_hexdigit (lower_digit (c / 16)) && is_ascii_hexdigit (lower_digit (c % 16)))
    ≡ true
low_hex c h =
    agree_below_at (λ c. is_ascii_hexdigit (lower_digit (c / 16)) && is_ascii_hexdigit (lower_digit (c % 16)))
    (λ c. true) 128 c refl h

low_digits : (c : ℕ) → c < 128 → (list_all is_low (lower_digit (c / 16) ∷ lower_digit (c % 16) ∷ [])) ≡ true
low_digits c h = agree_below_at (λ c. list_all is_low (lower_digit (c / 16) ∷ lower_digit (c % 16) ∷ [])) (λ c. true)
    128 c refl h

-- ---- a literal may contain the numeric escape of a character

abbrev either_escape : Bool → Kind → ℕ → StrictUnit
either_escape b k c = cond b (hex_escape k (lower_digit (c / 16)) (lower_digit (c % 16))) (UnicodeEscape (digits_of c))

pub low_escape : (k : Kind) (c : ℕ) → c < 128 → number_escape k c
    ≡ hex_escape k (lower_digit (c / 16)) (lower_digit (c % 16))
low_escape k c h = ap (λ b. either_escape b k c) (lt-ltb c 128 h)

pub wide_escape : (k : Kind) (c : ℕ) → 128 ≤ c → number_escape k c ≡ UnicodeEscape (digits_of c)
wide_escape k c h = ap (λ b. either_escape b k c) (le-ltb c 128 h)

low_allowed : (k : Kind) (us : List StrictUnit) (c : ℕ) → HasUnits k us → is_strict_unit k (Itself c) ≡ true → c < 128
    → is_strict_unit k (hex_escape k (lower_digit (c / 16)) (lower_digit (c % 16))) ≡ true
low_allowed Str us c q h low = low_octal c low
low_allowed Char us c q h low = low_octal c low
low_allowed ByteStr us c q h low = low_hex c low
low_allowed Byte us c q h low = low_hex c low
low_allowed CStr us c q h low =
    let value : ℕ = place_value 16 (lower_digit (c / 16) ∷ lower_digit (c % 16) ∷ []) in
    and_from (is_ascii_hexdigit (lower_digit (c / 16)) && is_ascii_hexdigit (lower_digit (c % 16))) (not (value == 0))
    (low_hex c low) (ap (λ n. not (n == 0)) (low_value c low) ∙ (and_parts (is_bare_in_string c) (not (c == 0)) h).1)
low_allowed kind us c q h low = absurd q

not_wide : (c : ℕ) (b : Bool) → 128 ≤ c → (nat_lt c 128 && b) ≡ true → ⊥
not_wide c b wide h = let l = ltb-true c 128 (and_parts (nat_lt c 128) b h).0 in absurd (omega (arith, l, wide))

wide_allowed : (k : Kind) (us : List StrictUnit) (c : ℕ) → HasUnits k us → is_strict_unit k (Itself c) ≡ true
    → needs_number c ≡ true → 128 ≤ c → is_strict_unit k (UnicodeEscape (digits_of c)) ≡ true
wide_allowed Str us c q h s wide = escape_is c (hidden_scalar c s)
wide_allowed Char us c q h s wide = escape_is c (hidden_scalar c s)
wide_allowed CStr us c q h s wide = and_from (is_unicode_escape (digits_of c)) (not (spaced_value (digits_of c) == 0))
    (escape_is c (hidden_scalar c s)) (ap (λ n. not (n == 0)) (escape_value c)
    ∙ (and_parts (is_bare_in_string c) (not (c == 0)) h).1)
wide_allowed ByteStr us c q h s wide = absurd (not_wide c _ wide h)
wide_allowed Byte us c q h s wide = absurd (not_wide c _ wide h)
wide_allowed kind us c q h s wide = absurd q

pub number_allowed : (k : Kind) (us : List StrictUnit) (c : ℕ) → HasUnits k us → is_strict_unit k (Itself c) ≡ true
    → needs_number c ≡ true → is_strict_unit k (number_escape k c) ≡ true
number_allowed k us c q h s =
    elim (cases_lt c 128) [
      | inl low ↦ ap (is_strict_unit k) (low_escape k c low) ∙ low_allowed k us c q h low
      | inr wide ↦ ap (is_strict_unit k) (wide_escape k c wide) ∙ wide_allowed k us c q h s wide
    ]

-- ---- the value of a numeric escape is its character

two_contents : (k : Kind) (high low : ℕ) → strict_contents (strict_content_of k) (hex_escape k high low)
    ≡ place_value 16 (high ∷ low ∷ []) ∷ []
two_contents Str high low = refl
two_contents Char high low = refl
two_contents ByteStr high low = refl
two_contents CStr high low = refl
two_contents Byte high low = refl
two_contents Int high low = refl
two_contents Float high low = refl
two_contents BoolKind high low = refl

pub held_low : (k : Kind) (n : ℕ) → n < 128 → strict_content_of k (n ∷ []) ≡ n ∷ []
held_low CStr n low = append-nil _ ∙ encode_ascii n low
held_low Str n low = refl
held_low ByteStr n low = refl
held_low Byte n low = refl
held_low Char n low = refl
held_low Int n low = refl
held_low Float n low = refl
held_low BoolKind n low = refl

pub number_contents : (k : Kind) (c : ℕ) → strict_contents (strict_content_of k) (number_escape k c)
    ≡ strict_content_of k (c ∷ [])
number_contents k c =
    elim (cases_lt c 128) [
      | inl low ↦ ap (strict_contents (strict_content_of k)) (low_escape k c low)
          ∙ two_contents k (lower_digit (c / 16)) (lower_digit (c % 16))
          ∙ ap (λ n. n ∷ []) (low_value c low) ∙ sym (held_low k c low)
      | inr wide ↦ ap (strict_contents (strict_content_of k)) (wide_escape k c wide)
          ∙ ap (λ n. strict_content_of k (n ∷ [])) (escape_value c)
    ]

-- ---- the text of a numeric escape

pub low_text : (c : ℕ) → c < 128 → code_text c ≡ 92 ∷ 120 ∷ lower_digit (c / 16) ∷ lower_digit (c % 16) ∷ []
low_text c h = ap (λ b. cond b (92 ∷ 120 ∷ lower_digit (c / 16) ∷ lower_digit (c % 16) ∷ []) (unicode_escape c))
    (lt-ltb c 128 h)

pub wide_text : (c : ℕ) → 128 ≤ c → code_text c ≡ unicode_escape c
wide_text c h = ap (λ b. cond b (92 ∷ 120 ∷ lower_digit (c / 16) ∷ lower_digit (c % 16) ∷ []) (unicode_escape c))
    (le-ltb c 128 h)

pub text_low : (c : ℕ) → list_all is_low (code_text c) ≡ true
text_low c =
    elim (cases_lt c 128) [
      | inl low ↦ ap (list_all is_low) (low_text c low) ∙ low_digits c low
      | inr wide ↦ ap (list_all is_low) (wide_text c wide) ∙ escape_low c
    ]

pub text_short : (c : ℕ) → IsScalar c → length (code_text c) ≤ 10
text_short c s =
    elim (cases_lt c 128) [
      | inl low ↦ let e = ap length (low_text c low) in omega (arith, e)
      | inr wide ↦ let e = ap length (wide_text c wide) in omega (arith, e, escape_short c s)
    ]

pub text_fits : (c : ℕ) → IsScalar c → length (code_text c) ≤ 4 * length (encode_utf8 c)
text_fits c s =
    elim (cases_lt c 128) [
      | inl low ↦
          let e = ap length (low_text c low) in
          omega (arith, e, length-encode c, (len_utf8_bounds c).0)
      | inr wide ↦ let e = ap length (wide_text c wide) in omega (arith, e, escape_fits c s wide)
    ]

pub low_scalars : (cs : List ℕ) → list_all is_low cs ≡ true → scalars cs ≡ true
low_scalars cs h = all_weaker is_low scalar one cs h
  where
    one : (c : ℕ) → is_low c ≡ true → scalar c ≡ true
    one c l = agree_below_at scalar (λ c. true) 128 c refl (ltb-true c 128 l)

pub put_code_utf8 : (c : ℕ) (bytes : List ℕ) → bytes ≡ code_text c → IsUtf8 bytes
put_code_utf8 c bytes e = low_utf8 bytes (ap (list_all is_low) e ∙ text_low c)

pub put_code_chars : (c : ℕ) (bytes escape : List ℕ) → bytes ≡ code_text c → escape ≡ bytes → chars escape ≡ code_text c
put_code_chars c bytes escape e f = ap chars (f ∙ e) ∙ low_chars (code_text c) (text_low c)

pub put_code_fits : (c : ℕ) (bytes escape : List ℕ) → IsScalar c → bytes ≡ code_text c → escape ≡ bytes
    → length escape ≤ 4 * length (encode_utf8 c)
put_code_fits c bytes escape s e f = let n = ap length (f ∙ e) in omega (arith, n, text_fits c s)
