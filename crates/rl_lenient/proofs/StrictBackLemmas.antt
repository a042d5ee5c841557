-- The characters and escapes of `syn`'s grammar are those of Rust's, except escaped line ends.
use Rattle.rl_syntax.proofs.Common.{◌≡◌, ℕ, zero, suc, ◌<◌, ◌≤◌, ◌==◌, ◌||◌, ◌&&◌, Bool, true, false, not, cond, eqb, List, [], ◌∷◌, ◌++◌, length, replicate, refl, sym, ap, subst, ◌∙◌, inl, inr, arith, and_from, and_parts, cases_Bool, eqb-true, lt-ltb, ltb-true, not_from_false, scalar, digit_value, is_ascii_hexdigit, list_all, flat_map}
use Rattle.rl_lenient.proofs.Names.{IsScalar, Kind, Str, ByteStr, CStr, Byte, Char, is_underscore, QuotedUnit, Letter, Named, Hex, Unicode, LowerN, LowerR, LowerT, Backslash, Zero, letter_text, letter_value, unit_text, unit_value, content_of, place_value, without_underscores, unicode_value, hex_value, is_hex_digit, is_plain, allows_code, IsUnit, StrictUnit, Itself, QuoteEscape, PlainEscape, AsciiEscape, ByteEscape, UnicodeEscape, LineBreak, strict_text, strict_contents, strict_content_of, is_strict_unit}
use Rattle.std.proofs.Common.{map}
use Rattle.std.proofs.lemmas.Bool.{le-leb}
use Rattle.std.specs.Prelude.{nat_lt, nat_le}
use Rattle.rl_syntax.specs.Strict.{spaced_digit, is_octal, is_unicode_escape, HasUnits}
use Rattle.rl_syntax.proofs.Basics.{hex_is_sixteen}
use Rattle.rl_syntax.proofs.StrictQuoted.{hex_first, bare_digits, digits_count}

-- A character or escape of Rust's grammar, other than an escaped line end. It has the text and the value of `u`, a character
-- or escape of `syn`'s grammar.
pub record Back (k : Kind) (u : QuotedUnit) : Type 0 where
  pub unit : StrictUnit
  pub is_unit : is_strict_unit k unit ≡ true
  pub no_break : (blanks : List ℕ) → unit ≡ LineBreak blanks → ⊥
  pub text_is : unit_text u ≡ strict_text unit
  pub value_is : unit_value k u ≡ strict_contents (strict_content_of k) unit

-- Whether a kind is one of the quoted kinds.
abbrev pub HasStrictUnits : Kind → Type 0
HasStrictUnits k = HasUnits k (Itself 0 ∷ [])

-- ---- characters

not_either : (a b : Bool) → not (a || b) ≡ (not a && not b)
not_either true b = refl
not_either false b = refl

-- For each kind except `Char`, the two grammars agree on whether a literal may contain a character unescaped.
pub plain_is_bare : (k : Kind) (c : ℕ) → (k ≡ Char → ⊥) → is_plain k c ≡ is_strict_unit k (Itself c)
plain_is_bare Str c n = refl
plain_is_bare ByteStr c n = refl
plain_is_bare CStr c n = not_either (c == 34 || c == 92 || c == 13) (c == 0)
plain_is_bare Byte c n = refl
plain_is_bare Char c n = absurd (n refl)
plain_is_bare kind c n = refl

-- ---- escapes of a backslash and one character

-- Each kind of quoted literals has the escapes of a backslash and a letter, as `\n`.
escape_letter : (k : Kind) (letter : ℕ) → eqb letter 48 ≡ false → is_strict_unit Str (PlainEscape letter) ≡ true
    → is_strict_unit k (PlainEscape letter) ≡ true
escape_letter CStr letter n h = and_from _ _ h (not_from_false _ n)
escape_letter _ letter n h = h

-- All kinds of quoted literals except C strings have the escape `\0`.
zero_letter : (k : Kind) → allows_code k 0 ≡ true → is_strict_unit k (PlainEscape 48) ≡ true
zero_letter CStr h = absurd (cc)
zero_letter _ h = refl

-- If Rust's grammar allows the escape of a backslash and one character, as `\n`, with an equal value, the escape has an
-- equal escape in Rust's grammar.
plain_escape : (k : Kind) (l : Letter) → is_strict_unit k (PlainEscape (letter_text l)) ≡ true → letter_value l ∷ []
    ≡ strict_contents (strict_content_of k) (PlainEscape (letter_text l)) → Back k (Named l)
plain_escape k l h v = record { unit = PlainEscape (letter_text l); is_unit = h; no_break = λ b e. absurd (cc); text_is = refl; value_is = v }

-- If Rust's grammar allows the escape of a quote, the escape has an equal escape in Rust's grammar.
quote_escape : (k : Kind) (l : Letter) → is_strict_unit k (QuoteEscape (letter_text l)) ≡ true → letter_value l
    ≡ letter_text l → Back k (Named l)
quote_escape k l h v = record { unit = QuoteEscape (letter_text l); is_unit = h; no_break = λ b e. absurd (cc); text_is = refl; value_is = ap (λ n. n ∷ []) v }

-- Each escape of a backslash and one character has an equal escape in Rust's grammar.
pub named_escape : (k : Kind) (l : Letter) → allows_code k (letter_value l) ≡ true → Back k (Named l)
named_escape k LowerN h = plain_escape k LowerN (escape_letter k 110 refl refl) refl
named_escape k LowerR h = plain_escape k LowerR (escape_letter k 114 refl refl) refl
named_escape k LowerT h = plain_escape k LowerT (escape_letter k 116 refl refl) refl
named_escape k Backslash h = plain_escape k Backslash (escape_letter k 92 refl refl) refl
named_escape k Zero h = plain_escape k Zero (zero_letter k h) refl
named_escape k kind h = quote_escape k kind refl refl

-- ---- numbers

-- A hexadecimal digit of Rust's grammar is an ASCII hexadecimal digit.
hex_digit_back : (c : ℕ) → is_hex_digit c ≡ true → is_ascii_hexdigit c ≡ true
hex_digit_back c h = hex_is_sixteen c ∙ h

-- If two hexadecimal digits represent a number below 128, the first is an octal digit.
small_high : (high low : ℕ) → nat_lt (hex_value high low) 128 ≡ true → is_octal high ≡ true
small_high high low h = let e : hex_value high low < 128 = ltb-true (hex_value high low) 128 h in lt-ltb
    (digit_value high) 8 (omega arith)

-- An escape `\x` of an ASCII character has an equal escape in Rust's grammar.
ascii_escape : (k : Kind) (high low : ℕ) → is_hex_digit low ≡ true → nat_lt (hex_value high low) 128 ≡ true
    → ((is_octal high && is_ascii_hexdigit low) ≡ true → is_strict_unit k (AsciiEscape high low) ≡ true)
    → Back k (Hex high low)
ascii_escape k high low l s allowed = record { unit = AsciiEscape high low; is_unit = allowed (and_from _ _ (small_high high low s) (hex_digit_back low l)); no_break = λ b e. absurd (cc); text_is = refl; value_is = refl }

-- An escape `\x` of a byte has an equal escape in Rust's grammar.
byte_escape : (k : Kind) (high low : ℕ) → is_strict_unit k (ByteEscape high low) ≡ true → Back k (Hex high low)
byte_escape k high low h = record { unit = ByteEscape high low; is_unit = h; no_break = λ b e. absurd (cc); text_is = refl; value_is = refl }

-- Each escape `\x` has an equal escape in Rust's grammar.
pub hex_escape : (k : Kind) (high low : ℕ) → HasStrictUnits k → IsUnit k (Hex high low) → Back k (Hex high low)
hex_escape Str high low q u = ascii_escape Str high low u.1 u.2 (λ h. h)
hex_escape Char high low q u = ascii_escape Char high low u.1 u.2 (λ h. h)
hex_escape ByteStr high low q u = byte_escape ByteStr high low
    (and_from _ _ (hex_digit_back high u.0) (hex_digit_back low u.1))
hex_escape Byte high low q u = byte_escape Byte high low (and_from _ _ (hex_digit_back high u.0)
    (hex_digit_back low u.1))
hex_escape CStr high low q u = byte_escape CStr high low (and_from _ _
    (and_from _ _ (hex_digit_back high u.0) (hex_digit_back low u.1))
    (and_parts (not (eqb (hex_value high low) 0)) true u.2).0)
hex_escape kind high low q u = absurd q

-- ---- digits, each with the number of underscores after it

-- Returns the digits of a text, each with the number of underscores after it. One digit and n underscores precede the text.
abbrev group : ℕ → ℕ → List ℕ → List (ℕ × ℕ)
group first n [] = (first, n) ∷ []
group first n (c ∷ cs) = cond (eqb c 95) (group first (suc n) cs) ((first, n) ∷ group c 0 cs)

-- A list of n + 1 underscores is n underscores and then one more.
underscore_more : (n : ℕ) (cs : List ℕ) → replicate (suc n) 95 ++ cs ≡ replicate n 95 ++ (95 ∷ cs)
underscore_more zero cs = refl
underscore_more (suc n) cs = ap (λ z. 95 ∷ z) (underscore_more n cs)

-- The list `group` of an escape's digits, written with the underscores after each digit, is the text from which the list was
-- made.
group_text : (first n : ℕ) (cs : List ℕ) → flat_map spaced_digit (group first n cs) ≡ first ∷ (replicate n 95 ++ cs)
group_text first n [] = refl
group_text first n (c ∷ cs) =
    elim (cases_Bool (eqb c 95)) [
      | inl a ↦ ap (λ b. flat_map spaced_digit (cond b (group first (suc n) cs) ((first, n) ∷ group c 0 cs))) a
          ∙ group_text first (suc n) cs
          ∙ ap (λ z. first ∷ z) (underscore_more n cs ∙ ap (λ z. replicate n 95 ++ (z ∷ cs)) (sym (eqb-true c 95 a)))
      | inr a ↦ ap (λ b. flat_map spaced_digit (cond b (group first (suc n) cs) ((first, n) ∷ group c 0 cs))) a
          ∙ ap (λ z. first ∷ (replicate n 95 ++ z)) (group_text c 0 cs)
    ]

-- Each digit in the list `group` of an escape's digits is hexadecimal.
group_hex : (first n : ℕ) (cs : List ℕ) → is_hex_digit first ≡ true
    → list_all (λ c. is_underscore c || is_hex_digit c) cs ≡ true → list_all hex_first (group first n cs) ≡ true
group_hex first n [] h each = and_from _ _ (hex_digit_back first h) refl
group_hex first n (c ∷ cs) h each =
    let p = and_parts (is_underscore c || is_hex_digit c) (list_all (λ c. is_underscore c || is_hex_digit c) cs) each in
    elim (cases_Bool (eqb c 95)) [
      | inl a ↦ ap (λ b. list_all hex_first (cond b (group first (suc n) cs) ((first, n) ∷ group c 0 cs))) a
          ∙ group_hex first (suc n) cs h p.1
      | inr a ↦ ap (λ b. list_all hex_first (cond b (group first (suc n) cs) ((first, n) ∷ group c 0 cs))) a
          ∙ and_from _ _ (hex_digit_back first h) (group_hex c 0 cs (ap (λ b. b || is_hex_digit c) (sym a) ∙ p.0) p.1)
    ]

-- The list `group` of an escape's digits isn't empty.
group_some : (first n : ℕ) (cs : List ℕ) → nat_le 1 (length (group first n cs)) ≡ true
group_some first n [] = refl
group_some first n (c ∷ cs) =
    elim (cases_Bool (eqb c 95)) [
      | inl a ↦ ap (λ b. nat_le 1 (length (cond b (group first (suc n) cs) ((first, n) ∷ group c 0 cs)))) a
          ∙ group_some first (suc n) cs
      | inr a ↦ ap (λ b. nat_le 1 (length (cond b (group first (suc n) cs) ((first, n) ∷ group c 0 cs)))) a
          ∙ le-leb 1 _ (omega arith)
    ]

-- The digits in the list `group` of an escape `\u{..}` represent the number of the escape.
unicode_number : (first : ℕ) (more : List ℕ) → list_all hex_first (group first 0 more) ≡ true
    → place_value 16 (map (λ d. d.0) (group first 0 more)) ≡ unicode_value first more
unicode_number first more h =
    ap (place_value 16) (sym (bare_digits (group first 0 more) h) ∙ ap without_underscores (group_text first 0 more))

-- If `syn`'s grammar allows the digits of an escape `\u{..}`, Rust's grammar allows them too.
unicode_allowed : (first : ℕ) (more : List ℕ) → is_hex_digit first ≡ true
    → list_all (λ c. is_underscore c || is_hex_digit c) more ≡ true → length (without_underscores (first ∷ more)) ≤ 6
    → IsScalar (unicode_value first more) → is_unicode_escape (group first 0 more) ≡ true
unicode_allowed first more h each few s =
    let hexes = group_hex first 0 more h each in
    let same = unicode_number first more hexes in
    let long : length (group first 0 more) ≡ length (without_underscores (first ∷ more)) = sym
    (digits_count (group first 0 more)) ∙ ap length (sym (bare_digits (group first 0 more) hexes)
    ∙ ap without_underscores (group_text first 0 more)) in
    let Few : ℕ → Type 0 = λ n. n ≤ 6 in
    and_from _ _ (and_from _ _ (and_from _ _ (group_some first 0 more) (le-leb _ 6 (subst Few (sym long) few))) hexes)
    (and_from (scalar (place_value 16 (map (λ d. d.0) (group first 0 more)))) true (subst IsScalar (sym same) s)
    refl)

-- If Rust's grammar allows the list of digits of an escape `\u{..}`, the escape has an equal escape in Rust's grammar.
spaced_escape : (k : Kind) (first : ℕ) (more : List ℕ) → is_strict_unit k (UnicodeEscape (group first 0 more)) ≡ true
    → content_of k (unicode_value first more ∷ []) ≡ strict_content_of k (unicode_value first more ∷ [])
    → place_value 16 (map (λ d. d.0) (group first 0 more)) ≡ unicode_value first more → Back k (Unicode first more)
spaced_escape k first more h same number = record {
  unit = UnicodeEscape (group first 0 more);
  is_unit = h;
  no_break = λ b e. absurd (cc);
  text_is = ap (λ z. 92 ∷ 117 ∷ 123 ∷ (z ++ (125 ∷ []))) (sym (group_text first 0 more));
  value_is = same ∙ ap (λ n. strict_content_of k (n ∷ [])) (sym number);
}

-- Each escape `\u{..}` of one to six digits has an equal escape in Rust's grammar.
pub unicode_escape : (k : Kind) (first : ℕ) (more : List ℕ) → HasStrictUnits k → IsUnit k (Unicode first more)
    → Back k (Unicode first more)
unicode_escape Str first more q u = spaced_escape Str first more (unicode_allowed first more u.1 u.2 u.3 u.4) refl
    (unicode_number first more (group_hex first 0 more u.1 u.2))
unicode_escape Char first more q u = spaced_escape Char first more (unicode_allowed first more u.1 u.2 u.3 u.4) refl
    (unicode_number first more (group_hex first 0 more u.1 u.2))
unicode_escape CStr first more q u =
    let number = unicode_number first more (group_hex first 0 more u.1 u.2) in
    spaced_escape CStr first more (and_from _ _ (unicode_allowed first more u.1 u.2 u.3 u.4)
    (ap (λ n. not (eqb n 0)) number ∙ u.5)) refl number
unicode_escape ByteStr first more q u = absurd (let h = u.0 in (cc))
unicode_escape Byte first more q u = absurd (let h = u.0 in (cc))
unicode_escape kind first more q u = absurd q
