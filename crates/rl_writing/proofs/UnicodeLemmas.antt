-- The escape `\u{..}` of a character.
use Rattle.rl_syntax.proofs.Common.{◌≡◌, ℕ, zero, suc, ◌+◌, ◌*◌, ◌/◌, ◌%◌, ◌^◌, ◌<◌, ◌≤◌, ◌&&◌, Bool, true, false, not, cond, eqb, List, [], ◌∷◌, ◌++◌, length, map, refl, sym, ap, ◌∙◌, inl, inr, arith, append_assoc, nat_lt, digit_value, is_ascii_hexdigit, all_scalars, scalar, list_all, flat_map, and_parts, and_from, eq-eqb, lt-ltb, cases_Bool, cases_lt, encode_utf8, length-append, length-encode}
use Rattle.std.proofs.lemmas.Bool.{le-leb, le-ltb}
use Rattle.std.proofs.lemmas.Nat.{div_below}
use Rattle.std.proofs.Math.Nat.{pow-suc, pow-zero, one-mul}
use Rattle.std.proofs.Math.Utf8.{scalar_cases}
use Rattle.std.specs.Char.{IsScalar, len_utf8}
use Rattle.std.specs.Fmt.{digit_glyph, digits_onto}
use Rattle.rl_syntax.proofs.Basics.{all_weaker, hex_is_sixteen}
use Rattle.rl_syntax.specs.Spelling.{place_value}
use Rattle.rl_syntax.specs.Strict.{UnicodeEscape, is_unicode_escape, spaced_digit, spaced_value, strict_text}
use Rattle.rl_writing.specs.AsciiStrings.{unicode_escape}
use Rattle.rl_writing.specs.Integers.{grouped, numeral}
use Rattle.rl_writing.proofs.AsciiLemmas.{is_low, low_join}
use Rattle.rl_writing.proofs.GroupLemmas.{ungrouped}
use Rattle.rl_writing.proofs.NumeralLemmas.{is_glyph, numeral_glyphs, numeral_some, numeral_value}

-- ---- the number of digits of an escape

digits_short : (k base : ℕ) (upper : Bool) (i n : ℕ) (acc : List ℕ) → 0 < base → n < base ^ suc i
    → length (digits_onto k base upper n acc) ≤ length acc + suc i
digits_short zero base upper i n acc some h = omega arith
digits_short (suc k) base upper zero n acc some h =
    let now : List ℕ = digit_glyph upper (n % base) ∷ acc in
    let power : base ^ 1 ≡ base = pow-suc base 0 ∙ ap (λ z. z * base) (pow-zero base) ∙ one-mul base in
    let none = div_below n base 1 some (omega (arith, h, power)) in
    let last : eqb (n / base) 0 ≡ true = eq-eqb (n / base) 0 (omega (arith, none)) in
    omega (arith, ap (λ b. length (cond b now (digits_onto k base upper (n / base) now))) last)
digits_short (suc k) base upper (suc i) n acc some h =
    let now : List ℕ = digit_glyph upper (n % base) ∷ acc in
    let more = digits_short k base upper i (n / base) now some
    (div_below n base (base ^ suc i) some (omega (arith, h, pow-suc base (suc i)))) in
    elim (cases_Bool (eqb (n / base) 0)) [
      | inl e ↦ omega (arith, ap (λ b. length (cond b now (digits_onto k base upper (n / base) now))) e)
      | inr e ↦ omega (arith, more, ap (λ b. length (cond b now (digits_onto k base upper (n / base) now))) e)
    ]

numeral_short : (i n : ℕ) → n < 16 ^ suc i → length (numeral 16 false n) ≤ suc i
unfolding numeral
numeral_short i n h = omega (arith, digits_short (suc n) 16 false i n [] (omega arith) h)

escape_length : (c : ℕ) → length (unicode_escape c) ≡ length (numeral 16 false c) + 4
escape_length c = omega (arith, length-append (numeral 16 false c) (125 ∷ []))

pub escape_short : (c : ℕ) → IsScalar c → length (unicode_escape c) ≤ 10
escape_short c h = elim (scalar_cases c h) [
  | inl a ↦ omega (arith, escape_length c, numeral_short 5 c (omega arith))
  | inr a ↦ omega (arith, escape_length c, numeral_short 5 c (omega (arith, a.1)))
]

-- The number of UTF-8 bytes of a character from U+0800 on: 3 if `less` is true, and 4 otherwise. `less` tells whether the
-- character is below U+10000.
abbrev by_four : Bool → ℕ
by_four less = cond less 3 4

abbrev by_three : Bool → ℕ → ℕ
by_three less c = cond less 2 (by_four (nat_lt c 0x1_0000))

-- The escape of a character has at most four bytes for each byte of the character.
pub escape_fits : (c : ℕ) → IsScalar c → 128 ≤ c → length (unicode_escape c) ≤ 4 * length (encode_utf8 c)
escape_fits c h wide =
    let wider : len_utf8 c ≡ by_three (nat_lt c 0x800) c =
    ap (λ b. cond b 1 (by_three (nat_lt c 0x800) c)) (le-ltb c 0x80 wide) in
    elim (cases_lt c 0x800) [
      | inl a ↦
          let two = ap (λ b. by_three b c) (lt-ltb c 0x800 a) in
          omega (arith, length-encode c, wider ∙ two, escape_length c, numeral_short 2 c (omega arith))
      | inr a ↦
          let more = ap (λ b. by_three b c) (le-ltb c 0x800 a) in
          elim (cases_lt c 0x1_0000) [
            | inl b ↦
                let three = ap by_four (lt-ltb c 0x1_0000 b) in
                omega (arith, length-encode c, wider ∙ more ∙ three, escape_length c, numeral_short 3 c (omega arith))
            | inr b ↦
                let four = ap by_four (le-ltb c 0x1_0000 b) in
                omega (arith, length-encode c, wider ∙ more ∙ four, escape_length c, escape_short c h)
          ]
    ]

-- ---- the value of an escape

-- Each digit of an escape, paired with the number of underscores after it, which is 0.
abbrev pub plain_digits : List ℕ → List (ℕ × ℕ)
plain_digits ds = map (λ d. (d, 0)) ds

digits_text : (ds : List ℕ) → flat_map spaced_digit (plain_digits ds) ≡ ds
digits_text [] = refl
digits_text (d ∷ ds) = ap (λ z. d ∷ z) (digits_text ds)

digits_alone : (ds : List ℕ) → map (λ d. d.0) (plain_digits ds) ≡ ds
digits_alone [] = refl
digits_alone (d ∷ ds) = ap (λ z. d ∷ z) (digits_alone ds)

digits_count : (ds : List ℕ) → length (plain_digits ds) ≡ length ds
digits_count [] = refl
digits_count (d ∷ ds) = ap suc (digits_count ds)

glyph_hex : (c : ℕ) → is_glyph 16 c ≡ true → is_ascii_hexdigit c ≡ true
glyph_hex c h =
    let p = and_parts (nat_lt c 128 && nat_lt (digit_value c) 16) (not (eqb c 95)) h in
    hex_is_sixteen c ∙ (and_parts (nat_lt c 128) (nat_lt (digit_value c) 16) p.0).1

digits_hex : (ds : List ℕ) → list_all (is_glyph 16) ds ≡ true
    → list_all (λ d. is_ascii_hexdigit d.0) (plain_digits ds) ≡ true
digits_hex [] h = refl
digits_hex (d ∷ ds) h =
    let p = and_parts (is_glyph 16 d) (list_all (is_glyph 16) ds) h in
    and_from _ _ (glyph_hex d p.0) (digits_hex ds p.1)

abbrev pub digits_of : ℕ → List (ℕ × ℕ)
digits_of c = plain_digits (numeral 16 false c)

pub escape_value : (c : ℕ) → spaced_value (digits_of c) ≡ c
escape_value c = ap (place_value 16) (digits_alone (numeral 16 false c))
    ∙ numeral_value 16 false c (omega arith) (omega arith)

pub escape_text : (c : ℕ) → unicode_escape c ≡ strict_text (UnicodeEscape (digits_of c))
escape_text c = ap (λ z. 92 ∷ 117 ∷ 123 ∷ (z ++ (125 ∷ []))) (sym (digits_text (numeral 16 false c)))

pub escape_is : (c : ℕ) → IsScalar c → is_unicode_escape (digits_of c) ≡ true
escape_is c h =
    let ds = numeral 16 false c in
    let some = numeral_some 16 false c in
    let count = digits_count ds in
    let glyphs = numeral_glyphs 16 false c (omega arith) (omega arith) in
    and_from _ _ (and_from _ _ (and_from _ _
    (le-leb 1 (length (digits_of c)) (omega (arith, count, ap length some.is)))
    (le-leb (length (digits_of c)) 6 (omega (arith, count, escape_length c, escape_short c h))))
    (digits_hex ds glyphs))
    (ap (λ z. all_scalars (z ∷ [])) (escape_value c) ∙ and_from (scalar c) true h refl)

glyph_low : (c : ℕ) → is_glyph 16 c ≡ true → is_low c ≡ true
glyph_low c h =
    let p = and_parts (nat_lt c 128 && nat_lt (digit_value c) 16) (not (eqb c 95)) h in
    (and_parts (nat_lt c 128) (nat_lt (digit_value c) 16) p.0).0

pub escape_low : (c : ℕ) → list_all is_low (unicode_escape c) ≡ true
escape_low c = low_join (numeral 16 false c) (125 ∷ [])
    (all_weaker (is_glyph 16) is_low glyph_low (numeral 16 false c)
    (numeral_glyphs 16 false c (omega arith) (omega arith))) refl

-- ---- the bytes that the code writes for an escape

-- If the group size is 0, the digits of a character's code point are written without underscores.
digits_put : (c n : ℕ) (ds : List ℕ) → ds ≡ numeral 16 false n → n ≡ c → grouped 0 ds ≡ numeral 16 false c
digits_put c n ds e same = ungrouped ds ∙ e ∙ ap (numeral 16 false) same

pub digits_fit : (c n : ℕ) (ds : List ℕ) → ds ≡ numeral 16 false n → n ≡ c
    → length (grouped 0 ds) + 4 ≡ length (unicode_escape c)
digits_fit c n ds e same = omega (arith, ap length (digits_put c n ds e same), escape_length c)

pub escape_pieces : (c n : ℕ) (start a b whole ds : List ℕ) → a ≡ start ++ (92 ∷ 117 ∷ 123 ∷ []) → b ≡ a ++ grouped 0 ds
    → whole ≡ b ++ (125 ∷ []) → ds ≡ numeral 16 false n → n ≡ c → whole ≡ start ++ unicode_escape c
escape_pieces c n start a b whole ds a_is b_is whole_is e same =
    let num = numeral 16 false c in
    whole_is ∙ ap (λ z. z ++ (125 ∷ [])) (b_is ∙ ap (λ z. z ++ grouped 0 ds) a_is
    ∙ ap (λ z. (start ++ (92 ∷ 117 ∷ 123 ∷ [])) ++ z) (digits_put c n ds e same))
    ∙ append_assoc (start ++ (92 ∷ 117 ∷ 123 ∷ [])) num (125 ∷ [])
    ∙ append_assoc start (92 ∷ 117 ∷ 123 ∷ []) (num ++ (125 ∷ []))
