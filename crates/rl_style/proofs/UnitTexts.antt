-- The code reads the characters and escapes of a text one at a time, and computes the new form of each from its text.
use Rattle.std.proofs.Common.{length-append}
use Rattle.rl_syntax.proofs.Common.{not-true, length, ◌+◌, ◌≢◌, drop, eqb-true, ◌≡◌, ℕ, ◌<◌, ◌≤◌, inl, inr, arith, nat_lt, lt-ltb, ltb-true, cases_lt, agree_below_at, ◌||◌, ◌&&◌, Bool, true, false, not, ◌==◌, cond, List, [], ◌∷◌, ◌++◌, map, Some, None, refl, sym, ap, ◌∙◌, append_assoc, append-nil, and_from, and_parts, or_from, list_all, flat_map, map-append, replicate, zero, suc, scalar, encode_utf8_all, ◌/◌, ◌%◌, encodes-append, encodes-chars, IsUtf8}
use Rattle.std.specs.Prelude.{Option}
use Rattle.std.specs.Str.{chars}
use Rattle.rl_syntax.proofs.Basics.{apart, false_unless, scalars_parts}
use Rattle.rl_syntax.proofs.LowBytes.{encode_is_high, low_front}
use Rattle.rl_lenient.proofs.Names.{Kind, Str, ByteStr, CStr, Byte, Char, Int, Float, BoolKind, content_of, decodes_to_chars, place_value, strict_content_of, strict_contents, first_passes, IsTail, StrictUnit, Itself, QuoteEscape, PlainEscape, AsciiEscape, ByteEscape, UnicodeEscape, LineBreak, strict_text, is_strict_unit, unit_text}
use Rattle.rl_syntax.specs.Written.{closer}
use Rattle.rl_syntax.specs.Strict.{is_allowed_in_single_quotes, is_bare_in_string, is_plain_letter, is_unicode_escape, plain_escapes, plain_value_in, spaced_digit, spaced_value}
use Rattle.rl_lenient.specs.Mirrors.UnitAt.{unit_at}
use Rattle.rl_lenient.proofs.UnitLemmas.{unit_sound}
use Rattle.rl_style.specs.declared.style.Case.{Case}
use Rattle.rl_style.specs.declared.style.Case.TheVariants.{Lower, Upper}
use Rattle.rl_style.specs.declared.style.Style.{Style}
use Rattle.rl_style.specs.Cases.{cased, is_padding}
use Rattle.rl_syntax.specs.Classes.{after_run}
use Rattle.rl_syntax.specs.Texts.{begins}
use Rattle.rl_syntax.specs.Spelling.{without_underscores}
use Rattle.rl_writing.proofs.AsciiLemmas.{encoded_low, low_chars}
use Rattle.rl_writing.proofs.UnicodeLemmas.{digits_of, escape_is, escape_text, escape_value}
use Rattle.rl_style.specs.Rewriting.{cased_digit, digit_follows, gets_letter, restyled_units, styled_digits, fewest_digits, has_letter, needs_number, is_visible, letter_of, lower_digit, number_escape, reescaped, respelled, restyled, hex_escape, visible_unit}
use Rattle.rl_style.specs.Mirrors.{ascii_in, code_text, digits_text, fewest_text, hidden_text, lettered, itself_text, number_text, zero_closed, restyled_escape, restyled_text, visible_text}
use Rattle.std.proofs.Math.Utf8.{scalars}
use Rattle.rl_style.proofs.CodeDigits.{fewest_is, hex_of, unicode_hex}
use Rattle.rl_style.proofs.CaseLemmas.{none_right, scalars_cased}
use Rattle.rl_style.proofs.HiddenUnits.{hidden_invisible, hidden_scalar, hidden_unnamed, low_escape, low_scalars, low_text, low_value, text_low, wide_escape, wide_text}
use Rattle.rl_style.proofs.SameUnits.{named_low, quote_of, visible_low}
use Rattle.rl_style.proofs.WrittenTexts.{scalars_join}

-- ---- ends of a text, as characters and as bytes

-- If the characters of the text `t` end with the characters of the text `r`, the bytes of `t` end with the bytes of `r`.
pub tail_of : (t r front : List ℕ) → IsUtf8 t → IsUtf8 r → chars t ≡ front ++ chars r → IsTail t r
tail_of t r front u v e = record {
  front = encode_utf8_all front;
  text_is = sym (encodes-chars t u) ∙ ap encode_utf8_all e ∙ encodes-append front (chars r)
      ∙ ap (λ z. encode_utf8_all front ++ z) (encodes-chars r v);
  is_text = v;
}

pub unit_tail : (k : Kind) (t r v : List ℕ) → IsUtf8 t → IsUtf8 r → Some (v, chars r) ≡ unit_at k (chars t) → IsTail t r
unit_tail k t r v u w e =
    let b = unit_sound k (chars t) (v, chars r) (sym e) in
    tail_of t r (unit_text b.unit) u w b.text_is

-- ---- the new form of a character or escape, by its text

bare_front : (k : Kind) (c : ℕ) → is_strict_unit k (Itself c) ≡ true → (c == 92) ≡ false
bare_front Str c h = apart is_bare_in_string c 92 h refl
bare_front ByteStr c h = apart (λ c. is_strict_unit ByteStr (Itself c)) c 92 h refl
bare_front CStr c h = apart (λ c. is_strict_unit CStr (Itself c)) c 92 h refl
bare_front Byte c h = apart (λ c. is_strict_unit Byte (Itself c)) c 92 h refl
bare_front Char c h = apart is_allowed_in_single_quotes c 92 h refl
bare_front kind c h = absurd (cc)

letter_of_plain : (k : Kind) (c : ℕ) → is_strict_unit k (PlainEscape c) ≡ true → is_plain_letter c ≡ true
letter_of_plain CStr c h = (and_parts (is_plain_letter c) (not (c == 48)) h).0
letter_of_plain _ c h = h

abbrev otherwise : Style → Kind → ℕ → ℕ → List ℕ → List ℕ
otherwise style k n c cs = cond (c == 120 || c == 117) (number_text style k n (92 ∷ c ∷ cs)) (92 ∷ c ∷ cs)

-- The number `m` is the character `n` if `n` is ASCII, and 128 otherwise.
pub record IsOf (n m : ℕ) : Type 0 where
  pub low : n < 128 → m ≡ n
  pub high : 128 ≤ n → m ≡ 128

pub alone_of : (n : ℕ) → IsOf n (ascii_in (n ∷ []))
alone_of n = record {
  low = λ l. ap (λ b. cond b n 128) (lt-ltb n 128 l);
  high = λ h. ap (λ b. cond b n 128) (false_unless (nat_lt n 128)
      (λ b. let l = ltb-true n 128 b in absurd (omega (arith, l, h))));
}

-- For the UTF-8 bytes of an ASCII character, `ascii_in` returns the character. For the bytes of another character, it returns
-- 128.
pub bytes_of : (n : ℕ) → IsOf n (ascii_in (encode_utf8_all (n ∷ [])))
bytes_of n = record {
  low = λ l. ap ascii_in (low_front n [] l) ∙ (alone_of n).low l;
  high = λ h.
      let (b, bs, same, high, more) = encode_is_high n h in
      ap (λ z. ascii_in (z ++ [])) same ∙ (alone_of b).high high;
}

held_of : (k : Kind) (n : ℕ) → IsOf n (ascii_in (strict_content_of k (n ∷ [])))
held_of CStr n = bytes_of n
held_of Str n = alone_of n
held_of ByteStr n = alone_of n
held_of Byte n = alone_of n
held_of Char n = alone_of n
held_of Int n = alone_of n
held_of Float n = alone_of n
held_of BoolKind n = alone_of n

-- The code computes the code point of an ASCII character, or 128 for another character. The definition computes an equal
-- number from the character's value.
pub content_ascii : (k : Kind) (n m : ℕ) → m ≡ cond (nat_lt n 128) n 128 → m ≡ ascii_in (content_of k (n ∷ []))
content_ascii k n m e = go (decodes_to_chars k)
  where
    bytes : cond (nat_lt n 128) n 128 ≡ ascii_in (encode_utf8_all (n ∷ []))
    bytes =
        elim (cases_lt n 128) [
          | inl low ↦ (alone_of n).low low ∙ sym ((bytes_of n).low low)
          | inr high ↦ (alone_of n).high high ∙ sym ((bytes_of n).high high)
        ]

    go : (b : Bool) → m ≡ ascii_in (cond b (n ∷ []) (encode_utf8_all (n ∷ [])))
    go true = e
    go false = e ∙ bytes

-- The code writes a visible character: with a backslash before it if it is the closing quote or a backslash, and otherwise
-- without one.
visible_is : (a b : Bool) (n : ℕ) → cond (a || b) (92 ∷ n ∷ []) (n ∷ [])
    ≡ strict_text (cond a (QuoteEscape n) (cond b (PlainEscape n) (Itself n)))
visible_is true b n = refl
visible_is false true n = refl
visible_is false false n = refl

spelled_so : (a b : Bool) (k : Kind) (n : ℕ) (text : List ℕ) (escape : StrictUnit) → text ≡ strict_text escape
    → cond a (visible_text k n) (cond b (92 ∷ letter_of n ∷ []) text)
    ≡ strict_text (cond a (visible_unit k n) (cond b (PlainEscape (letter_of n)) escape))
spelled_so true b k n text escape e = visible_is (n == closer k) (n == 92) n
spelled_so false true k n text escape e = refl
spelled_so false false k n text escape e = e

same_letters : (z : Bool) (n : ℕ) → (z || not (n == 0)) ≡ true → gets_letter true n ≡ gets_letter z n
same_letters true n h = refl
same_letters false n h = ap (λ b. has_letter n || b) (not-true (n == 0) h)

either_way : (b : Bool) (n : ℕ) → cond b n n ≡ n
either_way true n = refl
either_way false n = refl

-- If the value of a numeric escape isn't a visible character, and has no escape with a letter, the escape is unchanged.
kept_escape : (style : Style) (k : Kind) (z : Bool) (n : ℕ) (escape : StrictUnit) → is_visible n ≡ false
    → gets_letter z n ≡ false → respelled style k z n escape ≡ escape
kept_escape style k z n escape v l =
    ap (λ b. cond (style.ascii_escapes && b) (visible_unit k n)
    (cond (style.named_escapes && gets_letter z n) (PlainEscape (letter_of n)) escape)) v
    ∙ ap (λ b. cond b (visible_unit k n)
    (cond (style.named_escapes && gets_letter z n) (PlainEscape (letter_of n)) escape))
    (none_right style.ascii_escapes)
    ∙ ap (λ b. cond (style.named_escapes && b) (PlainEscape (letter_of n)) escape) l
    ∙ ap (λ b. cond b (PlainEscape (letter_of n)) escape) (none_right style.named_escapes)

-- If the value of a numeric escape isn't an ASCII character, only the digits of the escape are rewritten.
kept_text : (style : Style) (k : Kind) (text : List ℕ) → number_text style k 128 text ≡ digits_text style text
kept_text style k text =
    ap (λ b. cond b (visible_text k 128) (cond (style.named_escapes && false) (92 ∷ letter_of 128 ∷ [])
    (digits_text style text)))
    (none_right style.ascii_escapes)
    ∙ ap (λ b. cond b (92 ∷ letter_of 128 ∷ []) (digits_text style text)) (none_right style.named_escapes)

no_other : (a b : Bool) → (a || not b) ≡ false → (a ≡ false) × (b ≡ true)
no_other true b h = absurd (cc)
no_other false true h = (refl, refl)
no_other false false h = absurd (cc)

number_is : (style : Style) (k : Kind) (z : Bool) (n m : ℕ) (text : List ℕ) (escape : StrictUnit) → IsOf n m
    → digits_text style text ≡ strict_text escape
    → number_text style k (lettered z m) text ≡ strict_text (respelled style k z n escape)
number_is style k z n m text escape of same =
    elim (cases_lt n 128) [
      | inl low ↦ ap (λ m. number_text style k (lettered z m) text) (of.low low)
          ∙ low_number (z || not (n == 0)) refl
      | inr high ↦
          let none : is_visible n ≡ false = false_unless (is_visible n)
          (λ v. let l = visible_low n v in absurd (omega (arith, l, high))) in
          let unnamed : gets_letter z n ≡ false = false_unless (gets_letter z n)
          (λ v. let l = named_low z n v in absurd (omega (arith, l, high))) in
          ap (λ m. number_text style k (lettered z m) text) (of.high high)
          ∙ ap (λ m. number_text style k m text) (either_way (z || true) 128)
          ∙ kept_text style k text ∙ same ∙ ap strict_text (sym (kept_escape style k z n escape none unnamed))
    ]
  where
    low_number : (b : Bool) → (z || not (n == 0)) ≡ b
        → number_text style k (lettered z n) text ≡ strict_text (respelled style k z n escape)
    low_number true e =
        ap (λ b. number_text style k (cond b n 128) text) e
        ∙ ap (λ b. cond (style.ascii_escapes && is_visible n) (visible_text k n)
        (cond (style.named_escapes && b) (92 ∷ letter_of n ∷ []) (digits_text style text))) (same_letters z n e)
        ∙ spelled_so (style.ascii_escapes && is_visible n) (style.named_escapes && gets_letter z n) k n
        (digits_text style text) escape same
    low_number false e =
        let zero : n ≡ 0 = eqb-true n 0 (no_other z (n == 0) e).1 in
        let off : z ≡ false = (no_other z (n == 0) e).0 in
        let none : is_visible n ≡ false = ap is_visible zero in
        let unnamed : gets_letter z n ≡ false = ap (λ z. has_letter n || (z && n == 0)) off
        ∙ ap (λ n. has_letter n || false) zero in
        ap (λ b. number_text style k (cond b n 128) text) e ∙ kept_text style k text ∙ same
        ∙ ap strict_text (sym (kept_escape style k z n escape none unnamed))

-- An escape with a letter, such as `\n`, is unchanged: the letter is neither a quote nor the letter of a numeric escape.
plain_text : (style : Style) (k : Kind) (n c : ℕ) → is_plain_letter c ≡ true → restyled_escape style k n (c ∷ [])
    ≡ 92 ∷ c ∷ []
plain_text style k n c h =
    let a = apart is_plain_letter c 39 h refl in
    let b = apart is_plain_letter c 34 h refl in
    let x = apart is_plain_letter c 120 h refl in
    let u = apart is_plain_letter c 117 h refl in
    ap (λ z. cond z (cond (style.quote_escapes && not (c == closer k)) (c ∷ []) (92 ∷ c ∷ []))
    (otherwise style k n c []))
    (or_from (c == 39) (c == 34) a b)
    ∙ ap (λ z. cond z (number_text style k n (92 ∷ c ∷ [])) (92 ∷ c ∷ [])) (or_from (c == 120) (c == 117) x u)

quote_text : (b : Bool) (c : ℕ) → cond b (c ∷ []) (92 ∷ c ∷ []) ≡ strict_text (cond b (Itself c) (QuoteEscape c))
quote_text true c = refl
quote_text false c = refl

hex_front : (case : Option Case) (cs : List ℕ) → map (cased case) (92 ∷ 120 ∷ cs) ≡ 92 ∷ 120 ∷ map (cased case) cs
hex_front None cs = refl
hex_front (Some Lower) cs = refl
hex_front (Some Upper) cs = refl

code_front : (case : Option Case) (cs : List ℕ) → map (cased case) (92 ∷ 117 ∷ 123 ∷ cs)
    ≡ 92 ∷ 117 ∷ 123 ∷ map (cased case) cs
code_front None cs = refl
code_front (Some Lower) cs = refl
code_front (Some Upper) cs = refl

brace : (case : Option Case) → map (cased case) (125 ∷ []) ≡ 125 ∷ []
brace None = refl
brace (Some Lower) = refl
brace (Some Upper) = refl

underscore : (case : Option Case) → cased case 95 ≡ 95
underscore None = refl
underscore (Some Lower) = refl
underscore (Some Upper) = refl

underscores : (case : Option Case) (n : ℕ) → map (cased case) (replicate n 95) ≡ replicate n 95
underscores case zero = refl
underscores case (suc n) = ap (λ z. z ∷ map (cased case) (replicate n 95)) (underscore case)
    ∙ ap (λ z. 95 ∷ z) (underscores case n)

row_text : (case : Option Case) (ds : List (ℕ × ℕ)) → map (cased case) (flat_map spaced_digit ds)
    ≡ flat_map spaced_digit (map (cased_digit case) ds)
row_text case [] = refl
row_text case (d ∷ ds) =
    map-append (cased case) (spaced_digit d) (flat_map spaced_digit ds)
    ∙ ap (λ z. (cased case d.0 ∷ z) ++ map (cased case) (flat_map spaced_digit ds)) (underscores case d.1)
    ∙ ap (λ z. (cased case d.0 ∷ replicate d.1 95) ++ z) (row_text case ds)

-- A change of case changes the digits of a `\u{..}` escape, and not the closing brace after them.
closed_text : (case : Option Case) (ds : List (ℕ × ℕ)) → map (cased case) (flat_map spaced_digit ds ++ (125 ∷ []))
    ≡ flat_map spaced_digit (map (cased_digit case) ds) ++ (125 ∷ [])
closed_text case ds =
    map-append (cased case) (flat_map spaced_digit ds) (125 ∷ [])
    ∙ ap (λ z. z ++ map (cased case) (125 ∷ [])) (row_text case ds)
    ∙ ap (λ z. flat_map spaced_digit (map (cased_digit case) ds) ++ z) (brace case)

code_text_is : (style : Style) (ds : List (ℕ × ℕ)) → list_all hex_of ds ≡ true
    → digits_text style (strict_text (UnicodeEscape ds)) ≡ strict_text (UnicodeEscape (styled_digits style ds))
code_text_is style ds h = go style.code_digits
  where
    inside : List ℕ
    inside = flat_map spaced_digit ds ++ (125 ∷ [])

    go : (b : Bool) → cond (b && true) (92 ∷ 117 ∷ 123 ∷ map (cased style.escape_digits) (fewest_text inside))
        (map (cased style.escape_digits) (92 ∷ 117 ∷ 123 ∷ inside))
        ≡ strict_text (UnicodeEscape (map (cased_digit style.escape_digits) (cond b (fewest_digits ds) ds)))
    go true = ap (λ z. 92 ∷ 117 ∷ 123 ∷ z) (ap (map (cased style.escape_digits)) (fewest_is ds h)
        ∙ closed_text style.escape_digits (fewest_digits ds))
    go false = code_front style.escape_digits inside
        ∙ ap (λ z. 92 ∷ 117 ∷ 123 ∷ z) (closed_text style.escape_digits ds)

hex_text : (style : Style) (high low : ℕ) → digits_text style (92 ∷ 120 ∷ high ∷ low ∷ [])
    ≡ 92 ∷ 120 ∷ map (cased style.escape_digits) (high ∷ low ∷ [])
hex_text style high low =
    ap (λ b. cond b (92 ∷ 117 ∷ 123 ∷ map (cased style.escape_digits) (fewest_text (low ∷ [])))
    (map (cased style.escape_digits) (92 ∷ 120 ∷ high ∷ low ∷ []))) (none_right style.code_digits)
    ∙ hex_front style.escape_digits (high ∷ low ∷ [])

-- In a literal of any kind, the digits of a `\u{..}` escape are hexadecimal.
hexes : (k : Kind) (ds : List (ℕ × ℕ)) → is_strict_unit k (UnicodeEscape ds) ≡ true → list_all hex_of ds ≡ true
hexes Str ds h = unicode_hex ds h
hexes Char ds h = unicode_hex ds h
hexes CStr ds h = unicode_hex ds (and_parts (is_unicode_escape ds) (not (spaced_value ds == 0)) h).0
hexes kind ds h = absurd (cc)

-- Whether the character `c` is a NUL that the style writes as `\0`. The flag `z` is true if `\0` is allowed.
abbrev by_letter : Style → Bool → ℕ → Bool
by_letter style z c = style.named_escapes && (z && c == 0)

zero_letter : (style : Style) (z : Bool) (c : ℕ) (escape : StrictUnit)
    → cond (by_letter style z c) (PlainEscape (letter_of c)) escape ≡ cond (by_letter style z c) (PlainEscape 48) escape
zero_letter style z c escape = go (by_letter style z c) refl
  where
    go : (b : Bool) → by_letter style z c ≡ b → cond b (PlainEscape (letter_of c)) escape
        ≡ cond b (PlainEscape 48) escape
    go true e =
        let zero : c ≡ 0 = eqb-true c 0 (and_parts z (c == 0) (and_parts style.named_escapes (z && c == 0) e).1).1 in
        ap (λ c. PlainEscape (letter_of c)) zero
    go false e = refl

hidden_unit : (style : Style) (k : Kind) (z : Bool) (n c : ℕ) (escape : StrictUnit) → n ≡ c → needs_number c ≡ true
    → respelled style k z n escape ≡ cond (by_letter style z c) (PlainEscape 48) escape
hidden_unit style k z n c escape e h =
    ap (λ n. respelled style k z n escape) e
    ∙ ap (λ b. cond (style.ascii_escapes && b) (visible_unit k c)
    (cond (style.named_escapes && gets_letter z c) (PlainEscape (letter_of c)) escape)) (hidden_invisible c h)
    ∙ ap (λ b. cond b (visible_unit k c)
    (cond (style.named_escapes && gets_letter z c) (PlainEscape (letter_of c)) escape)) (none_right style.ascii_escapes)
    ∙ ap (λ b. cond (style.named_escapes && (b || (z && c == 0))) (PlainEscape (letter_of c)) escape)
    (hidden_unnamed c h)
    ∙ zero_letter style z c escape

unit_by_letter : (b : Bool) (text : List ℕ) (escape : StrictUnit) → text ≡ strict_text escape
    → cond b (92 ∷ 48 ∷ []) text ≡ strict_text (cond b (PlainEscape 48) escape)
unit_by_letter true text escape e = refl
unit_by_letter false text escape e = e

two_text : (style : Style) (k : Kind) (z : Bool) (high low c : ℕ) → place_value 16 (high ∷ low ∷ []) ≡ c
    → needs_number c ≡ true
    → cond (by_letter style z c) (92 ∷ 48 ∷ []) (92 ∷ 120 ∷ map (cased style.escape_digits) (high ∷ low ∷ []))
    ≡ strict_text (reescaped style k z (hex_escape k high low))
two_text style k z high low c e h = go k
  where
    n : ℕ
    n = place_value 16 (high ∷ low ∷ [])

    text : List ℕ
    text = cond (by_letter style z c) (92 ∷ 48 ∷ []) (92 ∷ 120 ∷ map (cased style.escape_digits) (high ∷ low ∷ []))

    ascii : (k : Kind) → text ≡ strict_text (reescaped style k z (AsciiEscape high low))
    ascii k =
        let escape : StrictUnit = AsciiEscape (cased style.escape_digits high) (cased style.escape_digits low) in
        unit_by_letter (by_letter style z c) (strict_text escape) escape refl
        ∙ ap strict_text (sym (hidden_unit style k z n c escape e h))

    byte : (k : Kind) → text ≡ strict_text (reescaped style k z (ByteEscape high low))
    byte k =
        let escape : StrictUnit = ByteEscape (cased style.escape_digits high) (cased style.escape_digits low) in
        unit_by_letter (by_letter style z c) (strict_text escape) escape refl
        ∙ ap strict_text (sym (hidden_unit style k z n c escape e h))

    go : (k : Kind) → text ≡ strict_text (reescaped style k z (hex_escape k high low))
    go Str = ascii Str
    go Char = ascii Char
    go ByteStr = byte ByteStr
    go CStr = byte CStr
    go Byte = byte Byte
    go Int = byte Int
    go Float = byte Float
    go BoolKind = byte BoolKind

hidden_is : (style : Style) (k : Kind) (z : Bool) (c : ℕ) → needs_number c ≡ true
    → hidden_text style z c ≡ strict_text (reescaped style k z (number_escape k c))
hidden_is style k z c h =
    elim (cases_lt c 128) [
      | inl low ↦ ap (λ t. cond (by_letter style z c) (92 ∷ 48 ∷ []) (digits_text style t)) (low_text c low)
          ∙ ap (λ t. cond (by_letter style z c) (92 ∷ 48 ∷ []) t)
          (hex_text style (lower_digit (c / 16)) (lower_digit (c % 16)))
          ∙ two_text style k z (lower_digit (c / 16)) (lower_digit (c % 16)) c (low_value c low) h
          ∙ sym (ap (λ u. strict_text (reescaped style k z u)) (low_escape k c low))
      | inr wide ↦
          let ds : List (ℕ × ℕ) = digits_of c in
          let escape : StrictUnit = UnicodeEscape (styled_digits style ds) in
          unit_by_letter (by_letter style z c) (digits_text style (code_text c)) escape
          (ap (digits_text style) (wide_text c wide ∙ escape_text c)
          ∙ code_text_is style ds (unicode_hex ds (escape_is c (hidden_scalar c h))))
          ∙ sym (ap (λ u. strict_text (reescaped style k z u)) (wide_escape k c wide)
          ∙ ap strict_text (hidden_unit style k z (spaced_value ds) c escape (escape_value c) h))
    ]

pub itself_restyled : (style : Style) (k : Kind) (y z : Bool) (c : ℕ) → (y && c == 0) ≡ (z && c == 0)
    → itself_text style y c ≡ strict_text (restyled style k z (Itself c))
itself_restyled style k y z c same = go (style.hidden && needs_number c) refl
  where
    go : (b : Bool) → (style.hidden && needs_number c) ≡ b → cond b (hidden_text style y c) (c ∷ [])
        ≡ strict_text (cond b (reescaped style k z (number_escape k c)) (Itself c))
    go true e = ap (λ b. cond (style.named_escapes && b) (92 ∷ 48 ∷ []) (digits_text style (code_text c))) same
        ∙ hidden_is style k z c (and_parts style.hidden (needs_number c) e).1
    go false e = refl

-- The code tests by a character's value whether the character is a NUL that may be written as `\0`. The definition tests the
-- character itself. The two results are equal.
zero_same : (k : Kind) (z : Bool) (c : ℕ)
    → ((lettered z (ascii_in (strict_content_of k (c ∷ []))) == 0) && c == 0) ≡ (z && c == 0)
zero_same k z c = go (c == 0) refl
  where
    m : ℕ
    m = ascii_in (strict_content_of k (c ∷ []))

    at_zero : (z : Bool) → (cond (z || false) 0 128 == 0) ≡ z
    at_zero true = refl
    at_zero false = refl

    go : (b : Bool) → (c == 0) ≡ b → ((lettered z m == 0) && b) ≡ (z && b)
    go true e =
        let zero : c ≡ 0 = eqb-true c 0 e in
        let low : m ≡ 0 = (held_of k c).low (omega (arith, zero)) ∙ zero in
        ap (λ m. (lettered z m == 0) && true) low ∙ ap (λ b. b && true) (at_zero z)
    go false e = none_right (lettered z m == 0) ∙ sym (none_right z)

pub unit_restyled : (style : Style) (k : Kind) (z : Bool) (u : StrictUnit) → is_strict_unit k u ≡ true
    → restyled_text style k (lettered z (ascii_in (strict_contents (strict_content_of k) u))) (strict_text u)
    ≡ strict_text (restyled style k z u)
unfolding restyled_text
unit_restyled style k z (Itself c) h =
    let n : ℕ = lettered z (ascii_in (strict_content_of k (c ∷ []))) in
    ap (λ b. cond b (restyled_escape style k n []) (itself_text style (n == 0) c ++ [])) (bare_front k c h)
    ∙ append-nil (itself_text style (n == 0) c) ∙ itself_restyled style k (n == 0) z c (zero_same k z c)
unit_restyled style k z (QuoteEscape c) h =
    let n : ℕ = lettered z (ascii_in (c ∷ [])) in
    ap (λ b. cond b (cond (style.quote_escapes && not (c == closer k)) (c ∷ []) (92 ∷ c ∷ []))
    (otherwise style k n c []))
    (quote_of k c h) ∙ quote_text (style.quote_escapes && not (c == closer k)) c
unit_restyled style k z (PlainEscape c) h = plain_text style k (lettered z (ascii_in (plain_value_in plain_escapes c)))
    c (letter_of_plain k c h)
unit_restyled style k z (AsciiEscape high low) h =
    let n : ℕ = place_value 16 (high ∷ low ∷ []) in
    number_is style k z n (ascii_in (n ∷ [])) (92 ∷ 120 ∷ high ∷ low ∷ [])
    (AsciiEscape (cased style.escape_digits high) (cased style.escape_digits low)) (alone_of n)
    (hex_text style high low)
unit_restyled style k z (ByteEscape high low) h =
    let n : ℕ = place_value 16 (high ∷ low ∷ []) in
    number_is style k z n (ascii_in (n ∷ [])) (92 ∷ 120 ∷ high ∷ low ∷ [])
    (ByteEscape (cased style.escape_digits high) (cased style.escape_digits low)) (alone_of n)
    (hex_text style high low)
unit_restyled style k z (UnicodeEscape digits) h =
    let n : ℕ = spaced_value digits in
    number_is style k z n (ascii_in (strict_content_of k (n ∷ []))) (strict_text (UnicodeEscape digits))
    (UnicodeEscape (styled_digits style digits)) (held_of k n) (code_text_is style digits (hexes k digits h))
unit_restyled style k z (LineBreak blanks) h = refl

-- ---- the bytes that the code writes for a character or escape

at_escape : (style : Style) (k : Kind) (n : ℕ) (t cs : List ℕ) → t ≡ 92 ∷ cs → restyled_text style k n t
    ≡ restyled_escape style k n cs
unfolding restyled_text
at_escape style k n t cs e = ap (restyled_text style k n) e

-- If the rule `quote_escapes` is set, an escaped quote that doesn't close the literal loses its backslash.
quoted_escape : (style : Style) (k : Kind) (n c : ℕ) (cs : List ℕ) → (c == 39 || c == 34) ≡ true
    → restyled_escape style k n (c ∷ cs) ≡ cond (style.quote_escapes && not (c == closer k)) (c ∷ cs) (92 ∷ c ∷ cs)
quoted_escape style k n c cs q =
    ap (λ b. cond b (cond (style.quote_escapes && not (c == closer k)) (c ∷ cs) (92 ∷ c ∷ cs))
    (otherwise style k n c cs)) q

other_escape : (style : Style) (k : Kind) (n c : ℕ) (cs : List ℕ) → (c == 39 || c == 34) ≡ false
    → restyled_escape style k n (c ∷ cs) ≡ otherwise style k n c cs
other_escape style k n c cs q =
    ap (λ b. cond b (cond (style.quote_escapes && not (c == closer k)) (c ∷ cs) (92 ∷ c ∷ cs))
    (otherwise style k n c cs)) q

pub bared_bytes : (style : Style) (k : Kind) (n : ℕ) (unit escape w : List ℕ) (c : ℕ) → IsUtf8 escape
    → chars unit ≡ 92 ∷ chars escape → chars escape ≡ c ∷ w → (c == 39 || c == 34) ≡ true
    → (style.quote_escapes && not (c == closer k)) ≡ true
    → encode_utf8_all (restyled_text style k n (chars unit)) ≡ escape
bared_bytes style k n unit escape w c u e f q h =
    ap encode_utf8_all (at_escape style k n (chars unit) (c ∷ w) (e ∙ ap (λ z. 92 ∷ z) f)
    ∙ quoted_escape style k n c w q
    ∙ ap (λ b. cond b (c ∷ w) (92 ∷ c ∷ w)) h ∙ sym f) ∙ encodes-chars escape u

pub kept_bytes : (style : Style) (k : Kind) (n : ℕ) (unit escape w : List ℕ) (c : ℕ) → IsUtf8 unit
    → chars unit ≡ 92 ∷ chars escape → chars escape ≡ c ∷ w → (c == 39 || c == 34) ≡ true
    → (style.quote_escapes && not (c == closer k)) ≡ false
    → encode_utf8_all (restyled_text style k n (chars unit)) ≡ unit
kept_bytes style k n unit escape w c u e f q h =
    let text : chars unit ≡ 92 ∷ c ∷ w = e ∙ ap (λ z. 92 ∷ z) f in
    ap encode_utf8_all (at_escape style k n (chars unit) (c ∷ w) text ∙ quoted_escape style k n c w q
    ∙ ap (λ b. cond b (c ∷ w) (92 ∷ c ∷ w)) h ∙ sym text) ∙ encodes-chars unit u

pub number_bytes : (style : Style) (k : Kind) (n : ℕ) (unit escape w : List ℕ) (c : ℕ)
    → chars unit ≡ 92 ∷ chars escape → chars escape ≡ c ∷ w → (c == 39 || c == 34) ≡ false
    → (c == 120 || c == 117) ≡ true → encode_utf8_all (restyled_text style k n (chars unit))
    ≡ encode_utf8_all (number_text style k n (chars unit))
number_bytes style k n unit escape w c e f q h =
    let text : chars unit ≡ 92 ∷ c ∷ w = e ∙ ap (λ z. 92 ∷ z) f in
    ap encode_utf8_all (at_escape style k n (chars unit) (c ∷ w) text ∙ other_escape style k n c w q
    ∙ ap (λ b. cond b (number_text style k n (92 ∷ c ∷ w)) (92 ∷ c ∷ w)) h ∙ ap (number_text style k n) (sym text))

pub other_bytes : (style : Style) (k : Kind) (n : ℕ) (unit escape w : List ℕ) (c : ℕ) → IsUtf8 unit
    → chars unit ≡ 92 ∷ chars escape → chars escape ≡ c ∷ w → (c == 39 || c == 34) ≡ false
    → (c == 120 || c == 117) ≡ false → encode_utf8_all (restyled_text style k n (chars unit)) ≡ unit
other_bytes style k n unit escape w c u e f q h =
    let text : chars unit ≡ 92 ∷ c ∷ w = e ∙ ap (λ z. 92 ∷ z) f in
    ap encode_utf8_all (at_escape style k n (chars unit) (c ∷ w) text ∙ other_escape style k n c w q
    ∙ ap (λ b. cond b (number_text style k n (92 ∷ c ∷ w)) (92 ∷ c ∷ w)) h ∙ sym text) ∙ encodes-chars unit u

pub alone_bytes : (style : Style) (k : Kind) (n : ℕ) (unit escape : List ℕ) → IsUtf8 unit
    → chars unit ≡ 92 ∷ chars escape → chars escape ≡ []
    → encode_utf8_all (restyled_text style k n (chars unit)) ≡ unit
alone_bytes style k n unit escape u e f =
    let text : chars unit ≡ 92 ∷ [] = e ∙ ap (λ z. 92 ∷ z) f in
    ap encode_utf8_all (at_escape style k n (chars unit) [] text ∙ sym text) ∙ encodes-chars unit u

-- If a character isn't a backslash, the code writes the bytes of its new form.
pub plain_bytes : (style : Style) (k : Kind) (n c : ℕ) (unit rest at a b : List ℕ) → IsUtf8 rest
    → chars unit ≡ c ∷ chars rest → first_passes (λ c. c == 92) (chars unit) ≡ false
    → a ≡ at ++ encode_utf8_all (itself_text style (n == 0) c) → b ≡ a ++ rest
    → b ≡ at ++ encode_utf8_all (restyled_text style k n (chars unit))
unfolding restyled_text
plain_bytes style k n c unit rest at a b u e h f g =
    let text : restyled_text style k n (chars unit) ≡ itself_text style (n == 0) c
    ++ chars rest = ap (restyled_text style k n) e
    ∙ ap (λ b. cond b (restyled_escape style k n (chars rest)) (itself_text style (n == 0) c ++ chars rest))
    (sym (ap (first_passes (λ c. c == 92)) e) ∙ h) in
    g ∙ ap (λ z. z ++ rest) f ∙ append_assoc at (encode_utf8_all (itself_text style (n == 0) c)) rest
    ∙ ap (λ z. at ++ z) (sym (ap encode_utf8_all text ∙ encodes-append (itself_text style (n == 0) c) (chars rest)
    ∙ ap (λ z. encode_utf8_all (itself_text style (n == 0) c) ++ z) (encodes-chars rest u)))

pub empty_bytes : (style : Style) (k : Kind) (n : ℕ) (unit : List ℕ) → chars unit ≡ []
    → encode_utf8_all (restyled_text style k n (chars unit)) ≡ []
unfolding restyled_text
empty_bytes style k n unit e = ap (λ z. encode_utf8_all (restyled_text style k n z)) e

-- ---- the bytes that the code writes for a numeric escape

opened : (t : List ℕ) → begins (92 ∷ 117 ∷ 123 ∷ []) t ≡ true → t ≡ 92 ∷ 117 ∷ 123 ∷ drop 3 t
opened [] h = absurd (cc)
opened (a ∷ []) h = absurd (let e : false ≡ true = sym (none_right (a == 92)) ∙ h in cc)
opened (a ∷ b ∷ []) h =
    let p = and_parts (a == 92) ((b == 117) && false) h in
    absurd (let e : false ≡ true = sym (none_right (b == 117)) ∙ p.1 in cc)
opened (a ∷ b ∷ c ∷ t) h =
    let p = and_parts (a == 92) ((b == 117) && ((c == 123) && true)) h in
    let q = and_parts (b == 117) ((c == 123) && true) p.1 in
    let r = and_parts (c == 123) true q.1 in
    ap (λ z. z ∷ b ∷ c ∷ t) (eqb-true a 92 p.0) ∙ ap (λ z. 92 ∷ z ∷ c ∷ t) (eqb-true b 117 q.0)
    ∙ ap (λ z. 92 ∷ 117 ∷ z ∷ t) (eqb-true c 123 r.0)

pub opened_length : (text inside prefix : List ℕ) → IsUtf8 text → IsUtf8 inside → prefix ≡ 92 ∷ 117 ∷ 123 ∷ []
    → chars text ≡ chars prefix ++ chars inside → length text ≡ 3 + length inside
opened_length text inside prefix ut ui is e =
    let front : List ℕ = 92 ∷ 117 ∷ 123 ∷ [] in
    let whole : chars text ≡ front ++ chars inside = e
    ∙ ap (λ z. z ++ chars inside) (ap chars is ∙ low_chars front refl) in
    let bytes : text ≡ front ++ inside = sym (encodes-chars text ut) ∙ ap encode_utf8_all whole
    ∙ encodes-append front (chars inside)
    ∙ ap (λ z. z ++ encode_utf8_all (chars inside)) (encoded_low front refl)
    ∙ ap (λ z. front ++ z) (encodes-chars inside ui) in
    ap length bytes ∙ length-append front inside

code_bytes : (style : Style) (text inside prefix : List ℕ) → style.code_digits ≡ true → prefix
    ≡ 92 ∷ 117 ∷ 123 ∷ []
    → chars text ≡ chars prefix ++ chars inside
    → encode_utf8_all (digits_text style (chars text))
    ≡ prefix ++ encode_utf8_all (map (cased style.escape_digits) (fewest_text (chars inside)))
code_bytes style text inside prefix rule is e =
    let whole : chars text ≡ 92 ∷ 117 ∷ 123 ∷ chars inside = e
    ∙ ap (λ z. z ++ chars inside) (ap chars is ∙ low_chars (92 ∷ 117 ∷ 123 ∷ []) refl) in
    let new : List ℕ = map (cased style.escape_digits) (fewest_text (chars inside)) in
    ap (λ z. encode_utf8_all (digits_text style z)) whole
    ∙ ap (λ b. encode_utf8_all (cond (b && true) (92 ∷ 117 ∷ 123 ∷ new)
    (map (cased style.escape_digits) (92 ∷ 117 ∷ 123 ∷ chars inside)))) rule
    ∙ encodes-append (92 ∷ 117 ∷ 123 ∷ []) new
    ∙ ap (λ z. z ++ encode_utf8_all new) (encoded_low (92 ∷ 117 ∷ 123 ∷ []) refl ∙ sym is)

pub code_written : (style : Style) (text inside prefix a b d : List ℕ) → style.code_digits ≡ true → prefix
    ≡ 92 ∷ 117 ∷ 123 ∷ [] → chars text ≡ chars prefix ++ chars inside → b ≡ a ++ prefix
    → d ≡ b ++ encode_utf8_all (map (cased style.escape_digits) (fewest_text (chars inside)))
    → d ≡ a ++ encode_utf8_all (digits_text style (chars text))
code_written style text inside prefix a b d rule is e f g =
    let new : List ℕ = encode_utf8_all (map (cased style.escape_digits) (fewest_text (chars inside))) in
    g ∙ ap (λ z. z ++ new) f ∙ append_assoc a prefix new
    ∙ ap (λ z. a ++ z) (sym (code_bytes style text inside prefix rule is e))

pub cased_code : (style : Style) (text prefix : List ℕ) → prefix ≡ 92 ∷ 117 ∷ 123 ∷ []
    → ((x : List ℕ) → chars text ≢ chars prefix ++ x)
    → digits_text style (chars text) ≡ map (cased style.escape_digits) (chars text)
cased_code style text prefix is none =
    let closed : begins (92 ∷ 117 ∷ 123 ∷ []) (chars text) ≡ false = false_unless
    (begins (92 ∷ 117 ∷ 123 ∷ []) (chars text))
    (λ h. none (drop 3 (chars text)) (opened (chars text) h
    ∙ ap (λ z. z ++ drop 3 (chars text)) (sym (ap chars is ∙ low_chars (92 ∷ 117 ∷ 123 ∷ []) refl)))) in
    ap (λ b. cond (style.code_digits && b) (92 ∷ 117 ∷ 123 ∷ map (cased style.escape_digits)
    (fewest_text (drop 3 (chars text)))) (map (cased style.escape_digits) (chars text))) closed
    ∙ ap (λ b. cond b (92 ∷ 117 ∷ 123 ∷ map (cased style.escape_digits)
    (fewest_text (drop 3 (chars text)))) (map (cased style.escape_digits) (chars text))) (none_right style.code_digits)

-- ---- rewritten characters are Unicode scalar values

pub chosen_scalars : (b : Bool) (x y : List ℕ) → scalars x ≡ true → scalars y ≡ true → scalars (cond b x y) ≡ true
chosen_scalars true x y h k = h
chosen_scalars false x y h k = k

bare_scalars : (cs : List ℕ) → scalars cs ≡ true → scalars (without_underscores cs) ≡ true
bare_scalars [] h = refl
bare_scalars (c ∷ cs) h =
    let p = and_parts (scalar c) (scalars cs) h in
    chosen_scalars (not (c == 95)) (c ∷ without_underscores cs) (without_underscores cs)
    (and_from (scalar c) (scalars (without_underscores cs)) p.0 (bare_scalars cs p.1)) (bare_scalars cs p.1)

run_scalars : (test : ℕ → Bool) (cs : List ℕ) → scalars cs ≡ true → scalars (after_run test cs) ≡ true
run_scalars test [] h = refl
run_scalars test (c ∷ cs) h =
    chosen_scalars (test c) (after_run test cs) (c ∷ cs)
    (run_scalars test cs (and_parts (scalar c) (scalars cs) h).1) h

zero_scalars : (cs : List ℕ) → scalars cs ≡ true → scalars (zero_closed cs) ≡ true
zero_scalars [] h = refl
zero_scalars (c ∷ cs) h = chosen_scalars (c == 125) (48 ∷ c ∷ cs) (c ∷ cs) h h

fewest_scalars : (cs : List ℕ) → scalars cs ≡ true → scalars (fewest_text cs) ≡ true
fewest_scalars [] h = refl
fewest_scalars (c ∷ cs) h =
    chosen_scalars (is_padding c) _ _
    (bare_scalars (zero_closed (after_run is_padding cs)) (zero_scalars (after_run is_padding cs)
    (run_scalars is_padding cs (and_parts (scalar c) (scalars cs) h).1))) (bare_scalars (c ∷ cs) h)

drop_scalars : (n : ℕ) (cs : List ℕ) → scalars cs ≡ true → scalars (drop n cs) ≡ true
drop_scalars zero cs h = h
drop_scalars (suc n) [] h = refl
drop_scalars (suc n) (c ∷ cs) h = drop_scalars n cs (and_parts (scalar c) (scalars cs) h).1

digits_scalars : (style : Style) (cs : List ℕ) → scalars cs ≡ true → scalars (digits_text style cs) ≡ true
digits_scalars style cs h =
    chosen_scalars (style.code_digits && begins (92 ∷ 117 ∷ 123 ∷ []) cs) _ _
    (scalars_cased style.escape_digits (fewest_text (drop 3 cs)) (fewest_scalars (drop 3 cs) (drop_scalars 3 cs h)))
    (scalars_cased style.escape_digits cs h)

number_scalars : (style : Style) (k : Kind) (n : ℕ) (cs : List ℕ) → n ≤ 128 → scalars cs ≡ true
    → scalars (number_text style k n cs) ≡ true
number_scalars style k n cs small h =
    let one : scalar n ≡ true = scalar_low n small in
    let letter : scalar (letter_of n) ≡ true = chosen_scalar (n == 10) 110 (cond (n == 13) 114 (cond (n == 9) 116 48))
    refl (chosen_scalar (n == 13) 114 (cond (n == 9) 116 48) refl (chosen_scalar (n == 9) 116 48 refl refl)) in
    chosen_scalars (style.ascii_escapes && is_visible n) _ _
    (chosen_scalars (n == closer k || n == 92) (92 ∷ n ∷ []) (n ∷ []) (and_from (scalar n) true one refl)
    (and_from (scalar n) true one refl))
    (chosen_scalars (style.named_escapes && gets_letter true n) (92 ∷ letter_of n ∷ []) _
    (and_from (scalar (letter_of n)) true letter refl) (digits_scalars style cs h))
  where
    scalar_low : (n : ℕ) → n ≤ 128 → scalar n ≡ true
    scalar_low n s = agree_below_at scalar (λ n. true) 129 n refl (omega (arith, s))

    chosen_scalar : (b : Bool) (x y : ℕ) → scalar x ≡ true → scalar y ≡ true → scalar (cond b x y) ≡ true
    chosen_scalar true x y h k = h
    chosen_scalar false x y h k = k

escape_scalars : (style : Style) (k : Kind) (n : ℕ) (cs : List ℕ) → n ≤ 128 → scalars cs ≡ true
    → scalars (restyled_escape style k n cs) ≡ true
escape_scalars style k n [] small h = refl
escape_scalars style k n (c ∷ cs) small h =
    chosen_scalars (c == 39 || c == 34) _ _
    (chosen_scalars (style.quote_escapes && not (c == closer k)) (c ∷ cs) (92 ∷ c ∷ cs) h h)
    (chosen_scalars (c == 120 || c == 117) (number_text style k n (92 ∷ c ∷ cs)) (92 ∷ c ∷ cs)
    (number_scalars style k n (92 ∷ c ∷ cs) small h) h)

pub itself_scalars : (style : Style) (z : Bool) (c : ℕ) → scalar c ≡ true
    → scalars (itself_text style z c) ≡ true
itself_scalars style z c h =
    chosen_scalars (style.hidden && needs_number c) (hidden_text style z c) (c ∷ [])
    (chosen_scalars (style.named_escapes && (z && c == 0)) (92 ∷ 48 ∷ []) (digits_text style (code_text c)) refl
    (digits_scalars style (code_text c) (low_scalars (code_text c) (text_low c)))) (and_from (scalar c) true h refl)

text_scalars : (style : Style) (k : Kind) (n : ℕ) (t : List ℕ) → n ≤ 128 → scalars t ≡ true
    → scalars (restyled_text style k n t) ≡ true
unfolding restyled_text
text_scalars style k n [] small h = refl
text_scalars style k n (c ∷ cs) small h =
    let p = and_parts (scalar c) (scalars cs) h in
    chosen_scalars (c == 92) (restyled_escape style k n cs) (itself_text style (n == 0) c ++ cs)
    (escape_scalars style k n cs small p.1)
    (scalars_join (itself_text style (n == 0) c) cs (itself_scalars style (n == 0) c p.0) p.1)

ascii_small : (v : List ℕ) → ascii_in v ≤ 128
ascii_small [] = omega arith
ascii_small (n ∷ ns) = go (nat_lt n 128) refl
  where
    go : (b : Bool) → nat_lt n 128 ≡ b → cond b n 128 ≤ 128
    go true h = let l = ltb-true n 128 h in omega (arith, l)
    go false h = omega arith

lettered_small : (z : Bool) (n : ℕ) → n ≤ 128 → lettered z n ≤ 128
lettered_small z n h = go (z || not (n == 0))
  where
    go : (b : Bool) → cond b n 128 ≤ 128
    go true = h
    go false = omega arith

pub units_scalars : (style : Style) (k : Kind) (us : List StrictUnit) → list_all (is_strict_unit k) us ≡ true
    → scalars (flat_map strict_text us) ≡ true → scalars (flat_map strict_text (restyled_units style k us)) ≡ true
units_scalars style k [] each h = refl
units_scalars style k (u ∷ us) each h =
    let p = and_parts (is_strict_unit k u) (list_all (is_strict_unit k) us) each in
    let q = scalars_parts (strict_text u) (flat_map strict_text us) h in
    let z : Bool = not (digit_follows k us) in
    let n : ℕ = ascii_in (strict_contents (strict_content_of k) u) in
    scalars_join (strict_text (restyled style k z u)) (flat_map strict_text (restyled_units style k us))
    (ap scalars (sym (unit_restyled style k z u p.0)) ∙ text_scalars style k (lettered z n) (strict_text u)
    (lettered_small z n (ascii_small (strict_contents (strict_content_of k) u))) q.0)
    (units_scalars style k us p.1 q.1)
