-- A literal whose characters and escapes are rewritten keeps its kind, value and suffix.
use Rattle.rl_syntax.proofs.Common.{nat_tests, or_cases, subst, ◌≡◌, ℕ, ◌<◌, ◌||◌, ◌&&◌, Bool, true, false, not, ◌==◌, cond, nat_le, nat_lt, List, [], ◌∷◌, ◌++◌, length, map, refl, sym, ap, ◌∙◌, inl, inr, arith, ◌⊎◌, append-nil, and_from, and_parts, cases_Bool, cases_lt, or_from, eqb-true, not-true, agree_below_at, is_ascii_hexdigit, all_scalars, list_all, flat_map, length-map, suc, both_ways, is_ascii_digit, encode_utf8_all, encode_ascii, Some, None}
use Rattle.std.specs.Prelude.{Option}
use Rattle.rl_syntax.proofs.Basics.{apart}
use Rattle.rl_lenient.proofs.Names.{Kind, Str, ByteStr, CStr, Byte, Char, Int, Float, BoolKind, first_passes, Contents, StrictUnit, Itself, QuoteEscape, PlainEscape, AsciiEscape, ByteEscape, UnicodeEscape, LineBreak, strict_text, strict_contents, strict_content_of, is_dropped_blank, is_strict_unit, place_value, quoted_contents}
use Rattle.rl_syntax.specs.Written.{closer}
use Rattle.rl_syntax.specs.Strict.{Strict, StrictCooked, HasUnits, BlanksEnd, is_octal, plain_escapes, plain_value_in, is_unicode_escape, spaced_value, strict_opener, strict_closer}
use Rattle.rl_syntax.proofs.StrictQuoted.{between}
use Rattle.rl_style.specs.declared.style.Case.{Case}
use Rattle.rl_style.specs.declared.style.Case.TheVariants.{Lower, Upper}
use Rattle.rl_style.specs.declared.style.Style.{Style}
use Rattle.rl_style.specs.Cases.{cased, lower_case, upper_case}
use Rattle.rl_style.specs.Rewriting.{SameLiteral, RewritesCooked, cased_digit, digit_follows, gets_letter, needs_number, number_escape, reescaped, restyled, restyled_inside, restyled_units}
use Rattle.rl_style.specs.Rewriting.{styled_digits, fewest_digits, has_letter, is_visible, letter_of, respelled, visible_unit}
use Rattle.rl_style.proofs.CodeDigits.{code_twice, fewest_unicode, fewest_value}
use Rattle.rl_style.proofs.HiddenUnits.{held_low, number_allowed, number_any, number_contents, quotes_shown, visible_shown}
use Rattle.rl_style.proofs.CaseLemmas.{none_right, cased_past, cased_value, spelled_cased, twice_cased}

-- ---- rewritten hexadecimal digits have the old value

pub hex_cased : (case : Option Case) (c : ℕ) → is_ascii_hexdigit (cased case c) ≡ is_ascii_hexdigit c
hex_cased case c =
    elim (cases_lt c 128) [
      | inl a ↦ low case c a
      | inr a ↦ ap is_ascii_hexdigit (cased_past case c a)
    ]
  where
    low : (case : Option Case) (c : ℕ) → c < 128 → is_ascii_hexdigit (cased case c) ≡ is_ascii_hexdigit c
    low None c a = refl
    low (Some Upper) c a = agree_below_at (λ c. is_ascii_hexdigit (upper_case c)) is_ascii_hexdigit 128 c refl a
    low (Some Lower) c a = agree_below_at (λ c. is_ascii_hexdigit (lower_case c)) is_ascii_hexdigit 128 c refl a

octal_cased : (case : Option Case) (c : ℕ) → is_octal (cased case c) ≡ is_octal c
octal_cased case c = ap (λ v. nat_lt v 8) (cased_value case c)

two_cased : (case : Option Case) (high low : ℕ) → place_value 16 (cased case high ∷ cased case low ∷ [])
    ≡ place_value 16 (high ∷ low ∷ [])
two_cased case high low = spelled_cased case 16 (high ∷ low ∷ [])

-- ---- the rewritten digits of a `\u{..}` escape have the old value

firsts : (case : Option Case) (ds : List (ℕ × ℕ)) → map (λ d. d.0) (map (cased_digit case) ds)
    ≡ map (cased case) (map (λ d. d.0) ds)
firsts case [] = refl
firsts case (d ∷ ds) = ap (λ z. cased case d.0 ∷ z) (firsts case ds)

pub code_cased : (case : Option Case) (ds : List (ℕ × ℕ)) → spaced_value (map (cased_digit case) ds) ≡ spaced_value ds
code_cased case ds = ap (place_value 16) (firsts case ds) ∙ spelled_cased case 16 (map (λ d. d.0) ds)

all_hex : (case : Option Case) (ds : List (ℕ × ℕ)) → list_all (λ d. is_ascii_hexdigit d.0) (map (cased_digit case) ds)
    ≡ list_all (λ d. is_ascii_hexdigit d.0) ds
all_hex case [] = refl
all_hex case (d ∷ ds) =
    ap (λ b. b && list_all (λ d. is_ascii_hexdigit d.0) (map (cased_digit case) ds)) (hex_cased case d.0)
    ∙ ap (λ b. is_ascii_hexdigit d.0 && b) (all_hex case ds)

unicode_cased : (case : Option Case) (ds : List (ℕ × ℕ)) → is_unicode_escape (map (cased_digit case) ds)
    ≡ is_unicode_escape ds
unicode_cased case ds =
    let new : List (ℕ × ℕ) = map (cased_digit case) ds in
    ap (λ n. (nat_le 1 n && nat_le n 6) && list_all (λ d. is_ascii_hexdigit d.0) new
    && all_scalars (spaced_value new ∷ []))
    (length-map ds (cased_digit case))
    ∙ ap (λ b. (nat_le 1 (length ds) && nat_le (length ds) 6) && b && all_scalars (spaced_value new ∷ []))
    (all_hex case ds)
    ∙ ap (λ n. (nat_le 1 (length ds) && nat_le (length ds) 6) && list_all (λ d. is_ascii_hexdigit d.0) ds
    && all_scalars (n ∷ [])) (code_cased case ds)

-- ---- `\u{..}` escapes with the fewest digits

abbrev kept_digits : Style → List (ℕ × ℕ) → List (ℕ × ℕ)
kept_digits style ds = cond style.code_digits (fewest_digits ds) ds

kept_value : (style : Style) (ds : List (ℕ × ℕ)) → spaced_value (kept_digits style ds) ≡ spaced_value ds
kept_value style ds = go style.code_digits
  where
    go : (b : Bool) → spaced_value (cond b (fewest_digits ds) ds) ≡ spaced_value ds
    go true = fewest_value ds
    go false = refl

kept_unicode : (style : Style) (ds : List (ℕ × ℕ)) → is_unicode_escape ds ≡ true
    → is_unicode_escape (kept_digits style ds) ≡ true
kept_unicode style ds h = go style.code_digits
  where
    go : (b : Bool) → is_unicode_escape (cond b (fewest_digits ds) ds) ≡ true
    go true = fewest_unicode ds h
    go false = h

pub code_value : (style : Style) (ds : List (ℕ × ℕ)) → spaced_value (styled_digits style ds) ≡ spaced_value ds
code_value style ds = code_cased style.escape_digits (kept_digits style ds) ∙ kept_value style ds

-- ---- one rewritten character, or one escaped quote

first_of : (a b : Bool) → (a || b) ≡ true → b ≡ false → a ≡ true
first_of true b h n = refl
first_of false b h n = absurd (let e : false ≡ true = sym n ∙ h in cc)

second_of : (a b : Bool) → (a || b) ≡ true → a ≡ false → b ≡ true
second_of true b h n = absurd (cc)
second_of false b h n = h

-- An escaped quote is a single or a double quote.
pub quote_of : (k : Kind) (c : ℕ) → is_strict_unit k (QuoteEscape c) ≡ true → (c == 39 || c == 34) ≡ true
quote_of Str c h = h
quote_of ByteStr c h = h
quote_of CStr c h = h
quote_of Byte c h = h
quote_of Char c h = h
quote_of Int c h = h
quote_of Float c h = h
quote_of BoolKind c h = h

itself_at : (k : Kind) (c d : ℕ) → (c == d) ≡ true → is_strict_unit k (Itself d) ≡ true → is_strict_unit k (Itself c)
    ≡ true
itself_at k c d e h = ap (λ z. is_strict_unit k (Itself z)) (eqb-true c d e) ∙ h

-- If an escaped quote doesn't close the literal, the literal may contain it without a backslash.
quote_allowed : (k : Kind) (us : List StrictUnit) (c : ℕ) → HasUnits k us → (c == 39 || c == 34) ≡ true
    → (c == closer k) ≡ false → is_strict_unit k (Itself c) ≡ true
quote_allowed Str us c q h n = itself_at Str c 39 (first_of (c == 39) (c == 34) h n) refl
quote_allowed ByteStr us c q h n = itself_at ByteStr c 39 (first_of (c == 39) (c == 34) h n) refl
quote_allowed CStr us c q h n = itself_at CStr c 39 (first_of (c == 39) (c == 34) h n) refl
quote_allowed Byte us c q h n = itself_at Byte c 34 (second_of (c == 39) (c == 34) h n) refl
quote_allowed Char us c q h n = itself_at Char c 34 (second_of (c == 39) (c == 34) h n) refl
quote_allowed kind us c q h n = absurd q

-- The new form of an escaped quote: without its backslash if `b` is true, and unchanged otherwise.
abbrev quote_unit : Bool → ℕ → StrictUnit
quote_unit b c = cond b (Itself c) (QuoteEscape c)

quote_kept : (b : Bool) (k : Kind) (us : List StrictUnit) (c : ℕ) → HasUnits k us → is_strict_unit k (QuoteEscape c)
    ≡ true
    → (b ≡ true → (c == closer k) ≡ false) → is_strict_unit k (quote_unit b c) ≡ true
quote_kept true k us c q h other = quote_allowed k us c q (quote_of k c h) (other refl)
quote_kept false k us c q h other = h

pub not_closer : (rule : Bool) (k : Kind) (c : ℕ) → (rule && not (c == closer k)) ≡ true → (c == closer k) ≡ false
not_closer rule k c h = not-true (c == closer k) (and_parts rule (not (c == closer k)) h).1

ascii_allowed : (case : Option Case) (k : Kind) (high low : ℕ) → is_strict_unit k (AsciiEscape high low) ≡ true
    → is_strict_unit k (AsciiEscape (cased case high) (cased case low)) ≡ true
ascii_allowed case Str high low h = rw (octal_cased case high, hex_cased case low) h
ascii_allowed case Char high low h = rw (octal_cased case high, hex_cased case low) h
ascii_allowed case kind high low h = absurd (cc)

byte_allowed : (case : Option Case) (k : Kind) (high low : ℕ) → is_strict_unit k (ByteEscape high low) ≡ true
    → is_strict_unit k (ByteEscape (cased case high) (cased case low)) ≡ true
byte_allowed case ByteStr high low h = rw (hex_cased case high, hex_cased case low) h
byte_allowed case Byte high low h = rw (hex_cased case high, hex_cased case low) h
byte_allowed case CStr high low h =
    ap (λ b. (b && is_ascii_hexdigit (cased case low)) && not (place_value 16 (cased case high ∷ cased case low ∷ []) ==
    0))
    (hex_cased case high)
    ∙ ap (λ b. (is_ascii_hexdigit high && b) && not (place_value 16 (cased case high ∷ cased case low ∷ []) == 0))
    (hex_cased case low)
    ∙ ap (λ n. (is_ascii_hexdigit high && is_ascii_hexdigit low) && not (n == 0)) (two_cased case high low) ∙ h
byte_allowed case kind high low h = absurd (cc)

code_unicode : (style : Style) (ds : List (ℕ × ℕ)) → is_unicode_escape ds ≡ true
    → is_unicode_escape (styled_digits style ds) ≡ true
code_unicode style ds h = unicode_cased style.escape_digits (kept_digits style ds) ∙ kept_unicode style ds h

code_allowed : (style : Style) (k : Kind) (ds : List (ℕ × ℕ)) → is_strict_unit k (UnicodeEscape ds) ≡ true
    → is_strict_unit k (UnicodeEscape (styled_digits style ds)) ≡ true
code_allowed style Str ds h = code_unicode style ds h
code_allowed style Char ds h = code_unicode style ds h
code_allowed style CStr ds h =
    let p = and_parts (is_unicode_escape ds) (not (spaced_value ds == 0)) h in
    and_from (is_unicode_escape (styled_digits style ds)) (not (spaced_value (styled_digits style ds) == 0))
    (code_unicode style ds p.0) (ap (λ n. not (n == 0)) (code_value style ds) ∙ p.1)
code_allowed style kind ds h = absurd (cc)

-- ---- numeric escapes that become visible characters or escapes with a letter

-- The new form of a numeric escape: a visible character if `a` is true, else an escape with a letter if `b` is true, else the
-- escape itself.
abbrev chosen : Bool → Bool → Kind → ℕ → StrictUnit → StrictUnit
chosen a b k n escape = cond a (visible_unit k n) (cond b (PlainEscape (letter_of n)) escape)

pub respelled_any : (P : StrictUnit → Type 0) (style : Style) (k : Kind) (z : Bool) (n : ℕ) (escape : StrictUnit)
    → (is_visible n ≡ true → P (visible_unit k n)) → (gets_letter z n ≡ true → P (PlainEscape (letter_of n))) → P escape
    → P (respelled style k z n escape)
respelled_any P style k z n escape visible named other =
    go (style.ascii_escapes && is_visible n) (style.named_escapes && gets_letter z n) refl refl
  where
    go : (a b : Bool) → (style.ascii_escapes && is_visible n) ≡ a → (style.named_escapes && gets_letter z n) ≡ b
        → P (chosen a b k n escape)
    go true b e f = visible (and_parts style.ascii_escapes (is_visible n) e).1
    go false true e f = named (and_parts style.named_escapes (gets_letter z n) f).1
    go false false e f = other

pub visible_any : (P : StrictUnit → Type 0) (k : Kind) (n : ℕ) → ((n == closer k) ≡ true → P (QuoteEscape n))
    → ((n == 92) ≡ true → P (PlainEscape n)) → P (Itself n) → P (visible_unit k n)
visible_any P k n quote backslash other = go (n == closer k) (n == 92) refl refl
  where
    go : (a b : Bool) → (n == closer k) ≡ a → (n == 92) ≡ b → P (cond a (QuoteEscape n) (cond b (PlainEscape n)
        (Itself n)))
    go true b e f = quote e
    go false true e f = backslash f
    go false false e f = other

pub visible_low : (n : ℕ) → is_visible n ≡ true → n < 128
visible_low n h = grind (arith, nat_tests)

pub named_low : (z : Bool) (n : ℕ) → gets_letter z n ≡ true → n < 128
named_low z n h =
    elim (or_cases (has_letter n) (z && n == 0) h) [
      | inl e ↦ letter_low n e
      | inr e ↦ let f = eqb-true n 0 (and_parts z (n == 0) e).1 in omega (arith, f)
    ]
  where
    letter_low : (n : ℕ) → has_letter n ≡ true → n < 128
    letter_low n h = grind (arith, nat_tests)

follows : (a b : Bool) → a ≡ true → (not a || b) ≡ true → b ≡ true
follows true b h k = k
follows false b h k = absurd (cc)

-- Used to prove by trying all ASCII characters that each visible character `n` passes a test.
visible_test : (test : ℕ → Bool) (n : ℕ) → is_visible n ≡ true
    → ((n < 128) → (not (is_visible n) || test n) ≡ true) → test n ≡ true
visible_test test n v all = follows (is_visible n) (test n) v (all (visible_low n v))

visible_allowed : (k : Kind) (us : List StrictUnit) (n : ℕ) → HasUnits k us → is_visible n ≡ true
    → is_strict_unit k (visible_unit k n) ≡ true
visible_allowed Str us n q v = visible_test (λ n. is_strict_unit Str (visible_unit Str n)) n v
    (λ low. agree_below_at (λ n. not (is_visible n) || is_strict_unit Str (visible_unit Str n)) (λ n. true) 128 n refl
    low)
visible_allowed ByteStr us n q v = visible_test (λ n. is_strict_unit ByteStr (visible_unit ByteStr n)) n v
    (λ low. agree_below_at (λ n. not (is_visible n) || is_strict_unit ByteStr (visible_unit ByteStr n)) (λ n. true) 128
    n refl low)
visible_allowed CStr us n q v = visible_test (λ n. is_strict_unit CStr (visible_unit CStr n)) n v
    (λ low. agree_below_at (λ n. not (is_visible n) || is_strict_unit CStr (visible_unit CStr n)) (λ n. true) 128 n refl
    low)
visible_allowed Byte us n q v = visible_test (λ n. is_strict_unit Byte (visible_unit Byte n)) n v
    (λ low. agree_below_at (λ n. not (is_visible n) || is_strict_unit Byte (visible_unit Byte n)) (λ n. true) 128 n refl
    low)
visible_allowed Char us n q v = visible_test (λ n. is_strict_unit Char (visible_unit Char n)) n v
    (λ low. agree_below_at (λ n. not (is_visible n) || is_strict_unit Char (visible_unit Char n)) (λ n. true) 128 n refl
    low)
visible_allowed kind us n q v = absurd q

-- Used to prove a property of each character that gets an escape with a letter. It suffices to prove the property for LF, CR
-- and TAB, and for NUL in case the character is NUL.
named_any : (P : ℕ → Type 0) (z : Bool) (n : ℕ) → gets_letter z n ≡ true → P 10 → P 13 → P 9
    → ((n == 0) ≡ true → P 0) → P n
named_any P z n h a b c d =
    elim (or_cases (has_letter n) (z && n == 0) h) [
      | inl g ↦ elim (or_cases (n == 10 || n == 13) (n == 9) g) [
        | inl e ↦ elim (or_cases (n == 10) (n == 13) e) [
          | inl f ↦ subst P (sym (eqb-true n 10 f)) a
          | inr f ↦ subst P (sym (eqb-true n 13 f)) b
        ]
        | inr e ↦ subst P (sym (eqb-true n 9 e)) c
      ]
      | inr g ↦
          let e : (n == 0) ≡ true = (and_parts z (n == 0) g).1 in
          subst P (sym (eqb-true n 0 e)) (d e)
    ]

-- If the character is NUL, `\0` is allowed in a literal of the kind.
abbrev MayBeZero : Kind → ℕ → Type 0
MayBeZero k n = (n == 0) ≡ true → is_strict_unit k (PlainEscape 48) ≡ true

named_allowed : (k : Kind) (us : List StrictUnit) (z : Bool) (n : ℕ) → HasUnits k us → MayBeZero k n
    → gets_letter z n ≡ true → is_strict_unit k (PlainEscape (letter_of n)) ≡ true
named_allowed Str us z n q m h = named_any (λ n. is_strict_unit Str (PlainEscape (letter_of n)) ≡ true) z n h refl refl
    refl m
named_allowed ByteStr us z n q m h = named_any (λ n. is_strict_unit ByteStr (PlainEscape (letter_of n)) ≡ true) z n h
    refl refl refl m
named_allowed CStr us z n q m h = named_any (λ n. is_strict_unit CStr (PlainEscape (letter_of n)) ≡ true) z n h refl
    refl refl m
named_allowed Byte us z n q m h = named_any (λ n. is_strict_unit Byte (PlainEscape (letter_of n)) ≡ true) z n h refl
    refl refl m
named_allowed Char us z n q m h = named_any (λ n. is_strict_unit Char (PlainEscape (letter_of n)) ≡ true) z n h refl
    refl refl m
named_allowed kind us z n q m h = absurd q

respelled_allowed : (style : Style) (k : Kind) (z : Bool) (us : List StrictUnit) (n : ℕ) (escape : StrictUnit)
    → HasUnits k us → MayBeZero k n
    → is_strict_unit k escape ≡ true → is_strict_unit k (respelled style k z n escape) ≡ true
respelled_allowed style k z us n escape q m h = respelled_any (λ u. is_strict_unit k u ≡ true) style k z n escape
    (visible_allowed k us n q) (named_allowed k us z n q m) h

-- In a C string, the number that an escape represents isn't 0.
no_zero : (b : Bool) (n : ℕ) → (b && not (n == 0)) ≡ true → (n == 0) ≡ true → ⊥
no_zero b n h e = both_ways (n == 0) (not-true (n == 0) (and_parts b (not (n == 0)) h).1) e

ascii_zero : (k : Kind) (high low : ℕ) → is_strict_unit k (AsciiEscape high low) ≡ true
    → MayBeZero k (place_value 16 (high ∷ low ∷ []))
ascii_zero Str high low h e = refl
ascii_zero Char high low h e = refl
ascii_zero kind high low h e = absurd (cc)

byte_zero : (k : Kind) (high low : ℕ) → is_strict_unit k (ByteEscape high low) ≡ true
    → MayBeZero k (place_value 16 (high ∷ low ∷ []))
byte_zero ByteStr high low h e = refl
byte_zero Byte high low h e = refl
byte_zero CStr high low h e = absurd (no_zero (is_ascii_hexdigit high && is_ascii_hexdigit low)
    (place_value 16 (high ∷ low ∷ [])) h e)
byte_zero kind high low h e = absurd (cc)

unicode_zero : (k : Kind) (ds : List (ℕ × ℕ)) → is_strict_unit k (UnicodeEscape ds) ≡ true
    → MayBeZero k (spaced_value ds)
unicode_zero Str ds h e = refl
unicode_zero Char ds h e = refl
unicode_zero CStr ds h e = absurd (no_zero (is_unicode_escape ds) (spaced_value ds) h e)
unicode_zero kind ds h e = absurd (cc)

-- The new form of a numeric escape doesn't begin with white space.
respelled_front : (style : Style) (k : Kind) (z : Bool) (n : ℕ) (escape : StrictUnit) (rest : List ℕ)
    → first_passes is_dropped_blank (strict_text escape ++ rest) ≡ false
    → first_passes is_dropped_blank (strict_text (respelled style k z n escape) ++ rest) ≡ false
respelled_front style k z n escape rest h =
    respelled_any Free style k z n escape (λ v. visible_any Free k n (λ e. refl) (λ e. refl) (solid v)) (λ e. refl) h
  where
    Free : StrictUnit → Type 0
    Free u = first_passes is_dropped_blank (strict_text u ++ rest) ≡ false

    solid : is_visible n ≡ true → is_dropped_blank n ≡ false
    solid v = not-true (is_dropped_blank n) (visible_test (λ n. not (is_dropped_blank n)) n v
        (λ low. agree_below_at (λ n. not (is_visible n) || not (is_dropped_blank n)) (λ n. true) 128 n refl low))

respelled_ends : (style : Style) (k : Kind) (z : Bool) (n : ℕ) (escape : StrictUnit) (us : List StrictUnit)
    → BlanksEnd us
    → BlanksEnd (escape ∷ us) → BlanksEnd (respelled style k z n escape ∷ us)
respelled_ends style k z n escape us b h =
    respelled_any (λ u. BlanksEnd (u ∷ us)) style k z n escape
    (λ v. visible_any (λ u. BlanksEnd (u ∷ us)) k n (λ e. b) (λ e. b) b) (λ e. b) h

-- A visible character that replaces a numeric escape represents itself, also if a backslash precedes it.
visible_contents : (k : Kind) (n : ℕ) → is_visible n ≡ true → strict_contents (strict_content_of k) (visible_unit k n)
    ≡ n ∷ []
visible_contents k n v =
    visible_any (λ u. strict_contents (strict_content_of k) u ≡ n ∷ []) k n (λ e. refl)
    (λ e. ap (plain_value_in plain_escapes) (eqb-true n 92 e) ∙ ap (λ z. z ∷ []) (sym (eqb-true n 92 e)))
    (held_low k n (visible_low n v))

named_contents : (z : Bool) (n : ℕ) → gets_letter z n ≡ true → plain_value_in plain_escapes (letter_of n) ≡ n ∷ []
named_contents z n h = named_any (λ n. plain_value_in plain_escapes (letter_of n) ≡ n ∷ []) z n h refl refl refl
    (λ e. refl)

respelled_contents : (style : Style) (k : Kind) (z : Bool) (n : ℕ) (escape : StrictUnit) (v : List ℕ)
    → (n < 128 → n ∷ [] ≡ v)
    → strict_contents (strict_content_of k) escape ≡ v
    → strict_contents (strict_content_of k) (respelled style k z n escape) ≡ v
respelled_contents style k z n escape v same h =
    respelled_any (λ u. strict_contents (strict_content_of k) u ≡ v) style k z n escape
    (λ e. visible_contents k n e ∙ same (visible_low n e)) (λ e. named_contents z n e ∙ same (named_low z n e)) h

-- ---- characters that become numeric escapes

-- A property holds for the new form of a character if it holds for the character and for its numeric escape.
pub itself_any : (P : StrictUnit → Type 0) (style : Style) (k : Kind) (z : Bool) (c : ℕ)
    → (needs_number c ≡ true → P (reescaped style k z (number_escape k c))) → P (Itself c)
    → P (restyled style k z (Itself c))
itself_any P style k z c escaped other = go (style.hidden && needs_number c) refl
  where
    go : (b : Bool) → (style.hidden && needs_number c) ≡ b → P
        (cond b (reescaped style k z (number_escape k c)) (Itself c))
    go true e = escaped (and_parts style.hidden (needs_number c) e).1
    go false e = other

-- ---- a literal may contain each rewritten character and escape

ascii_stays : (style : Style) (k : Kind) (z : Bool) (us : List StrictUnit) (high low : ℕ) → HasUnits k us
    → is_strict_unit k (AsciiEscape high low) ≡ true → is_strict_unit k (reescaped style k z (AsciiEscape high low))
    ≡ true
ascii_stays style k z us high low q h = respelled_allowed style k z us (place_value 16 (high ∷ low ∷ []))
    (AsciiEscape (cased style.escape_digits high) (cased style.escape_digits low)) q (ascii_zero k high low h)
    (ascii_allowed style.escape_digits k high low h)

byte_stays : (style : Style) (k : Kind) (z : Bool) (us : List StrictUnit) (high low : ℕ) → HasUnits k us
    → is_strict_unit k (ByteEscape high low) ≡ true → is_strict_unit k (reescaped style k z (ByteEscape high low))
    ≡ true
byte_stays style k z us high low q h = respelled_allowed style k z us (place_value 16 (high ∷ low ∷ []))
    (ByteEscape (cased style.escape_digits high) (cased style.escape_digits low)) q (byte_zero k high low h)
    (byte_allowed style.escape_digits k high low h)

unicode_stays : (style : Style) (k : Kind) (z : Bool) (us : List StrictUnit) (digits : List (ℕ × ℕ)) → HasUnits k us
    → is_strict_unit k (UnicodeEscape digits) ≡ true → is_strict_unit k (reescaped style k z (UnicodeEscape digits))
    ≡ true
unicode_stays style k z us digits q h = respelled_allowed style k z us (spaced_value digits)
    (UnicodeEscape (styled_digits style digits)) q (unicode_zero k digits h) (code_allowed style k digits h)

unit_allowed : (style : Style) (k : Kind) (z : Bool) (us : List StrictUnit) (u : StrictUnit) → HasUnits k us
    → is_strict_unit k u ≡ true → is_strict_unit k (restyled style k z u) ≡ true
unit_allowed style k z us (QuoteEscape c) q h = quote_kept (style.quote_escapes && not (c == closer k)) k us c q h
    (not_closer style.quote_escapes k c)
unit_allowed style k z us (Itself c) q h =
    itself_any (λ u. is_strict_unit k u ≡ true) style k z c
    (λ e. number_any (λ u. is_strict_unit k u ≡ true → is_strict_unit k (reescaped style k z u) ≡ true) k c
    (λ high low. ascii_stays style k z us high low q) (λ high low. byte_stays style k z us high low q)
    (λ digits. unicode_stays style k z us digits q) (number_allowed k us c q h e)) h
unit_allowed style k z us (PlainEscape c) q h = h
unit_allowed style k z us (AsciiEscape high low) q h = ascii_stays style k z us high low q h
unit_allowed style k z us (ByteEscape high low) q h = byte_stays style k z us high low q h
unit_allowed style k z us (UnicodeEscape digits) q h = unicode_stays style k z us digits q h
unit_allowed style k z us (LineBreak blanks) q h = h

pub all_allowed : (style : Style) (k : Kind) (vs us : List StrictUnit) → HasUnits k vs
    → list_all (is_strict_unit k) us ≡ true → list_all (is_strict_unit k) (restyled_units style k us) ≡ true
all_allowed style k vs [] q h = refl
all_allowed style k vs (u ∷ us) q h =
    let p = and_parts (is_strict_unit k u) (list_all (is_strict_unit k) us) h in
    let z : Bool = not (digit_follows k us) in
    and_from (is_strict_unit k (restyled style k z u)) (list_all (is_strict_unit k) (restyled_units style k us))
    (unit_allowed style k z vs u q p.0) (all_allowed style k vs us q p.1)

-- ---- rewriting keeps the number of characters and escapes

unit_count : (style : Style) (k : Kind) (us : List StrictUnit) → length (restyled_units style k us) ≡ length us
unit_count style k [] = refl
unit_count style k (u ∷ us) = ap suc (unit_count style k us)

pub same_count : (style : Style) (k : Kind) (us : List StrictUnit) → HasUnits k us
    → HasUnits k (restyled_units style k us)
same_count style Str us h = tt
same_count style ByteStr us h = tt
same_count style CStr us h = tt
same_count style Byte us h = unit_count style Byte us ∙ h
same_count style Char us h = unit_count style Char us ∙ h
same_count style kind us h = absurd h

-- ---- after rewriting, an escaped line end skips no more white space than before

no_blank : (c : ℕ) → (c == 39 || c == 34) ≡ true → is_dropped_blank c ≡ false
no_blank c h =
    let test : ℕ → Bool = λ z. z == 39 || z == 34 in
    or_from (c == 32 || c == 9) (c == 10) (or_from (c == 32) (c == 9) (apart test c 32 h refl) (apart test c 9 h refl))
    (apart test c 10 h refl)

quote_front : (b : Bool) (k : Kind) (c : ℕ) (rest : List ℕ) → is_strict_unit k (QuoteEscape c) ≡ true
    → first_passes is_dropped_blank (strict_text (quote_unit b c) ++ rest) ≡ false
quote_front true k c rest h = no_blank c (quote_of k c h)
quote_front false k c rest h = refl

hidden_front : (style : Style) (k : Kind) (z : Bool) (c : ℕ) (rest : List ℕ)
    → first_passes is_dropped_blank (strict_text (reescaped style k z (number_escape k c)) ++ rest) ≡ false
hidden_front style k z c rest = number_any
    (λ u. first_passes is_dropped_blank (strict_text (reescaped style k z u) ++ rest) ≡ false) k c
    (λ high low. respelled_front style k z (place_value 16 (high ∷ low ∷ []))
    (AsciiEscape (cased style.escape_digits high) (cased style.escape_digits low)) rest refl)
    (λ high low. respelled_front style k z (place_value 16 (high ∷ low ∷ []))
    (ByteEscape (cased style.escape_digits high) (cased style.escape_digits low)) rest refl)
    (λ digits. respelled_front style k z (spaced_value digits) (UnicodeEscape (styled_digits style digits)) rest refl)

front_stays : (style : Style) (k : Kind) (us : List StrictUnit) → list_all (is_strict_unit k) us ≡ true
    → first_passes is_dropped_blank (flat_map strict_text us) ≡ false
    → first_passes is_dropped_blank (flat_map strict_text (restyled_units style k us)) ≡ false
front_stays style k [] h n = refl
front_stays style k (u ∷ us) h n = go u (and_parts (is_strict_unit k u) (list_all (is_strict_unit k) us) h).0 n
  where
    z : Bool
    z = not (digit_follows k us)

    rest : List ℕ
    rest = flat_map strict_text (restyled_units style k us)

    go : (u : StrictUnit) → is_strict_unit k u ≡ true
        → first_passes is_dropped_blank (strict_text u ++ flat_map strict_text us) ≡ false
        → first_passes is_dropped_blank (strict_text (restyled style k z u) ++ rest) ≡ false
    go (QuoteEscape c) p n = quote_front (style.quote_escapes && not (c == closer k)) k c rest p
    go (Itself c) p n = itself_any (λ u. first_passes is_dropped_blank (strict_text u ++ rest) ≡ false) style k z c
        (λ e. hidden_front style k z c rest) n
    go (PlainEscape c) p n = refl
    go (AsciiEscape high low) p n = respelled_front style k z (place_value 16 (high ∷ low ∷ []))
        (AsciiEscape (cased style.escape_digits high) (cased style.escape_digits low)) rest refl
    go (ByteEscape high low) p n = respelled_front style k z (place_value 16 (high ∷ low ∷ []))
        (ByteEscape (cased style.escape_digits high) (cased style.escape_digits low)) rest refl
    go (UnicodeEscape digits) p n = respelled_front style k z (spaced_value digits)
        (UnicodeEscape (styled_digits style digits)) rest refl
    go (LineBreak blanks) p n = refl

quote_ends : (b : Bool) (c : ℕ) (us : List StrictUnit) → BlanksEnd us → BlanksEnd (quote_unit b c ∷ us)
quote_ends true c us e = e
quote_ends false c us e = e

hidden_ends : (style : Style) (k : Kind) (z : Bool) (c : ℕ) (us : List StrictUnit) → BlanksEnd us
    → BlanksEnd (reescaped style k z (number_escape k c) ∷ us)
hidden_ends style k z c us b = number_any (λ u. BlanksEnd (reescaped style k z u ∷ us)) k c
    (λ high low. respelled_ends style k z (place_value 16 (high ∷ low ∷ []))
    (AsciiEscape (cased style.escape_digits high) (cased style.escape_digits low)) us b b)
    (λ high low. respelled_ends style k z (place_value 16 (high ∷ low ∷ []))
    (ByteEscape (cased style.escape_digits high) (cased style.escape_digits low)) us b b)
    (λ digits. respelled_ends style k z (spaced_value digits) (UnicodeEscape (styled_digits style digits)) us b b)

pub blanks_stay : (style : Style) (k : Kind) (us : List StrictUnit) → list_all (is_strict_unit k) us ≡ true
    → BlanksEnd us
    → BlanksEnd (restyled_units style k us)
blanks_stay style k [] h b = tt
blanks_stay style k (u ∷ us) h b = go u (and_parts (is_strict_unit k u) (list_all (is_strict_unit k) us) h).1 b
    (λ p b. blanks_stay style k us p b)
  where
    z : Bool
    z = not (digit_follows k us)

    rest : List StrictUnit
    rest = restyled_units style k us

    go : (u : StrictUnit) → list_all (is_strict_unit k) us ≡ true → BlanksEnd (u ∷ us)
        → (list_all (is_strict_unit k) us ≡ true → BlanksEnd us → BlanksEnd rest)
        → BlanksEnd (restyled style k z u ∷ rest)
    go (QuoteEscape c) p b ih = quote_ends (style.quote_escapes && not (c == closer k)) c rest (ih p b)
    go (Itself c) p b ih = itself_any (λ u. BlanksEnd (u ∷ rest)) style k z c (λ e. hidden_ends style k z c rest
        (ih p b)) (ih p b)
    go (PlainEscape c) p b ih = ih p b
    go (AsciiEscape high low) p b ih = respelled_ends style k z (place_value 16 (high ∷ low ∷ []))
        (AsciiEscape (cased style.escape_digits high) (cased style.escape_digits low)) rest (ih p b) (ih p b)
    go (ByteEscape high low) p b ih = respelled_ends style k z (place_value 16 (high ∷ low ∷ []))
        (ByteEscape (cased style.escape_digits high) (cased style.escape_digits low)) rest (ih p b) (ih p b)
    go (UnicodeEscape digits) p b ih = respelled_ends style k z (spaced_value digits)
        (UnicodeEscape (styled_digits style digits)) rest (ih p b) (ih p b)
    go (LineBreak blanks) p b ih = (front_stays style k us p b.0, ih p b.1)

-- ---- rewriting keeps the value of a literal

one_byte : (c : ℕ) → (c == 39 || c == 34) ≡ true → encode_utf8_all (c ∷ []) ≡ c ∷ []
one_byte c h = append-nil _ ∙ encode_ascii c (below (cases_Bool (c == 39)))
  where
    below : ((c == 39) ≡ true) ⊎ ((c == 39) ≡ false) → c < 128
    below (inl a) = let e = eqb-true c 39 a in omega (arith, e)
    below (inr a) = let e = eqb-true c 34 (second_of (c == 39) (c == 34) h a) in omega (arith, e)

quote_held : (k : Kind) (c : ℕ) → (c == 39 || c == 34) ≡ true → strict_content_of k (c ∷ []) ≡ c ∷ []
quote_held CStr c h = one_byte c h
quote_held Str c h = refl
quote_held ByteStr c h = refl
quote_held Byte c h = refl
quote_held Char c h = refl
quote_held Int c h = refl
quote_held Float c h = refl
quote_held BoolKind c h = refl

quote_contents : (b : Bool) (k : Kind) (c : ℕ) → is_strict_unit k (QuoteEscape c) ≡ true
    → strict_contents (strict_content_of k) (quote_unit b c) ≡ c ∷ []
quote_contents true k c h = quote_held k c (quote_of k c h)
quote_contents false k c h = refl

ascii_contents : (style : Style) (k : Kind) (z : Bool) (high low : ℕ)
    → strict_contents (strict_content_of k) (reescaped style k z (AsciiEscape high low))
    ≡ place_value 16 (high ∷ low ∷ []) ∷ []
ascii_contents style k z high low = respelled_contents style k z (place_value 16 (high ∷ low ∷ []))
    (AsciiEscape (cased style.escape_digits high) (cased style.escape_digits low)) (place_value 16 (high ∷ low ∷ []) ∷
    [])
    (λ low. refl) (ap (λ n. n ∷ []) (two_cased style.escape_digits high low))

byte_contents : (style : Style) (k : Kind) (z : Bool) (high low : ℕ)
    → strict_contents (strict_content_of k) (reescaped style k z (ByteEscape high low))
    ≡ place_value 16 (high ∷ low ∷ []) ∷ []
byte_contents style k z high low = respelled_contents style k z (place_value 16 (high ∷ low ∷ []))
    (ByteEscape (cased style.escape_digits high) (cased style.escape_digits low)) (place_value 16 (high ∷ low ∷ []) ∷
    [])
    (λ low. refl) (ap (λ n. n ∷ []) (two_cased style.escape_digits high low))

unicode_contents : (style : Style) (k : Kind) (z : Bool) (digits : List (ℕ × ℕ))
    → strict_contents (strict_content_of k) (reescaped style k z (UnicodeEscape digits))
    ≡ strict_content_of k (spaced_value digits ∷ [])
unicode_contents style k z digits = respelled_contents style k z (spaced_value digits)
    (UnicodeEscape (styled_digits style digits)) (strict_content_of k (spaced_value digits ∷ []))
    (λ low. sym (held_low k (spaced_value digits) low)) (ap (λ n. strict_content_of k (n ∷ []))
    (code_value style digits))

unit_contents : (style : Style) (k : Kind) (z : Bool) (u : StrictUnit) → is_strict_unit k u ≡ true
    → strict_contents (strict_content_of k) (restyled style k z u) ≡ strict_contents (strict_content_of k) u
unit_contents style k z (QuoteEscape c) h = quote_contents (style.quote_escapes && not (c == closer k)) k c h
unit_contents style k z (Itself c) h =
    itself_any (λ u. strict_contents (strict_content_of k) u ≡ strict_content_of k (c ∷ [])) style k z c
    (λ e. number_any (λ u. strict_contents (strict_content_of k) (reescaped style k z u)
    ≡ strict_contents (strict_content_of k) u) k c (ascii_contents style k z) (byte_contents style k z)
    (unicode_contents style k z) ∙ number_contents k c) refl
unit_contents style k z (PlainEscape c) h = refl
unit_contents style k z (AsciiEscape high low) h = ascii_contents style k z high low
unit_contents style k z (ByteEscape high low) h = byte_contents style k z high low
unit_contents style k z (UnicodeEscape digits) h = unicode_contents style k z digits
unit_contents style k z (LineBreak blanks) h = refl

pub all_contents : (style : Style) (k : Kind) (us : List StrictUnit) → list_all (is_strict_unit k) us ≡ true
    → flat_map (strict_contents (strict_content_of k)) (restyled_units style k us)
    ≡ flat_map (strict_contents (strict_content_of k)) us
all_contents style k [] h = refl
all_contents style k (u ∷ us) h =
    let p = and_parts (is_strict_unit k u) (list_all (is_strict_unit k) us) h in
    ap (λ z. z ++ flat_map (strict_contents (strict_content_of k)) (restyled_units style k us))
    (unit_contents style k (not (digit_follows k us)) u p.0)
    ∙ ap (λ z. strict_contents (strict_content_of k) u ++ z) (all_contents style k us p.1)

-- The next character or escape represents a digit in the old and in the new text, or in neither.
follows_same : (style : Style) (k : Kind) (us : List StrictUnit) → list_all (is_strict_unit k) us ≡ true
    → digit_follows k (restyled_units style k us) ≡ digit_follows k us
follows_same style k [] h = refl
follows_same style k (u ∷ us) h = ap (first_passes is_ascii_digit) (unit_contents style k (not (digit_follows k us)) u
    (and_parts (is_strict_unit k u) (list_all (is_strict_unit k) us) h).0)

-- ---- the rewritten literal with escapes

-- A quoted literal with escapes is a literal token of its kind.
pub cooked_strict : (t : List ℕ) (k : Kind) (v : Contents) (x : List ℕ) → StrictCooked t k v x → Strict t k v x
cooked_strict t Str v x s = inl s
cooked_strict t ByteStr v x s = inl s
cooked_strict t CStr v x s = inl s
cooked_strict t Byte v x s = inl s
cooked_strict t Char v x s = inl s
cooked_strict t Int v x s = absurd s.count
cooked_strict t Float v x s = absurd s.count
cooked_strict t BoolKind v x s = absurd s.count

abbrev pub written : (style : Style) (t u : List ℕ) (k : Kind) (v : Contents) (x : List ℕ) (s : StrictCooked t k v x)
    → u ≡ strict_opener k ++ (restyled_inside style k s.units ++ (strict_closer k ++ x))
    → StrictCooked u k v x
written style t u k v x s e = record {
  units = restyled_units style k s.units;
  count = same_count style k s.units s.count;
  each = all_allowed style k s.units s.units s.count s.each;
  blanks_end = blanks_stay style k s.units s.each s.blanks_end;
  suffix = s.suffix;
  text = e ∙ sym (between (strict_opener k) (restyled_inside style k s.units) (strict_closer k)
      x);
  contents = s.contents ∙ ap (quoted_contents k) (sym (all_contents style k s.units s.each));
}

pub cooked_same : (style : Style) (t u : List ℕ) → RewritesCooked style t u → SameLiteral t u
cooked_same style t u c = record {
  kind = c.kind;
  contents = c.contents;
  suffix = c.suffix;
  was = cooked_strict t c.kind c.contents c.suffix c.cooked;
  is = cooked_strict u c.kind c.contents c.suffix (written style t u c.kind c.contents c.suffix c.cooked c.new_is);
}

-- ---- if a literal with escapes is rewritten again, nothing changes

-- A character that needs no numeric escape is unchanged.
pub shown_stays : (style : Style) (k : Kind) (z : Bool) (c : ℕ) → needs_number c ≡ false → restyled style k z (Itself c)
    ≡ Itself c
shown_stays style k z c h =
    ap (λ b. cond (style.hidden && b) (reescaped style k z (number_escape k c)) (Itself c)) h
    ∙ ap (λ b. cond b (reescaped style k z (number_escape k c)) (Itself c)) (none_right style.hidden)

twice_quote : (b : Bool) (style : Style) (k : Kind) (z : Bool) (c : ℕ) → (c == 39 || c == 34) ≡ true
    → b ≡ (style.quote_escapes && not (c == closer k))
    → restyled style k z (quote_unit b c) ≡ quote_unit b c
twice_quote true style k z c q e = shown_stays style k z c (quotes_shown c q)
twice_quote false style k z c q e = ap (λ z. quote_unit z c) (sym e)

-- If a numeric escape is rewritten a second time, it doesn't change.
twice_respelled : (style : Style) (k : Kind) (z : Bool) (n : ℕ) (escape : StrictUnit) → restyled style k z escape
    ≡ respelled style k z n escape → restyled style k z (respelled style k z n escape) ≡ respelled style k z n escape
twice_respelled style k z n escape h = go (style.ascii_escapes && is_visible n) (style.named_escapes && gets_letter z n)
    refl
    refl
  where
    quote : (n == closer k) ≡ true → restyled style k z (QuoteEscape n) ≡ QuoteEscape n
    quote e = ap (λ b. quote_unit (style.quote_escapes && not b) n) e
        ∙ ap (λ b. quote_unit b n) (none_right style.quote_escapes)

    go : (a b : Bool) → (style.ascii_escapes && is_visible n) ≡ a → (style.named_escapes && gets_letter z n) ≡ b
        → restyled style k z (chosen a b k n escape) ≡ chosen a b k n escape
    go true b e f = visible_any (λ u. restyled style k z u ≡ u) k n quote (λ e. refl)
        (shown_stays style k z n (visible_shown n (and_parts style.ascii_escapes (is_visible n) e).1))
    go false true e f = refl
    go false false e f = h
        ∙ ap (λ a. chosen a (style.named_escapes && gets_letter z n) k n escape) e
        ∙ ap (λ b. chosen false b k n escape) f

twice_ascii : (style : Style) (k : Kind) (z : Bool) (high low : ℕ)
    → restyled style k z (reescaped style k z (AsciiEscape high low))
    ≡ reescaped style k z (AsciiEscape high low)
twice_ascii style k z high low =
    let case : Option Case = style.escape_digits in
    let n : ℕ = place_value 16 (high ∷ low ∷ []) in
    let h : ℕ = cased case high in
    let l : ℕ = cased case low in
    twice_respelled style k z n (AsciiEscape h l)
    (ap (λ m. respelled style k z m (AsciiEscape (cased case h) (cased case l))) (two_cased case high low)
    ∙ ap (λ d. respelled style k z n (AsciiEscape d (cased case l))) (twice_cased case high)
    ∙ ap (λ d. respelled style k z n (AsciiEscape h d)) (twice_cased case low))

twice_byte : (style : Style) (k : Kind) (z : Bool) (high low : ℕ)
    → restyled style k z (reescaped style k z (ByteEscape high low))
    ≡ reescaped style k z (ByteEscape high low)
twice_byte style k z high low =
    let case : Option Case = style.escape_digits in
    let n : ℕ = place_value 16 (high ∷ low ∷ []) in
    let h : ℕ = cased case high in
    let l : ℕ = cased case low in
    twice_respelled style k z n (ByteEscape h l)
    (ap (λ m. respelled style k z m (ByteEscape (cased case h) (cased case l))) (two_cased case high low)
    ∙ ap (λ d. respelled style k z n (ByteEscape d (cased case l))) (twice_cased case high)
    ∙ ap (λ d. respelled style k z n (ByteEscape h d)) (twice_cased case low))

twice_unicode : (style : Style) (k : Kind) (z : Bool) (digits : List (ℕ × ℕ))
    → restyled style k z (reescaped style k z (UnicodeEscape digits)) ≡ reescaped style k z (UnicodeEscape digits)
twice_unicode style k z digits =
    let new : List (ℕ × ℕ) = styled_digits style digits in
    twice_respelled style k z (spaced_value digits) (UnicodeEscape new)
    (ap (λ m. respelled style k z m (UnicodeEscape (styled_digits style new))) (code_value style digits)
    ∙ ap (λ ds. respelled style k z (spaced_value digits) (UnicodeEscape ds)) (code_twice style digits))

twice_itself : (style : Style) (k : Kind) (z : Bool) (c : ℕ) → restyled style k z (restyled style k z (Itself c))
    ≡ restyled style k z (Itself c)
twice_itself style k z c = go (style.hidden && needs_number c) refl
  where
    escape : StrictUnit
    escape = reescaped style k z (number_escape k c)

    go : (b : Bool) → (style.hidden && needs_number c) ≡ b → restyled style k z (cond b escape (Itself c))
        ≡ cond b escape (Itself c)
    go true e = number_any (λ u. restyled style k z (reescaped style k z u) ≡ reescaped style k z u) k c
        (twice_ascii style k z) (twice_byte style k z) (twice_unicode style k z)
    go false e = ap (λ b. cond b escape (Itself c)) e

twice_unit : (style : Style) (k : Kind) (z : Bool) (u : StrictUnit) → is_strict_unit k u ≡ true
    → restyled style k z (restyled style k z u) ≡ restyled style k z u
twice_unit style k z (QuoteEscape c) h = twice_quote (style.quote_escapes && not (c == closer k)) style k z c
    (quote_of k c h) refl
twice_unit style k z (Itself c) h = twice_itself style k z c
twice_unit style k z (PlainEscape c) h = refl
twice_unit style k z (AsciiEscape high low) h = twice_ascii style k z high low
twice_unit style k z (ByteEscape high low) h = twice_byte style k z high low
twice_unit style k z (UnicodeEscape digits) h = twice_unicode style k z digits
twice_unit style k z (LineBreak blanks) h = refl

twice_units : (style : Style) (k : Kind) (us : List StrictUnit) → list_all (is_strict_unit k) us ≡ true
    → restyled_units style k (restyled_units style k us) ≡ restyled_units style k us
twice_units style k [] h = refl
twice_units style k (u ∷ us) h =
    let p = and_parts (is_strict_unit k u) (list_all (is_strict_unit k) us) h in
    let z : Bool = not (digit_follows k us) in
    let new : List StrictUnit = restyled_units style k us in
    ap (λ b. restyled style k (not b) (restyled style k z u) ∷ restyled_units style k new)
    (follows_same style k us p.1)
    ∙ ap (λ v. v ∷ restyled_units style k new) (twice_unit style k z u p.0)
    ∙ ap (λ vs. restyled style k z u ∷ vs) (twice_units style k us p.1)

pub cooked_stays : (style : Style) (t u : List ℕ) → RewritesCooked style t u → RewritesCooked style u u
cooked_stays style t u c = record {
  kind = c.kind;
  contents = c.contents;
  suffix = c.suffix;
  cooked = written style t u c.kind c.contents c.suffix c.cooked c.new_is;
  new_is = c.new_is ∙ ap (λ z. strict_opener c.kind ++ (flat_map strict_text z ++ (strict_closer c.kind ++ c.suffix)))
      (sym (twice_units style c.kind c.cooked.units c.cooked.each));
}
