-- The bytes of a rewritten number, as the code writes them.
use Rattle.rl_syntax.proofs.Common.{◌≡◌, ℕ, ◌||◌, ◌&&◌, Bool, true, false, not, ◌==◌, cond, List, [], ◌∷◌, ◌++◌, ◌+◌, length, eqb-true, cases_Bool, Some, None, refl, sym, ap, subst, ◌∙◌, inl, inr, arith, append_assoc, append_cancel_right, and_from, and_parts, flat_map, list_all, scalar, encode_utf8_all, encodes-append, encodes-chars, IsUtf8}
use Rattle.std.specs.Prelude.{Option}
use Rattle.std.specs.Str.{chars}
use Rattle.std.proofs.Math.Utf8.{scalars}
use Rattle.std.proofs.lemmas.Str.{scalars-chars}
use Rattle.rl_lenient.proofs.Names.{Binary, Hexadecimal, Octal}
use Rattle.rl_syntax.specs.Reading.{Contents}
use Rattle.rl_syntax.specs.Strict.{StrictFloat, StrictInt}
use Rattle.rl_lenient.specs.Mirrors.NumberAt.{radix_at}
use Rattle.rl_lenient.proofs.IntegerLemmas.{not_based, radix_past}
use Rattle.rl_style.specs.declared.style.Case.{Case}
use Rattle.rl_style.specs.declared.style.Case.TheVariants.{Lower, Upper}
use Rattle.rl_style.specs.declared.style.Separator.{Separator}
use Rattle.rl_style.specs.declared.style.Separator.TheVariants.{Nothing, Underscore}
use Rattle.rl_style.specs.declared.style.Style.{Style}
use Rattle.rl_style.specs.Cases.{cased, drops_underscores, drops_zeros, exponent_letter, kept_digits, kept_run, number_character, separator, separator_by}
use Rattle.rl_syntax.specs.Texts.{first_passes, is_run_part}
use Rattle.rl_syntax.proofs.Common.{is_ascii_digit}
use Rattle.rl_style.specs.Groups.{after_dot, digit_run, fraction_in_groups, float_in_groups, grouped_run, least_by, regrouped, size_by}
use Rattle.rl_style.specs.Mistyped.{is_mistyped, is_mistyped_float}
use Rattle.rl_style.specs.Rewriting.{KeepsFloat, KeepsInt, StylesFloat, StylesInt, styled_run}
use Rattle.rl_syntax.specs.Classes.{after_run}
use denote.Bor.{Bor}
use Rattle.rl_strict.specs.declared.read_numbers.Number.{Number}
use Rattle.rl_strict.specs.declared.read_numbers.Number.TheVariants.{Integer, Float}
use Rattle.rl_strict.specs.StrictNumbersRead.{IsNumberRead}
use Rattle.rl_style.proofs.CaseLemmas.{cased_scalar}
use Rattle.rl_style.proofs.SameIntegers.{integer_plus, kept_of_row, row_facts, zeros_ten}
use Rattle.rl_style.proofs.Trimmed.{kept_first}
use Rattle.rl_style.proofs.Regrouped.{grouped_all}
use Rattle.rl_style.proofs.WrittenTexts.{between_texts, scalars_join, text_of}
use Rattle.rl_writing.proofs.AsciiLemmas.{encoded_low, low_chars}
use Rattle.rl_style.specs.declared.characters.Manner.{Manner}

-- ---- the base that the code finds in a number

abbrev radix_of : List ℕ → ℕ
radix_of t = (radix_at t).0

pub base_found : (t : List ℕ) (v : Contents) (x : List ℕ) (i : StrictInt t v x) → radix_of t ≡ i.base
base_found t v x i =
    let w : List ℕ = i.run ++ x in
    let text : t ≡ i.prefix ++ w = i.text ∙ append_assoc i.prefix i.run x in
    elim i.is_front [
      | inl f ↦ ap (λ (p : ℕ × List ℕ). p.0) (not_based t f.3) ∙ sym f.1
      | inr f ↦ elim f [
        | inl g ↦ ap radix_of (text ∙ ap (λ z. z ++ w) g.0) ∙ ap (λ (p : ℕ × List ℕ). p.0) (radix_past Binary w tt).0
            ∙ sym g.1
        | inr g ↦ elim g [
          | inl b ↦ ap radix_of (text ∙ ap (λ z. z ++ w) b.0) ∙ ap (λ (p : ℕ × List ℕ). p.0) (radix_past Octal w tt).0
              ∙ sym b.1
          | inr b ↦ ap radix_of (text ∙ ap (λ z. z ++ w) b.0) ∙ ap (λ (p : ℕ × List ℕ). p.0)
              (radix_past Hexadecimal w tt).0
              ∙ sym b.1
        ]
      ]
    ]

pub digits_found : (t : List ℕ) (v : Contents) (x : List ℕ) (i : StrictInt t v x) → (radix_at t).1 ≡ i.run ++ x
digits_found t v x i =
    let w : List ℕ = i.run ++ x in
    let text : t ≡ i.prefix ++ w = i.text ∙ append_assoc i.prefix i.run x in
    let after : List ℕ → List ℕ = λ z. (radix_at z).1 in
    elim i.is_front [
      | inl f ↦ ap (λ (p : ℕ × List ℕ). p.1) (not_based t f.3) ∙ text ∙ ap (λ z. z ++ w) f.0
      | inr f ↦ elim f [
        | inl g ↦ ap after (text ∙ ap (λ z. z ++ w) g.0) ∙ ap (λ (p : ℕ × List ℕ). p.1) (radix_past Binary w tt).0
        | inr g ↦ elim g [
          | inl b ↦ ap after (text ∙ ap (λ z. z ++ w) b.0) ∙ ap (λ (p : ℕ × List ℕ). p.1) (radix_past Octal w tt).0
          | inr b ↦ ap after (text ∙ ap (λ z. z ++ w) b.0)
              ∙ ap (λ (p : ℕ × List ℕ). p.1) (radix_past Hexadecimal w tt).0
        ]
      ]
    ]

-- ---- the bytes that the code writes for a number

-- If Unicode scalar values are written before a UTF-8 text, the result is UTF-8. The result consists of these values and then
-- of the characters of the text.
followed : (m s b : List ℕ) → IsUtf8 s → scalars m ≡ true → b ≡ encode_utf8_all m ++ s → IsUtf8 b
    × (chars b ≡ m ++ chars s)
followed m s b v h e = text_of b (m ++ chars s) (scalars_join m (chars s) h (scalars-chars s v))
    (e ∙ ap (λ z. encode_utf8_all m ++ z) (sym (encodes-chars s v)) ∙ sym (encodes-append m (chars s)))

letter_scalar : (letter : Option Case) (c : ℕ) → scalar c ≡ true → scalar (exponent_letter letter c) ≡ true
letter_scalar None c h = h
letter_scalar (Some Lower) c h = go (c == 69)
  where
    go : (b : Bool) → scalar (cond b 101 c) ≡ true
    go true = refl
    go false = h
letter_scalar (Some Upper) c h = go (c == 101)
  where
    go : (b : Bool) → scalar (cond b 69 c) ≡ true
    go true = refl
    go false = h

one_scalar : (hex : Bool) (digits letter : Option Case) (c : ℕ) → scalar c ≡ true
    → scalar (cond hex (cased digits c) (exponent_letter letter c)) ≡ true
one_scalar true digits letter c h = cased_scalar digits c h
one_scalar false digits letter c h = letter_scalar letter c h

character_scalars : (b : Bool) (d : ℕ) → scalar d ≡ true → scalars (cond b [] (d ∷ [])) ≡ true
character_scalars true d h = refl
character_scalars false d h = and_from (scalar d) true h refl

numeral_scalars : (style : Style) (drops hex : Bool) (cs : List ℕ) → scalars cs ≡ true
    → scalars (flat_map (number_character style drops hex) cs) ≡ true
numeral_scalars style drops hex [] h = refl
numeral_scalars style drops hex (c ∷ cs) h =
    let p = and_parts (scalar c) (scalars cs) h in
    scalars_join (number_character style drops hex c) (flat_map (number_character style drops hex) cs)
    (character_scalars ((drops && c == 95) || ((not hex && style.exponent_plus) && c == 43)) _
    (one_scalar hex style.hex_digits style.exponent_letter c p.0)) (numeral_scalars style drops hex cs p.1)

separator_scalars : (s : Option Separator) (x : List ℕ) → scalars (separator_by s x) ≡ true
separator_scalars None x = refl
separator_scalars (Some Nothing) x = refl
separator_scalars (Some Underscore) [] = refl
separator_scalars (Some Underscore) (c ∷ cs) = refl

-- The bytes of the separator before the suffix, and of the suffix.
abbrev pub ended : Style → List ℕ → List ℕ
ended style suffix = encode_utf8_all (separator style (chars suffix)) ++ suffix

scalars_all : (cs : List ℕ) → scalars cs ≡ list_all scalar cs
scalars_all [] = refl
scalars_all (c ∷ cs) = ap (λ b. scalar c && b) (scalars_all cs)

row_scalars : (from_first : Bool) (size least : ℕ) (cs : List ℕ) → scalars cs ≡ true
    → scalars (regrouped from_first size least cs) ≡ true
row_scalars from_first size least cs h = scalars_all (regrouped from_first size least cs)
    ∙ grouped_all scalar from_first size least cs refl (sym (scalars_all cs) ∙ h)

pub integer_scalars : (style : Style) (drops hex : Bool) (size least : ℕ) (cs : List ℕ) → scalars cs ≡ true
    → scalars (regrouped false size least (flat_map (number_character style drops hex) cs)) ≡ true
integer_scalars style drops hex size least cs h = row_scalars false size least _ (numeral_scalars style drops hex cs h)

run_scalars : (cs : List ℕ) → scalars cs ≡ true → (scalars (digit_run cs) ≡ true)
    × (scalars (after_run (is_run_part is_ascii_digit) cs) ≡ true)
run_scalars [] h = (refl, refl)
run_scalars (c ∷ cs) h =
    let p = and_parts (scalar c) (scalars cs) h in
    go (is_run_part is_ascii_digit c) p.0 (run_scalars cs p.1)
  where
    go : (b : Bool) → scalar c ≡ true
        → (scalars (digit_run cs) ≡ true) × (scalars (after_run (is_run_part is_ascii_digit) cs) ≡ true)
        → (scalars (cond b (c ∷ digit_run cs) []) ≡ true)
        × (scalars (cond b (after_run (is_run_part is_ascii_digit) cs) (c ∷ cs)) ≡ true)
    go true k more = (and_from (scalar c) (scalars (digit_run cs)) k more.0, more.1)
    go false k more = (refl, h)

dot_scalars : (closes : Bool) (style : Style) (drops : Bool) (size least : ℕ) (cs : List ℕ) → scalars cs ≡ true
    → scalars (after_dot closes (number_character style drops false) (regrouped true size least) cs) ≡ true
dot_scalars true style drops size least [] h = refl
dot_scalars false style drops size least [] h = refl
dot_scalars closes style drops size least (c ∷ cs) h =
    let f : ℕ → List ℕ = number_character style drops false in
    let q = run_scalars (c ∷ cs) h in
    let run : List ℕ = flat_map f (digit_run (c ∷ cs)) in
    let rest : List ℕ = flat_map f (after_run (is_run_part is_ascii_digit) (c ∷ cs)) in
    scalars_join (regrouped true size least run) rest
    (row_scalars true size least run (numeral_scalars style drops false (digit_run (c ∷ cs)) q.0))
    (numeral_scalars style drops false (after_run (is_run_part is_ascii_digit) (c ∷ cs)) q.1)

fraction_scalars : (closes : Bool) (style : Style) (drops : Bool) (size least : ℕ) (cs : List ℕ) → scalars cs ≡ true
    → scalars (fraction_in_groups closes (number_character style drops false) (regrouped true size least) cs) ≡ true
fraction_scalars closes style drops size least [] h = refl
fraction_scalars closes style drops size least (c ∷ cs) h = go (c == 46)
  where
    f : ℕ → List ℕ
    f = number_character style drops false

    go : (b : Bool) → scalars (cond b (c ∷ after_dot closes f (regrouped true size least) cs) (flat_map f (c ∷ cs)))
        ≡ true
    go true =
        let p = and_parts (scalar c) (scalars cs) h in
        and_from (scalar c) (scalars (after_dot closes f (regrouped true size least) cs)) p.0
        (dot_scalars closes style drops size least cs p.1)
    go false = numeral_scalars style drops false (c ∷ cs) h

pub float_scalars : (closes : Bool) (style : Style) (drops : Bool) (size least : ℕ) (cs : List ℕ) → scalars cs ≡ true
    → scalars (float_in_groups closes (number_character style drops false)
    (λ from_first. regrouped from_first size least) cs) ≡ true
float_scalars closes style drops size least cs h =
    let q = run_scalars cs h in
    let run : List ℕ = flat_map (number_character style drops false) (digit_run cs) in
    let rest : List ℕ = after_run (is_run_part is_ascii_digit) cs in
    scalars_join (regrouped false size least run)
    (fraction_in_groups closes (number_character style drops false) (regrouped true size least) rest)
    (row_scalars false size least run (numeral_scalars style drops false (digit_run cs) q.0))
    (fraction_scalars closes style drops size least rest q.1)

abbrev Written : Style → List ℕ → List ℕ → List ℕ → List ℕ → Type 0
Written style front middle suffix new = new ≡ (front ++ encode_utf8_all middle) ++ ended style suffix

number_text : (style : Style) (front middle suffix new : List ℕ) → IsUtf8 front → IsUtf8 suffix → scalars middle ≡ true
    → Written style front middle suffix new
    → IsUtf8 new × (chars new ≡ chars front ++ (middle ++ (separator style (chars suffix) ++ chars suffix)))
number_text style front middle suffix new u us h e =
    let end = followed (separator style (chars suffix)) suffix (ended style suffix) us
    (separator_scalars style.suffix_separator (chars suffix)) refl in
    let whole = between_texts front middle (ended style suffix) new u end.0 h e in
    (whole.0, whole.1 ∙ ap (λ z. chars front ++ (middle ++ z)) end.1)

-- The code finds the base and the digits of an integer that Rust's grammar defines.
pub digits_cut : (text digits suffix full : List ℕ) (base : ℕ) (v : Contents)
    → ◌≡◌ {A = ℕ × List ℕ} (base, chars digits) (radix_at (chars text))
    → chars digits ≡ chars full ++ chars suffix → (i : StrictInt (chars text) v (chars suffix))
    → (base ≡ i.base) × (chars full ≡ i.run)
digits_cut text digits suffix full base v at cut i = (
  ap (λ (p : ℕ × List ℕ). p.0) at ∙ base_found (chars text) v (chars suffix) i,
  append_cancel_right (chars full) i.run (chars suffix)
      (sym cut ∙ ap (λ (p : ℕ × List ℕ). p.1) at ∙ digits_found (chars text) v (chars suffix) i),
)

pub integer_written : (style : Style) (text digits suffix full whole run front new : List ℕ) (base : ℕ) (v : Contents)
    → IsUtf8 front → IsUtf8 suffix → IsUtf8 run → ◌≡◌ {A = ℕ × List ℕ} (base, chars digits) (radix_at (chars text))
    → chars digits ≡ chars full ++ chars suffix → chars whole ≡ kept_run style (chars suffix) (chars full)
    → chars run ≡ kept_digits style base (chars suffix) (chars whole) → chars text ≡ chars front ++ chars digits
    → Written style front (grouped_run false style base (chars suffix)
    (flat_map (number_character style (drops_underscores style (chars suffix)) (base == 16)) (chars run))) suffix new
    → StrictInt (chars text) v (chars suffix) → is_mistyped (chars suffix) (chars text) ≡ false
    → IsUtf8 new × StylesInt style (chars text) (chars new)
integer_written style text digits suffix full whole run front new base v u us ur at cut kept zeros before e i exact =
    let x : List ℕ = chars suffix in
    let p = digits_cut text digits suffix full base v at cut i in
    let end : List ℕ = separator style x ++ x in
    let Of : ℕ → List ℕ → List ℕ = λ b z. grouped_run false style b x
    (flat_map (number_character style (drops_underscores style x) (b == 16)) z) in
    let t = number_text style front (Of base (chars run)) suffix new u us (integer_scalars style
    (drops_underscores style x) (base == 16) (size_by style.digit_groups base x) (least_by style.digit_groups)
    (chars run) (scalars-chars run ur)) e in
    let row_is : chars run ≡ kept_digits style base x (kept_run style x i.run) = zeros
    ∙ ap (kept_digits style base x) (kept ∙ ap (kept_run style x) p.1) in
    let front_is : chars front ≡ i.prefix = append_cancel_right (chars front) i.prefix (i.run ++ x)
    (ap (λ z. chars front ++ z) (sym (cut ∙ ap (λ z. z ++ x) p.1)) ∙ sym before ∙ i.text
    ∙ append_assoc i.prefix i.run x) in (
      t.0,
      record {
        contents = v;
        suffix = x;
        int = i;
        exact = exact;
        new_is = t.1 ∙ ap (λ z. z ++ (Of base (chars run) ++ end)) front_is
            ∙ ap (λ z. i.prefix ++ (Of base z ++ end)) row_is
            ∙ ap (λ b. i.prefix ++ (styled_run style b x i.run ++ end)) p.0;
      },
    )

-- The digits of a decimal integer begin with a digit.
integer_digit : (style : Style) (t : List ℕ) (base : ℕ) (x : List ℕ) (v : Contents) (i : StrictInt t v x)
    → base ≡ i.base → drops_zeros style base x ≡ true → first_passes is_ascii_digit i.run ≡ true
integer_digit style t base x v i is h =
    let ten : i.base ≡ 10 = sym is ∙ zeros_ten style base x h in
    elim i.is_front [
      | inl f ↦ f.2.0
      | inr f ↦ elim f [
        | inl g ↦ absurd (let c = g.1 in omega (arith, c, ten))
        | inr g ↦ elim g [
          | inl h ↦ absurd (let c = h.1 in omega (arith, c, ten))
          | inr h ↦ absurd (let c = h.1 in omega (arith, c, ten))
        ]
      ]
    ]

pub whole_digit : (style : Style) (text digits suffix full whole : List ℕ) (base : ℕ) (v : Contents)
    → ◌≡◌ {A = ℕ × List ℕ} (base, chars digits) (radix_at (chars text)) → chars digits ≡ chars full ++ chars suffix
    → chars whole ≡ kept_run style (chars suffix) (chars full) → StrictInt (chars text) v (chars suffix)
    → drops_zeros style base (chars suffix) ≡ true → first_passes is_ascii_digit (chars whole) ≡ true
whole_digit style text digits suffix full whole base v at cut kept i h =
    let p = digits_cut text digits suffix full base v at cut i in
    ap (first_passes is_ascii_digit) (kept ∙ ap (kept_run style (chars suffix)) p.1)
    ∙ kept_first style (chars suffix) i.run (integer_digit style (chars text) base (chars suffix) v i p.0 h)

-- The digits of an integer contain no plus.
pub row_plus : (style : Style) (text digits suffix full whole run : List ℕ) (base : ℕ) (v : Contents)
    → ◌≡◌ {A = ℕ × List ℕ} (base, chars digits) (radix_at (chars text)) → chars digits ≡ chars full ++ chars suffix
    → chars whole ≡ kept_run style (chars suffix) (chars full)
    → chars run ≡ kept_digits style base (chars suffix) (chars whole) → StrictInt (chars text) v (chars suffix)
    → list_all (λ c. not (c == 43)) (chars run) ≡ true
row_plus style text digits suffix full whole run base v at cut kept zeros i =
    let x : List ℕ = chars suffix in
    let p = digits_cut text digits suffix full base v at cut i in
    let is : chars run ≡ kept_of_row style i.base x i.run = zeros
    ∙ ap (kept_digits style base x) (kept ∙ ap (kept_run style x) p.1)
    ∙ ap (λ b. kept_digits style b x (kept_run style x i.run)) p.0 in
    ap (list_all (λ c. not (c == 43))) is
    ∙ integer_plus (chars text) v x (kept_of_row style i.base x i.run) i (row_facts style (chars text) v x i).each

pub float_written : (style : Style) (text full numeral suffix new : List ℕ) (v : Contents)
    → IsUtf8 numeral → IsUtf8 suffix
    → chars text ≡ chars full ++ chars suffix → chars numeral ≡ kept_run style (chars suffix) (chars full)
    → Written style [] (float_in_groups style.float_zero (number_character style
    (drops_underscores style (chars suffix)) false)
    (λ from_first. grouped_run from_first style 10 (chars suffix)) (chars numeral)) suffix new
    → StrictFloat (chars text) v (chars suffix) → is_mistyped_float (chars suffix) (chars text) ≡ false
    → IsUtf8 new × StylesFloat style (chars text) (chars new)
float_written style text full numeral suffix new v un us cut kept e f exact =
    let x : List ℕ = chars suffix in
    let end : List ℕ = separator style x ++ x in
    let front : chars full ≡ f.numeral = append_cancel_right (chars full) f.numeral x (sym cut ∙ f.text) in
    let Of : List ℕ → List ℕ = λ z. float_in_groups style.float_zero
    (number_character style (drops_underscores style x) false)
    (λ from_first. grouped_run from_first style 10 x) z in
    let t = number_text style [] (Of (chars numeral)) suffix new empty_utf8 us (float_scalars style.float_zero style
    (drops_underscores style x) (size_by style.digit_groups 10 x) (least_by style.digit_groups) (chars numeral)
    (scalars-chars numeral un)) e in (
      t.0,
      record {
        contents = v;
        suffix = x;
        float = f;
        exact = exact;
        new_is = t.1 ∙ ap (λ z. z ++ (Of (chars numeral) ++ end)) (low_chars [] refl)
            ∙ ap (λ z. Of z ++ end) (kept ∙ ap (kept_run style x) front);
      },
    )
  where
    empty_utf8 : IsUtf8 []
    empty_utf8 = ([], (refl, refl))

-- ---- numbers that the code writes unchanged

pub integer_unchanged : (t new x : List ℕ) (v : Contents) → StrictInt t v x → is_mistyped x t ≡ true → new ≡ t
    → KeepsInt t new
integer_unchanged t new x v i mistyped e =
    record { contents = v; suffix = x; int = i; mistyped = mistyped; new_is = e }

pub float_unchanged : (t new x : List ℕ) (v : Contents) → StrictFloat t v x → is_mistyped_float x t ≡ true → new ≡ t
    → KeepsFloat t new
float_unchanged t new x v f mistyped e =
    record { contents = v; suffix = x; float = f; mistyped = mistyped; new_is = e }

-- ---- the code writes one part of a number after the other

-- The whole text consists of the text that is written so far, and of the text that is still to be written. If the code writes
-- one more part, this still holds.
pub one_more : (whole taken new one rest : List ℕ) → whole ≡ taken ++ encode_utf8_all (one ++ rest)
    → new ≡ taken ++ encode_utf8_all one → whole ≡ new ++ encode_utf8_all rest
one_more whole taken new one rest e h =
    e ∙ ap (λ z. taken ++ z) (encodes-append one rest)
    ∙ sym (append_assoc taken (encode_utf8_all one) (encode_utf8_all rest))
    ∙ ap (λ z. z ++ encode_utf8_all rest) (sym h)

-- If a digit is the last digit of its group, the code writes the digit and then an underscore.
pub digit_marked : (old first new one : List ℕ) (b : Bool) → first ≡ old ++ encode_utf8_all one
    → new ≡ first ++ (95 ∷ []) → b ≡ true → new ≡ old ++ encode_utf8_all (one ++ cond b (95 ∷ []) [])
digit_marked old first new one b e h is =
    h ∙ ap (λ z. z ++ (95 ∷ [])) e ∙ append_assoc old (encode_utf8_all one) (95 ∷ [])
    ∙ ap (λ z. old ++ (encode_utf8_all one ++ z)) (sym (encoded_low (95 ∷ []) refl))
    ∙ ap (λ z. old ++ z) (sym (encodes-append one (95 ∷ [])))
    ∙ ap (λ z. old ++ encode_utf8_all (one ++ cond z (95 ∷ []) [])) (sym is)

-- A text that begins with a dot is one byte longer than the text after the dot.
pub dotted : (text inside prefix : List ℕ) → IsUtf8 text → IsUtf8 inside → prefix ≡ 46 ∷ []
    → chars text ≡ chars prefix ++ chars inside
    → (length text ≡ 1 + length inside) × (chars text ≡ 46 ∷ chars inside)
dotted text inside prefix ut ui is e =
    let whole : chars text ≡ 46 ∷ chars inside = e
    ∙ ap (λ z. z ++ chars inside) (ap chars is ∙ low_chars (46 ∷ []) refl) in
    let bytes : text ≡ 46 ∷ inside = sym (encodes-chars text ut) ∙ ap encode_utf8_all whole
    ∙ encodes-append (46 ∷ []) (chars inside)
    ∙ ap (λ z. z ++ encode_utf8_all (chars inside)) (encoded_low (46 ∷ []) refl)
    ∙ ap (λ z. 46 ∷ z) (encodes-chars inside ui) in
    (let n = ap length bytes in omega (arith, n), whole)

-- If the text after a float's whole part doesn't begin with a dot, its characters are rewritten, and no digits are divided
-- into groups.
pub undotted : (closes : Bool) (f : ℕ → List ℕ) (g : List ℕ → List ℕ) (cs prefix : List ℕ) → prefix ≡ 46 ∷ []
    → ((x : List ℕ) → cs ≡ chars prefix ++ x → ⊥) → fraction_in_groups closes f g cs ≡ flat_map f cs
undotted closes f g [] prefix is none = refl
undotted closes f g (c ∷ cs) prefix is none =
    elim (cases_Bool (c == 46)) [
      | inl a ↦ absurd (none cs (ap (λ z. z ∷ cs) (eqb-true c 46 a)
          ∙ ap (λ z. z ++ cs) (sym (ap chars is ∙ low_chars (46 ∷ []) refl))))
      | inr a ↦ ap (λ b. cond b (c ∷ after_dot closes f g cs) (flat_map f (c ∷ cs))) a
    ]

-- If nothing follows the dot of a float, the code writes a zero or nothing after the dot, as the definition states.
pub none_put : (closes : Bool) (f : ℕ → List ℕ) (g : List ℕ → List ℕ) (old new cs : List ℕ)
    → new ≡ old ++ encode_utf8_all (cond closes (48 ∷ []) []) → cs ≡ []
    → new ≡ old ++ encode_utf8_all (after_dot closes f g cs)
none_put closes f g old new cs e is = e ∙ ap (λ z. old ++ encode_utf8_all (after_dot closes f g z)) (sym is)

dot_some : (closes : Bool) (f : ℕ → List ℕ) (g : List ℕ → List ℕ) (cs rest : List ℕ) (c : ℕ) → cs ≡ c ∷ rest
    → after_dot closes f g cs
    ≡ g (flat_map f (digit_run cs)) ++ flat_map f (after_run (is_run_part is_ascii_digit) cs)
dot_some closes f g cs rest c e = ap (after_dot closes f g) e
    ∙ ap (λ z. g (flat_map f (digit_run z)) ++ flat_map f (after_run (is_run_part is_ascii_digit) z)) (sym e)

pub some_put : (closes : Bool) (f : ℕ → List ℕ) (g : List ℕ → List ℕ) (old second third cs run rest more : List ℕ)
    (c : ℕ) → second ≡ old ++ encode_utf8_all (g (flat_map f run))
    → third ≡ second ++ encode_utf8_all (flat_map f rest) → run ≡ digit_run cs
    → rest ≡ after_run (is_run_part is_ascii_digit) cs → cs ≡ c ∷ more
    → third ≡ old ++ encode_utf8_all (after_dot closes f g cs)
some_put closes f g old second third cs run rest more c b t r s is =
    let part : List ℕ = g (flat_map f (digit_run cs)) in
    let last : List ℕ = flat_map f (after_run (is_run_part is_ascii_digit) cs) in
    t ∙ ap (λ z. z ++ encode_utf8_all (flat_map f rest)) b
    ∙ append_assoc old (encode_utf8_all (g (flat_map f run))) (encode_utf8_all (flat_map f rest))
    ∙ ap (λ z. old ++ (encode_utf8_all (g (flat_map f z)) ++ encode_utf8_all (flat_map f rest))) r
    ∙ ap (λ z. old ++ (encode_utf8_all part ++ encode_utf8_all (flat_map f z))) s
    ∙ ap (λ z. old ++ z) (sym (encodes-append part last))
    ∙ ap (λ z. old ++ encode_utf8_all z) (sym (dot_some closes f g cs more c is))

pub fraction_put : (closes : Bool) (f : ℕ → List ℕ) (g : List ℕ → List ℕ) (old first second text cs : List ℕ)
    → first ≡ old ++ (46 ∷ []) → second ≡ first ++ encode_utf8_all (after_dot closes f g cs) → text ≡ 46 ∷ cs
    → second ≡ old ++ encode_utf8_all (fraction_in_groups closes f g text)
fraction_put closes f g old first second text cs a b t =
    let more : List ℕ = after_dot closes f g cs in
    b ∙ ap (λ z. z ++ encode_utf8_all more) a ∙ append_assoc old (46 ∷ []) (encode_utf8_all more)
    ∙ ap (λ z. old ++ (z ++ encode_utf8_all more)) (sym (encoded_low (46 ∷ []) refl))
    ∙ ap (λ z. old ++ z) (sym (encodes-append (46 ∷ []) more))
    ∙ ap (λ z. old ++ encode_utf8_all (fraction_in_groups closes f g z)) (sym t)

-- ---- the number that the code writes in a style

pub float_put : (style : Style) (manner : Manner) (cs run rest first second third suffix : List ℕ)
    → manner.style ≡ style → manner.drops ≡ drops_underscores style (chars suffix)
    → manner.hex ≡ false → manner.size ≡ size_by style.digit_groups 10 (chars suffix)
    → first ≡ encode_utf8_all (regrouped false manner.size (least_by manner.style.digit_groups)
    (flat_map (number_character manner.style manner.drops manner.hex) run))
    → second ≡ first ++ encode_utf8_all (fraction_in_groups manner.style.float_zero
    (number_character manner.style manner.drops manner.hex)
    (regrouped true manner.size (least_by manner.style.digit_groups)) rest)
    → third ≡ second ++ ended style suffix → run ≡ digit_run cs → rest ≡ after_run (is_run_part is_ascii_digit) cs
    → Written style [] (float_in_groups style.float_zero (number_character style
    (drops_underscores style (chars suffix)) false)
    (λ from_first. grouped_run from_first style 10 (chars suffix)) cs) suffix third
float_put style manner cs run rest first second third suffix e d h z a b c r s =
    let Of : Style → Bool → Bool → ℕ → List ℕ = λ t drops hex size. float_in_groups t.float_zero
    (number_character t drops hex)
    (λ from_first. regrouped from_first size (least_by t.digit_groups)) cs in
    let f : ℕ → List ℕ = number_character manner.style manner.drops manner.hex in
    let G : Bool → List ℕ → List ℕ = λ from_first. regrouped from_first manner.size
    (least_by manner.style.digit_groups) in
    let same : Of manner.style manner.drops manner.hex manner.size ≡ Of style (drops_underscores style (chars suffix))
    false (size_by style.digit_groups 10 (chars suffix)) =
    ap (λ t. Of t manner.drops manner.hex manner.size) e ∙ ap (λ t. Of style t manner.hex manner.size) d
    ∙ ap (λ t. Of style (drops_underscores style (chars suffix)) t manner.size) h
    ∙ ap (Of style (drops_underscores style (chars suffix)) false) z in
    c ∙ ap (λ y. y ++ ended style suffix) (b
    ∙ ap (λ y. y ++ encode_utf8_all (fraction_in_groups manner.style.float_zero f (G true) rest)) a
    ∙ sym (encodes-append (G false (flat_map f run)) (fraction_in_groups manner.style.float_zero f (G true) rest))
    ∙ ap (λ y. encode_utf8_all (G false (flat_map f y) ++ fraction_in_groups manner.style.float_zero f (G true) rest)) r
    ∙ ap (λ y. encode_utf8_all (G false (flat_map f (digit_run cs))
    ++ fraction_in_groups manner.style.float_zero f (G true) y)) s
    ∙ ap encode_utf8_all same)

pub integer_put : (style : Style) (manner : Manner) (base : ℕ) (run front first second third suffix : List ℕ)
    → manner.style ≡ style → manner.drops ≡ drops_underscores style (chars suffix)
    → manner.hex ≡ (base == 16) → manner.size ≡ size_by style.digit_groups base (chars suffix)
    → first ≡ front
    → second ≡ first ++ encode_utf8_all (regrouped false manner.size (least_by manner.style.digit_groups)
    (flat_map (number_character manner.style manner.drops manner.hex) run))
    → third ≡ second ++ ended style suffix
    → Written style front (grouped_run false style base (chars suffix)
    (flat_map (number_character style (drops_underscores style (chars suffix)) (base == 16)) run)) suffix third
integer_put style manner base run front first second third suffix e d h z a b c =
    let Of : Style → Bool → Bool → ℕ → List ℕ = λ t drops hex size. regrouped false size (least_by t.digit_groups)
    (flat_map (number_character t drops hex) run) in
    let same : Of manner.style manner.drops manner.hex manner.size ≡ Of style (drops_underscores style (chars suffix))
    (base == 16) (size_by style.digit_groups base (chars suffix)) =
    ap (λ t. Of t manner.drops manner.hex manner.size) e ∙ ap (λ t. Of style t manner.hex manner.size) d
    ∙ ap (λ t. Of style (drops_underscores style (chars suffix)) t manner.size) h
    ∙ ap (Of style (drops_underscores style (chars suffix)) (base == 16)) z in
    c ∙ ap (λ y. y ++ ended style suffix) (b
    ∙ ap (λ y. y ++ encode_utf8_all (Of manner.style manner.drops manner.hex manner.size)) a
    ∙ ap (λ y. front ++ encode_utf8_all y) same)

-- ---- the parse result of a number token

pub integer_of : (t : List ℕ) (n : Number) (m : Option ℕ) (suffix : Bor (List ℕ)) → IsNumberRead t n → n
    ≡ Integer m suffix
    → (v : Contents) × StrictInt t v (chars suffix.now)
integer_of t n m suffix h e = let r : IsNumberRead t (Integer m suffix) = subst (IsNumberRead t) e h in (_, r.1)

pub float_of : (t : List ℕ) (n : Number) (suffix : Bor (List ℕ)) → IsNumberRead t n → n ≡ Float suffix
    → (v : Contents) × StrictFloat t v (chars suffix.now)
float_of t n suffix h e = let r : IsNumberRead t (Float suffix) = subst (IsNumberRead t) e h in (r.0, r.1)
