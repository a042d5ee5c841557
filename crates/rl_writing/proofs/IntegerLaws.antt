-- The integer literal that is written for a value is a literal of both grammars, and has the value.
use Rattle.rl_syntax.proofs.Common.{◌≡◌, ℕ, ◌^◌, ◌<◌, ◌≤◌, ◌||◌, ◌&&◌, Bool, true, false, not, eqb, List, [], ◌∷◌, ◌++◌, length, Option, ◌⊎◌, refl, sym, ap, subst, ◌∙◌, inl, inr, arith, append_assoc, nat_lt, digit_value, is_ascii_digit, list_all, list_any, and_parts, or_parts, or_from, or_left, or_right, chars, IsUtf8, if◌then◌else◌}
use Rattle.std.proofs.lemmas.Bool.{and_right}
use Rattle.std.specs.Fmt.{decimal}
use Rattle.rl_syntax.specs.Texts.{first_passes, begins, is_underscore, is_run_part}
use Rattle.rl_syntax.proofs.Basics.{all_weaker, all_same, apart, digit_is_ten}
use Rattle.rl_syntax.specs.Numbers.{Base, Binary, Octal, Decimal, Hexadecimal, NoSign, prefix, radix, begins_base, limit}
use Rattle.rl_syntax.specs.Spelling.{place_value, without_underscores}
use Rattle.rl_syntax.specs.Reading.{Digits, ReadsInt}
use Rattle.rl_syntax.specs.Strict.{dec, BasedPrefix, IsDecimalText, IsDigits, StrictInt}
use Rattle.rl_syntax.proofs.Dec.{dec_is_decimal}
use Rattle.rl_syntax.proofs.StrictNumbers.{strict_int}
use Rattle.rl_syntax.specs.declared.integer_type.IntegerType.{IntegerType}
use Rattle.rl_writing.specs.declared.integers.IntegerStyle.{IntegerStyle}
use Rattle.rl_writing.specs.Integers.{base_view, is_digit_group_end, group_size, grouped, numeral, suffix_text}
use Rattle.rl_writing.specs.WrittenIntegers.{IsWrittenInteger, grouped_numeral, written_integer}
use Rattle.rl_writing.proofs.AsciiLemmas.{is_low, low_chars, low_join, low_utf8}
use Rattle.rl_writing.proofs.GroupLemmas.{grouped_all, grouped_digits}
use Rattle.rl_writing.proofs.NumeralLemmas.{is_glyph, numeral_glyphs, numeral_some, numeral_value}
use Rattle.rl_writing.proofs.SuffixLemmas.{IsPlainSuffix, is_base_letter, suffix_is}

pub radix_low : (b : Base) → 2 ≤ radix b
radix_low Binary = omega arith
radix_low Octal = omega arith
radix_low Decimal = omega arith
radix_low Hexadecimal = omega arith

pub radix_high : (b : Base) → radix b ≤ 16
radix_high Binary = omega arith
radix_high Octal = omega arith
radix_high Decimal = omega arith
radix_high Hexadecimal = omega arith

-- ---- the written digits in groups

abbrev has_value : ℕ → ℕ → Bool
has_value base c = nat_lt (digit_value c) base

-- A sequence of digits and underscores that begins with a digit and represents the value.
pub record IsRun (base value : ℕ) (run : List ℕ) : Type 0 where
  pub first : ℕ
  pub more : List ℕ
  pub is : run ≡ first ∷ more
  pub begins : has_value base first ≡ true
  pub each : list_all (is_run_part (has_value base)) run ≡ true
  pub ascii : list_all is_low run ≡ true
  pub value_is : place_value base (without_underscores run) ≡ value

glyph_part : (base c : ℕ) → is_glyph base c ≡ true → has_value base c ≡ true
glyph_part base c h =
    let p = and_parts (nat_lt c 128 && has_value base c) (not (eqb c 95)) h in
    (and_parts (nat_lt c 128) (has_value base c) p.0).1

glyph_low : (base c : ℕ) → is_glyph base c ≡ true → is_low c ≡ true
glyph_low base c h =
    let p = and_parts (nat_lt c 128 && has_value base c) (not (eqb c 95)) h in
    (and_parts (nat_lt c 128) (has_value base c) p.0).0

glyph_bare : (base c : ℕ) → is_glyph base c ≡ true → not (is_underscore c) ≡ true
glyph_bare base c h = (and_parts (nat_lt c 128 && has_value base c) (not (eqb c 95)) h).1

pub row_is : (b : Base) (upper : Bool) (size value : ℕ)
    → IsRun (radix b) value (grouped size (numeral (radix b) upper value))
row_is b upper size value =
    let base = radix b in
    let ds = numeral base upper value in
    let glyphs = numeral_glyphs base upper value (radix_low b) (radix_high b) in
    let some = numeral_some base upper value in
    let first = some.first in
    let begun : list_all (is_glyph base) (first ∷ some.more) ≡ true = ap (list_all (is_glyph base)) (sym some.is)
    ∙ glyphs in
    record {
      first = first;
      more = (if is_digit_group_end size (length some.more) then 95 ∷ [] else []) ++ grouped size some.more;
      is = ap (grouped size) some.is;
      begins = glyph_part base first (and_parts (is_glyph base first) (list_all (is_glyph base) some.more) begun).0;
      each = grouped_all (is_run_part (has_value base)) size ds (or_right (has_value base 95) true refl)
          (all_weaker (is_glyph base) (is_run_part (has_value base))
          (λ c h. or_left (has_value base c) (is_underscore c) (glyph_part base c h)) ds glyphs);
      ascii = grouped_all is_low size ds refl (all_weaker (is_glyph base) is_low (glyph_low base) ds glyphs);
      value_is = ap (place_value base) (grouped_digits size ds
          (all_weaker (is_glyph base) (λ c. not (is_underscore c)) (glyph_bare base) ds glyphs))
          ∙ numeral_value base upper value (radix_low b) (radix_high b);
    }

-- In each style of integers, the written digits are a sequence of digits and underscores that represents the value.
styled_run : (value : ℕ) (style : IntegerStyle) → IsRun (radix (base_view style.base)) value (grouped_numeral value style)
styled_run value style =
    let b = base_view style.base in
    row_is b style.upper (group_size style.group style.least (length (numeral (radix b) style.upper value))) value

-- ---- a written decimal integer doesn't begin with a base prefix

decimal_part : (c : ℕ) → is_run_part (has_value 10) c ≡ is_run_part is_ascii_digit c
decimal_part c = ap (λ b. b || is_underscore c) (sym (digit_is_ten c))

decimal_digits : (value : ℕ) (run : List ℕ) → IsRun 10 value run → IsDigits run
decimal_digits value run r = (
  ap (first_passes is_ascii_digit) r.is ∙ digit_is_ten r.first ∙ r.begins,
  sym (all_same (is_run_part (has_value 10)) (is_run_part is_ascii_digit) decimal_part run) ∙ r.each,
)

-- The letter of a base prefix is neither a decimal digit nor an underscore.
part_no_letter : (c : ℕ) → is_run_part (has_value 10) c ≡ true → is_base_letter c ≡ false
part_no_letter c h =
    let other : (k : ℕ) → is_run_part (has_value 10) k ≡ false → eqb c k
    ≡ false = λ k n. apart (is_run_part (has_value 10)) c k h n in
    or_from _ _ (or_from _ _ (other 98 refl) (other 111 refl)) (other 120 refl)

rest_no_letter : (run x : List ℕ) → list_all (is_run_part (has_value 10)) run ≡ true
    → first_passes is_base_letter x ≡ false → first_passes is_base_letter (run ++ x) ≡ false
rest_no_letter [] x h n = n
rest_no_letter (c ∷ run) x h n = part_no_letter c (and_parts (is_run_part (has_value 10) c)
    (list_all (is_run_part (has_value 10)) run) h).0

second : (p k c : ℕ) (t : List ℕ) → first_passes (λ z. eqb z k) t ≡ false → begins (p ∷ k ∷ []) (c ∷ t) ≡ false
second p k c [] h = and_right (eqb c p) false refl
second p k c (d ∷ t) h = and_right (eqb c p) (eqb d k && true) (ap (λ b. b && true) h)

no_letter : (k : ℕ) (t : List ℕ) → ((c : ℕ) → is_base_letter c ≡ false → eqb c k ≡ false)
    → first_passes is_base_letter t ≡ false → first_passes (λ z. eqb z k) t ≡ false
no_letter k [] each h = refl
no_letter k (c ∷ t) each h = each c h

no_base : (c : ℕ) (t : List ℕ) → first_passes is_base_letter t ≡ false → begins_base (c ∷ t) ≡ false
no_base c t h =
    or_from _ _ (or_from _ _
    (second 48 98 c t (no_letter 98 t (λ z n. (or_parts (eqb z 98) (eqb z 111) (or_parts _ (eqb z 120) n).0).0) h))
    (second 48 111 c t (no_letter 111 t (λ z n. (or_parts (eqb z 98) (eqb z 111) (or_parts _ (eqb z 120) n).0).1) h)))
    (second 48 120 c t (no_letter 120 t (λ z n. (or_parts (eqb z 98 || eqb z 111) (eqb z 120) n).1) h))

decimal_text : (value : ℕ) (run x : List ℕ) → IsRun 10 value run → first_passes is_base_letter x ≡ false
    → IsDecimalText (run ++ x)
decimal_text value run x r n =
    let each : list_all (is_run_part (has_value 10)) (r.first ∷ r.more)
    ≡ true = ap (list_all (is_run_part (has_value 10))) (sym r.is) ∙ r.each in
    let more = (and_parts (is_run_part (has_value 10) r.first) (list_all (is_run_part (has_value 10)) r.more) each).1 in
    ap (λ z. begins_base (z ++ x)) r.is ∙ no_base r.first (r.more ++ x) (rest_no_letter r.more x more n)

-- ---- the whole integer literal

-- A decimal integer is written without a base prefix and begins with a digit. An integer of base `b` other than ten begins
-- with the prefix of this base.
abbrev IsFront : Base → List ℕ → List ℕ → Type 0
IsFront b run x =
    ((prefix b ≡ []) × (radix b ≡ 10) × IsDigits run × IsDecimalText (prefix b ++ (run ++ x)))
    ⊎ BasedPrefix (prefix b) (radix b)

front_is : (b : Base) (value : ℕ) (run x : List ℕ) → IsRun (radix b) value run → first_passes is_base_letter x ≡ false
    → IsFront b run x
front_is Binary value run x r n = inr (inl (refl, refl))
front_is Octal value run x r n = inr (inr (inl (refl, refl)))
front_is Decimal value run x r n = inl (refl, refl, decimal_digits value run r, decimal_text value run x r n)
front_is Hexadecimal value run x r n = inr (inr (inr (refl, refl)))

row_some : (base value : ℕ) (run : List ℕ) → IsRun base value run → list_any (has_value base) run ≡ true
row_some base value run r = ap (list_any (has_value base)) r.is
    ∙ or_left (has_value base r.first) (list_any (has_value base) r.more) r.begins

integer_strict : (b : Base) (value : ℕ) (run x : List ℕ) → value ≤ limit → IsRun (radix b) value run → IsPlainSuffix x
    → StrictInt (prefix b ++ (run ++ x)) (Digits (decimal value)) x
integer_strict b value run x h r s = record {
  prefix = prefix b;
  base = radix b;
  run = run;
  is_front = front_is b value run x r s.no_base;
  each = r.each;
  some = row_some (radix b) value run r;
  suffix = (s.word, s.no_underscore);
  no_exponent = s.no_exponent;
  no_digit = λ e. s.no_digit;
  text = sym (append_assoc (prefix b) run x);
  contents = ap Digits (sym (dec_is_decimal value h)) ∙ ap (λ n. Digits (dec n)) (sym r.value_is);
}

dec_value : (n : ℕ) → place_value 10 (dec n) ≡ n
unfolding dec numeral
dec_value n = numeral_value 10 false n (omega arith) (omega arith)

same_digits : (a b : List ℕ) → Digits a ≡ Digits b → a ≡ b
same_digits a b e = cc

-- If an integer literal of Rust's grammar is within 128 bits, `syn`'s grammar gives it an equal value.
integer_reads : (t x : List ℕ) (value : ℕ) → value ≤ limit → StrictInt t (Digits (decimal value)) x
    → ReadsInt t (Digits (decimal value)) x
integer_reads t x value h s =
    let i = strict_int t x (Digits (decimal value)) s in
    let digits : dec value ≡ dec i.magnitude = dec_is_decimal value h ∙ same_digits _ _ i.contents_is in
    let same : value ≡ i.magnitude = sym (dec_value value) ∙ ap (place_value 10) digits ∙ dec_value i.magnitude in
    let Within : ℕ → Type 0 = λ n. n ≤ limit in
    let within : i.magnitude ≤ limit = subst Within same h in
    record { sign = NoSign; magnitude = i.magnitude; reads = i.reads; within = within; contents_is = i.contents_is ∙ ap Digits (dec_is_decimal i.magnitude within) }

pub integer_written : (value : ℕ) (style : IntegerStyle) (suffix : Option IntegerType) → value ≤ limit
    → IsWrittenInteger value style suffix (written_integer value style suffix)
integer_written value style suffix h =
    let b = base_view style.base in
    let run = grouped_numeral value style in
    let x = suffix_text suffix in
    let strict = integer_strict b value run x h (styled_run value style) (suffix_is suffix) in
    record { text_is = refl; strict = strict; reads = integer_reads (prefix b ++ (run ++ x)) x value h strict }

-- ---- a written integer contains only ASCII characters

prefix_low : (b : Base) → list_all is_low (prefix b) ≡ true
prefix_low Binary = refl
prefix_low Octal = refl
prefix_low Decimal = refl
prefix_low Hexadecimal = refl

pub prefix_short : (b : Base) (text : List ℕ) → text ≡ prefix b → length text ≤ 2
prefix_short Binary text e = omega (arith, ap length e)
prefix_short Octal text e = omega (arith, ap length e)
prefix_short Decimal text e = omega (arith, ap length e)
prefix_short Hexadecimal text e = omega (arith, ap length e)

written_low : (value : ℕ) (style : IntegerStyle) (suffix : Option IntegerType)
    → list_all is_low (written_integer value style suffix) ≡ true
written_low value style suffix =
    let b = base_view style.base in
    let run = grouped_numeral value style in
    let x = suffix_text suffix in
    low_join (prefix b) (run ++ x) (prefix_low b)
    (low_join run x (styled_run value style).ascii (suffix_is suffix).ascii)

-- ---- the bytes that the code writes for an integer

pub written_bytes : (value : ℕ) (style : IntegerStyle) (suffix : Option IntegerType)
    (whole inner front digits x : List ℕ)
    (base size count : ℕ) → whole ≡ inner ++ x → inner ≡ front ++ grouped size digits
    → front ≡ prefix (base_view style.base) → digits ≡ numeral base style.upper value → base ≡ radix (base_view style.base)
    → size ≡ group_size style.group style.least count → length digits ≡ count → x ≡ suffix_text suffix
    → whole ≡ written_integer value style suffix
written_bytes value style suffix whole inner front digits x base size count is_whole is_inner is_front are_digits
    is_base is_size is_count is_x =
    let styled : List ℕ → List ℕ = λ ds. grouped (group_size style.group style.least (length ds)) ds in
    let sized : size ≡ group_size style.group style.least (length digits) =
    is_size ∙ ap (group_size style.group style.least) (sym is_count) in
    let are_grouped : grouped size digits ≡ grouped_numeral value style = ap (λ n. grouped n digits) sized
    ∙ ap styled (are_digits ∙ ap (λ z. numeral z style.upper value) is_base) in
    is_whole ∙ ap (λ z. z ++ x) is_inner ∙ append_assoc front (grouped size digits) x
    ∙ ap (λ z. z ++ (grouped size digits ++ x)) is_front
    ∙ ap (λ z. prefix (base_view style.base) ++ (z ++ x)) are_grouped
    ∙ ap (λ z. prefix (base_view style.base) ++ (grouped_numeral value style ++ z)) is_x

whole_low : (value : ℕ) (style : IntegerStyle) (suffix : Option IntegerType) (whole : List ℕ)
    → whole ≡ written_integer value style suffix → list_all is_low whole ≡ true
whole_low value style suffix whole e = ap (list_all is_low) e ∙ written_low value style suffix

pub written_utf8 : (value : ℕ) (style : IntegerStyle) (suffix : Option IntegerType) (whole : List ℕ)
    → whole ≡ written_integer value style suffix → IsUtf8 whole
written_utf8 value style suffix whole e = low_utf8 whole (whole_low value style suffix whole e)

pub written_is : (value : ℕ) (style : IntegerStyle) (suffix : Option IntegerType) (whole : List ℕ) → value < 2 ^ 128
    → whole ≡ written_integer value style suffix → IsWrittenInteger value style suffix (chars whole)
written_is value style suffix whole h e =
    subst (λ z. IsWrittenInteger value style suffix z)
    (sym (low_chars whole (whole_low value style suffix whole e) ∙ e))
    (integer_written value style suffix (omega arith))
