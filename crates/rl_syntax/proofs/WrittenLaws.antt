-- The text that is written for a value is a literal of both grammars with this value.
use Rattle.rl_syntax.proofs.Common.{◌≡◌, ℕ, suc, ◌+◌, ◌*◌, ◌^◌, ◌/◌, ◌%◌, ◌<◌, ◌||◌, ◌&&◌, Bool, true, false, not, eqb, List, [], ◌∷◌, ◌++◌, length, map, refl, sym, ap, subst, ◌∙◌, inl, inr, arith, append_assoc, append-nil, nat_lt, digit_value, is_ascii_hexdigit, list_all, flat_map, encode_ascii, eqb-true, both_ways, and_parts, and_from, or_parts, or_cases, or_from, cases_Bool, ltb-true, ltb-false, lt-ltb, not-true, not_from_false, agree_below_at}
use Rattle.std.proofs.lemmas.Nat.{div-add-mod'}
use Rattle.std.proofs.lemmas.Bool.{eqb-false}
use Rattle.rl_syntax.specs.declared.kind.Kind.{Kind}
use Rattle.rl_syntax.specs.declared.kind.Kind.TheVariants.{Str, ByteStr, CStr, Byte, Char}
use Rattle.rl_syntax.specs.Quoted.{QuotedUnit, Plain, Named, Hex, LowerN, LowerR, LowerT, Backslash, Zero, unit_text, texts, opener, hex_value}
use Rattle.rl_syntax.specs.Reading.{Reads, quoted_contents}
use Rattle.rl_syntax.specs.Written.{upper_digit, closer, own_quote, is_written_as_number, written_unit, written_text}
use Rattle.rl_syntax.specs.Strict.{StrictUnit, Itself, QuoteEscape, PlainEscape, AsciiEscape, ByteEscape, strict_text, strict_contents, is_octal, is_allowed_in_single_quotes, is_bare_in_string, is_strict_unit, BlanksEnd, strict_opener, strict_closer, strict_content_of, HasUnits, StrictCooked, Strict}
use Rattle.rl_syntax.specs.Agreeing.{IsQuotedValue}
use Rattle.rl_syntax.proofs.Agreeing.{strict_reads}

-- If a property holds for each way to write a character in a literal, it holds for the way that the writer chooses.
written_by : (k : Kind) (P : QuotedUnit → Type 0) (c : ℕ) →
    (c ≡ 0 → P (Named Zero)) → (c ≡ 9 → P (Named LowerT)) → (c ≡ 10 → P (Named LowerN)) → (c ≡ 13 → P (Named LowerR))
    → (c ≡ 92 → P (Named Backslash)) → (c ≡ closer k → P (own_quote k)) →
    (eqb c 0 ≡ false → is_written_as_number k c ≡ true → P (Hex (upper_digit (c / 16)) (upper_digit (c % 16)))) →
    (eqb c 0 ≡ false → eqb c 9 ≡ false → eqb c 10 ≡ false → eqb c 13 ≡ false → eqb c 92 ≡ false → eqb c (closer k)
    ≡ false → is_written_as_number k c ≡ false → P (Plain c)) →
    P (written_unit k c)
unfolding written_unit
written_by k P c zero_is tab lf cr backslash quote hex plain =
    elim (cases_Bool (eqb c 0)) [
      | inl a ↦ rw a (zero_is (eqb-true c 0 a))
      | inr a ↦ rw a (elim (cases_Bool (eqb c 9)) [
        | inl b ↦ rw b (tab (eqb-true c 9 b))
        | inr b ↦ rw b (elim (cases_Bool (eqb c 10)) [
          | inl d ↦ rw d (lf (eqb-true c 10 d))
          | inr d ↦ rw d (elim (cases_Bool (eqb c 13)) [
            | inl e ↦ rw e (cr (eqb-true c 13 e))
            | inr e ↦ rw e (elim (cases_Bool (eqb c 92)) [
              | inl f ↦ rw f (backslash (eqb-true c 92 f))
              | inr f ↦ rw f (elim (cases_Bool (eqb c (closer k))) [
                | inl g ↦ rw g (quote (eqb-true c (closer k) g))
                | inr g ↦ rw g (elim (cases_Bool (is_written_as_number k c)) [
                  | inl h ↦ rw h (hex a h)
                  | inr h ↦ rw h (plain a b d e f g h)
                ])
              ])
            ])
          ])
        ])
      ])
    ]

-- ---- two digits

pub record Upper (d : ℕ) : Type 0 where
  pub value_is : digit_value (upper_digit d) ≡ d
  pub is_hex : is_ascii_hexdigit (upper_digit d) ≡ true

upper : (d : ℕ) → d < 16 → Upper d
upper d h =
    let both : (eqb (digit_value (upper_digit d)) d && is_ascii_hexdigit (upper_digit d))
    ≡ true = agree_below_at (λ d. eqb (digit_value (upper_digit d)) d && is_ascii_hexdigit (upper_digit d))
    (λ d. true) 16 d refl h in
    let p = and_parts _ _ both in
    record { value_is = eqb-true _ d p.0; is_hex = p.1 }

pub record TwoDigits (c : ℕ) : Type 0 where
  pub high_hex : is_ascii_hexdigit (upper_digit (c / 16)) ≡ true
  pub low_hex : is_ascii_hexdigit (upper_digit (c % 16)) ≡ true
  pub high_value : digit_value (upper_digit (c / 16)) ≡ c / 16
  pub value_is : hex_value (upper_digit (c / 16)) (upper_digit (c % 16)) ≡ c

two_digits : (c : ℕ) → c < 256 → TwoDigits c
two_digits c h =
    let high = upper (c / 16) (omega arith) in
    let low = upper (c % 16) (omega arith) in
    let pair : ℕ → ℕ → ℕ = λ a b. a * 16 ^ 1 + (b * 16 ^ 0 + 0) in
    let whole : pair (c / 16) (c % 16) ≡ c = omega (arith, div-add-mod' c 16) in
    record {
      high_hex = high.is_hex;
      low_hex = low.is_hex;
      high_value = high.value_is;
      value_is = ap (λ z. pair z (digit_value (upper_digit (c % 16)))) high.value_is
          ∙ ap (λ z. pair (c / 16) z) low.value_is ∙ whole;
    }

-- ---- one written character

pub record Fine (k : Kind) (c : ℕ) (u : QuotedUnit) : Type 0 where
  pub unit : StrictUnit
  pub is_unit : is_strict_unit k unit ≡ true
  pub text_is : unit_text u ≡ strict_text unit
  pub value_is : strict_contents (strict_content_of k) unit ≡ c ∷ []
  pub goes_on : (us : List StrictUnit) → BlanksEnd us → BlanksEnd (unit ∷ us)

one_of : (c n : ℕ) → c ≡ n → n ∷ [] ≡ c ∷ []
one_of c n e = ap (λ z. z ∷ []) (sym e)

small_number : (c : ℕ) → ((nat_lt c 32 || eqb c 127) || (nat_lt 127 c && false)) ≡ true → c < 128
small_number c h =
    elim (or_cases (nat_lt c 32 || eqb c 127) (nat_lt 127 c && false) h) [
      | inl a ↦ elim (or_cases (nat_lt c 32) (eqb c 127) a) [
        | inl b ↦ let e = ltb-true c 32 b in omega arith
        | inr b ↦ let e = eqb-true c 127 b in omega arith
      ]
      | inr a ↦ absurd (let p = and_parts (nat_lt 127 c) false a in both_ways false refl p.1)
    ]

small_plain : (c : ℕ) → ((nat_lt c 32 || eqb c 127) || (nat_lt 127 c && true)) ≡ false → c < 128
small_plain c h =
    elim (cases_Bool (nat_lt 127 c)) [
      | inl a ↦ absurd (both_ways _ (or_parts (nat_lt c 32 || eqb c 127) (nat_lt 127 c && true) h).1
          (and_from (nat_lt 127 c) true a refl))
      | inr a ↦ let e = ltb-false 127 c a in omega arith
    ]

bare_string : (c : ℕ) → eqb c 34 ≡ false → eqb c 92 ≡ false → eqb c 13 ≡ false → is_bare_in_string c ≡ true
bare_string c a b d = not_from_false _ (or_from _ _ (or_from _ _ a b) d)

bare_character : (c : ℕ) → eqb c 39 ≡ false → eqb c 92 ≡ false → eqb c 10 ≡ false → eqb c 13 ≡ false → eqb c 9 ≡ false
    → is_allowed_in_single_quotes c ≡ true
bare_character c a b d e f = not_from_false _ (or_from _ _ (or_from _ _ (or_from _ _ (or_from _ _ a b) d) e) f)

ascii_hex : (k : Kind) (c : ℕ) → c < 128 → ((high low : ℕ) → is_octal high ≡ true → is_ascii_hexdigit low ≡ true
    → is_strict_unit k (AsciiEscape high low) ≡ true) → Fine k c (Hex (upper_digit (c / 16)) (upper_digit (c % 16)))
ascii_hex k c h allowed =
    let d = two_digits c (omega arith) in
    let low_high : c / 16 < 8 = omega arith in
    let Eight : ℕ → Type 0 = λ n. n < 8 in
    let octal = lt-ltb (digit_value (upper_digit (c / 16))) 8 (subst Eight (sym d.high_value) low_high) in
    record { unit = AsciiEscape (upper_digit (c / 16)) (upper_digit (c % 16)); is_unit = allowed _ _ octal d.low_hex; text_is = refl; value_is = ap (λ z. z ∷ []) d.value_is; goes_on = λ us b. b }

byte_hex : (k : Kind) (c : ℕ) → c < 256 → ((high low : ℕ) → is_ascii_hexdigit high ≡ true → is_ascii_hexdigit low ≡ true
    → hex_value high low ≡ c → is_strict_unit k (ByteEscape high low) ≡ true)
    → Fine k c (Hex (upper_digit (c / 16)) (upper_digit (c % 16)))
byte_hex k c h allowed =
    let d = two_digits c h in
    record { unit = ByteEscape (upper_digit (c / 16)) (upper_digit (c % 16)); is_unit = allowed _ _ d.high_hex d.low_hex d.value_is; text_is = refl; value_is = ap (λ z. z ∷ []) d.value_is; goes_on = λ us b. b }

named : (k : Kind) (c letter value : ℕ) (u : QuotedUnit) → c ≡ value → is_strict_unit k (PlainEscape letter) ≡ true
    → unit_text u ≡ 92 ∷ letter ∷ [] → strict_contents (strict_content_of k) (PlainEscape letter) ≡ value ∷ []
    → Fine k c u
named k c letter value u e allowed text contents = record { unit = PlainEscape letter; is_unit = allowed; text_is = text; value_is = contents ∙ one_of c value e; goes_on = λ us b. b }

str_fine : (c : ℕ) → Fine Str c (written_unit Str c)
str_fine c = written_by Str (Fine Str c) c
    (λ e. named Str c 48 0 _ e refl refl refl) (λ e. named Str c 116 9 _ e refl refl refl)
    (λ e. named Str c 110 10 _ e refl refl refl) (λ e. named Str c 114 13 _ e refl refl refl)
    (λ e. named Str c 92 92 _ e refl refl refl)
    (λ e. record { unit = QuoteEscape 34; is_unit = refl; text_is = refl; value_is = one_of c 34 e; goes_on = λ us b. b })
    (λ z n. ascii_hex Str c (small_number c n) (λ high low a b. and_from _ _ a b))
    (λ z t l r b q n. record { unit = Itself c; is_unit = bare_string c q b r; text_is = refl; value_is = refl; goes_on = λ us b. b })

char_fine : (c : ℕ) → Fine Char c (written_unit Char c)
char_fine c = written_by Char (Fine Char c) c
    (λ e. named Char c 48 0 _ e refl refl refl) (λ e. named Char c 116 9 _ e refl refl refl)
    (λ e. named Char c 110 10 _ e refl refl refl) (λ e. named Char c 114 13 _ e refl refl refl)
    (λ e. named Char c 92 92 _ e refl refl refl)
    (λ e. record { unit = QuoteEscape 39; is_unit = refl; text_is = refl; value_is = one_of c 39 e; goes_on = λ us b. b })
    (λ z n. ascii_hex Char c (small_number c n) (λ high low a b. and_from _ _ a b))
    (λ z t l r b q n. record { unit = Itself c; is_unit = bare_character c q b l r t; text_is = refl; value_is = refl; goes_on = λ us b. b })

byte_str_fine : (c : ℕ) → c < 256 → Fine ByteStr c (written_unit ByteStr c)
byte_str_fine c h = written_by ByteStr (Fine ByteStr c) c
    (λ e. named ByteStr c 48 0 _ e refl refl refl) (λ e. named ByteStr c 116 9 _ e refl refl refl)
    (λ e. named ByteStr c 110 10 _ e refl refl refl) (λ e. named ByteStr c 114 13 _ e refl refl refl)
    (λ e. named ByteStr c 92 92 _ e refl refl refl)
    (λ e. record { unit = QuoteEscape 34; is_unit = refl; text_is = refl; value_is = one_of c 34 e; goes_on = λ us b. b })
    (λ z n. byte_hex ByteStr c h (λ high low a b v. and_from _ _ a b))
    (λ z t l r b q n. record { unit = Itself c; is_unit = and_from _ _ (lt-ltb c 128 (small_plain c n)) (bare_string c q b r); text_is = refl; value_is = refl; goes_on = λ us b. b })

byte_fine : (c : ℕ) → c < 256 → Fine Byte c (written_unit Byte c)
byte_fine c h = written_by Byte (Fine Byte c) c
    (λ e. named Byte c 48 0 _ e refl refl refl) (λ e. named Byte c 116 9 _ e refl refl refl)
    (λ e. named Byte c 110 10 _ e refl refl refl) (λ e. named Byte c 114 13 _ e refl refl refl)
    (λ e. named Byte c 92 92 _ e refl refl refl)
    (λ e. record { unit = QuoteEscape 39; is_unit = refl; text_is = refl; value_is = one_of c 39 e; goes_on = λ us b. b })
    (λ z n. byte_hex Byte c h (λ high low a b v. and_from _ _ a b))
    (λ z t l r b q n. record { unit = Itself c; is_unit = and_from _ _ (lt-ltb c 128 (small_plain c n)) (bare_character c q b l r t); text_is = refl; value_is = refl; goes_on = λ us b. b })

c_str_fine : (c : ℕ) → c < 256 → eqb c 0 ≡ false → Fine CStr c (written_unit CStr c)
c_str_fine c h some = written_by CStr (Fine CStr c) c
    (λ e. absurd (eqb-false c 0 some e)) (λ e. named CStr c 116 9 _ e refl refl refl)
    (λ e. named CStr c 110 10 _ e refl refl refl) (λ e. named CStr c 114 13 _ e refl refl refl)
    (λ e. named CStr c 92 92 _ e refl refl refl)
    (λ e. record { unit = QuoteEscape 34; is_unit = refl; text_is = refl; value_is = one_of c 34 e; goes_on = λ us b. b })
    (λ z n. byte_hex CStr c h (λ high low a b v. and_from _ _ (and_from _ _ a b)
    (ap (λ n. not (eqb n 0)) v ∙ not_from_false _ some)))
    (λ z t l r b q n. record { unit = Itself c; is_unit = and_from _ _ (bare_string c q b r) (not_from_false _ some); text_is = refl; value_is = ap (λ z. z ++ []) (encode_ascii c (small_plain c n)); goes_on = λ us b. b })

-- ---- a written value

pub record FineRow (k : Kind) (v : List ℕ) : Type 0 where
  pub units : List StrictUnit
  pub each : list_all (is_strict_unit k) units ≡ true
  pub blanks_end : BlanksEnd units
  pub text_is : texts (map (written_unit k) v) ≡ flat_map strict_text units
  pub value_is : flat_map (strict_contents (strict_content_of k)) units ≡ v
  pub count : length units ≡ length v

fine_more : (k : Kind) (c : ℕ) (v : List ℕ) → Fine k c (written_unit k c) → FineRow k v → FineRow k (c ∷ v)
fine_more k c v f r = record {
  units = f.unit ∷ r.units;
  each = and_from _ _ f.is_unit r.each;
  blanks_end = f.goes_on r.units r.blanks_end;
  text_is = ap (λ z. z ++ texts (map (written_unit k) v)) f.text_is ∙ ap (λ z. strict_text f.unit ++ z) r.text_is;
  value_is = ap (λ z. z ++ flat_map (strict_contents (strict_content_of k)) r.units) f.value_is
      ∙ ap (λ z. c ∷ z) r.value_is;
  count = ap suc r.count;
}

fine_row : (k : Kind) (test : ℕ → Bool) (v : List ℕ) → ((c : ℕ) → test c ≡ true → Fine k c (written_unit k c))
    → list_all test v ≡ true → FineRow k v
fine_row k test [] f h = record { units = []; each = refl; blanks_end = tt; text_is = refl; value_is = refl; count = refl }
fine_row k test (c ∷ v) f h =
    let p = and_parts (test c) (list_all test v) h in
    fine_more k c v (f c p.0) (fine_row k test v f p.1)

always : (v : List ℕ) → list_all (λ c. true) v ≡ true
always [] = refl
always (c ∷ v) = always v

abbrev is_byte : ℕ → Bool
is_byte c = nat_lt c 256

abbrev is_some_byte : ℕ → Bool
is_some_byte c = nat_lt c 256 && not (eqb c 0)

row_of : (k : Kind) (v : List ℕ) → IsQuotedValue k v → FineRow k v
row_of Str v h = fine_row Str (λ c. true) v (λ c h. str_fine c) (always v)
row_of Char v h = fine_row Char (λ c. true) v (λ c h. char_fine c) (always v)
row_of ByteStr v h = fine_row ByteStr is_byte v (λ c h. byte_str_fine c (ltb-true c 256 h)) h
row_of Byte v h = fine_row Byte is_byte v (λ c h. byte_fine c (ltb-true c 256 h)) h.1
row_of CStr v h = fine_row CStr is_some_byte v (λ c h. let p = and_parts (nat_lt c 256) (not (eqb c 0)) h in c_str_fine
    c (ltb-true c 256 p.0) (not-true (eqb c 0) p.1)) h
row_of kind v h = absurd h

written_units : (k : Kind) (v : List ℕ) (units : List StrictUnit) → texts (map (written_unit k) v)
    ≡ flat_map strict_text units → opener k ≡ strict_opener k → closer k ∷ [] ≡ strict_closer k → written_text k v
    ≡ ((strict_opener k ++ flat_map strict_text units) ++ strict_closer k) ++ []
written_units k v units t o e =
    ap (λ z. z ++ (texts (map (written_unit k) v) ++ (closer k ∷ []))) o
    ∙ ap (λ z. strict_opener k ++ (z ++ (closer k ∷ []))) t
    ∙ ap (λ z. strict_opener k ++ (flat_map strict_text units ++ z)) e
    ∙ sym (append_assoc (strict_opener k) (flat_map strict_text units) (strict_closer k))
    ∙ sym (append-nil ((strict_opener k ++ flat_map strict_text units) ++ strict_closer k))

cooked_written : (k : Kind) (v : List ℕ) (r : FineRow k v) → HasUnits k r.units → opener k ≡ strict_opener k
    → closer k ∷ [] ≡ strict_closer k → StrictCooked (written_text k v) k (quoted_contents k v) []
cooked_written k v r count o e = record {
  units = r.units;
  count = count;
  each = r.each;
  blanks_end = r.blanks_end;
  suffix = inl refl;
  text = written_units k v r.units r.text_is o e;
  contents = ap (quoted_contents k) (sym r.value_is);
}

pub written_strict : (k : Kind) (v : List ℕ) → IsQuotedValue k v
    → Strict (written_text k v) k (quoted_contents k v) []
written_strict Str v h = inl (cooked_written Str v (row_of Str v h) tt refl refl)
written_strict ByteStr v h = inl (cooked_written ByteStr v (row_of ByteStr v h) tt refl refl)
written_strict CStr v h = inl (cooked_written CStr v (row_of CStr v h) tt refl refl)
written_strict Char v h = let r = row_of Char v h in inl (cooked_written Char v r (r.count ∙ h) refl refl)
written_strict Byte v h = let r = row_of Byte v h in inl (cooked_written Byte v r (r.count ∙ h.0) refl refl)
written_strict kind v h = absurd h

pub written_reads : (k : Kind) (v : List ℕ) → IsQuotedValue k v → Reads (written_text k v) k (quoted_contents k v) []
written_reads Str v h = strict_reads (written_text Str v) Str _ [] (written_strict Str v h) tt
written_reads ByteStr v h = strict_reads (written_text ByteStr v) ByteStr _ [] (written_strict ByteStr v h) tt
written_reads CStr v h = strict_reads (written_text CStr v) CStr _ [] (written_strict CStr v h) tt
written_reads Char v h = strict_reads (written_text Char v) Char _ [] (written_strict Char v h) tt
written_reads Byte v h = strict_reads (written_text Byte v) Byte _ [] (written_strict Byte v h) tt
written_reads kind v h = absurd h
