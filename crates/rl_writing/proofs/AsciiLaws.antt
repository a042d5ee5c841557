-- The ASCII literal of a text is a literal of both grammars. Its value is the text.
use Rattle.rl_syntax.proofs.Common.{◌≡◌, ℕ, suc, ◌*◌, ◌/◌, ◌%◌, ◌<◌, ◌≤◌, ◌==◌, ◌&&◌, Bool, true, false, not, eqb, List, [], ◌∷◌, ◌++◌, length, refl, sym, ap, subst, ◌∙◌, inl, inr, arith, append_assoc, append-nil, nat_le, list_all, flat_map, scalar, and_parts, and_from, cases_lt, lt-ltb, eqb-true, not-true, agree_below_at, encode_utf8, chars, IsUtf8, length-encode, len_utf8_bounds, if◌then◌else◌}
use Rattle.std.proofs.lemmas.Bool.{le-ltb, leb-true}
use Rattle.std.proofs.lemmas.Grind.{flat_map-append}
use Rattle.std.proofs.lemmas.Str.{scalars-chars}
use Rattle.std.proofs.Math.Utf8.{scalars}
use Rattle.std.specs.Char.{IsScalar}
use Rattle.std.specs.Prelude.{encode_utf8_all}
use Rattle.rl_syntax.specs.declared.kind.Kind.{Kind}
use Rattle.rl_syntax.specs.declared.kind.Kind.TheVariants.{Str, Char}
use Rattle.rl_syntax.specs.Quoted.{decodes_to_chars, opener, unit_text}
use Rattle.rl_syntax.specs.Reading.{quoted_contents}
use Rattle.rl_syntax.specs.Strict.{StrictUnit, Itself, QuoteEscape, PlainEscape, AsciiEscape, ByteEscape, UnicodeEscape, LineBreak, is_strict_unit, strict_text, strict_contents, strict_content_of, strict_opener, strict_closer, BlanksEnd, HasUnits, StrictCooked, Strict}
use Rattle.rl_syntax.specs.Written.{closer, is_written_as_number, upper_digit, written_unit}
use Rattle.rl_syntax.proofs.Agreeing.{strict_reads}
use Rattle.rl_writing.specs.AsciiStrings.{ascii_literal, ascii_text, unicode_escape, IsAsciiForm}
use Rattle.rl_writing.proofs.AsciiLemmas.{encoded_low, is_low, low_chars, low_join, low_utf8}
use Rattle.rl_writing.proofs.UnicodeLemmas.{digits_of, escape_fits, escape_is, escape_low, escape_short, escape_text, escape_value}

-- ---- an ASCII character in an ASCII literal

abbrev are_same : List ℕ → List ℕ → Bool
are_same [] [] = true
are_same (x ∷ xs) (y ∷ ys) = eqb x y && are_same xs ys
are_same xs ys = false

same_lists : (xs ys : List ℕ) → are_same xs ys ≡ true → xs ≡ ys
same_lists [] [] h = refl
same_lists [] (y ∷ ys) h = absurd (cc)
same_lists (x ∷ xs) [] h = absurd (cc)
same_lists (x ∷ xs) (y ∷ ys) h =
    let p = and_parts (eqb x y) (are_same xs ys) h in
    ap (λ z. z ∷ xs) (eqb-true x y p.0) ∙ ap (λ z. y ∷ z) (same_lists xs ys p.1)

-- The written form of an ASCII character, as a character or escape of Rust's grammar.
abbrev unit_of : Kind → ℕ → StrictUnit
unit_of kind c =
    if c == 0 then PlainEscape 48 else
    (if c == 9 then PlainEscape 116 else
    (if c == 10 then PlainEscape 110 else
    (if c == 13 then PlainEscape 114 else
    (if c == 92 then PlainEscape 92 else
    (if c == closer kind then QuoteEscape c else
    (if is_written_as_number kind c then AsciiEscape (upper_digit (c / 16)) (upper_digit (c % 16))
    else Itself c))))))

abbrev is_break : StrictUnit → Bool
is_break (LineBreak blanks) = true
is_break _ = false

goes_on : (u : StrictUnit) (us : List StrictUnit) → is_break u ≡ false → BlanksEnd us → BlanksEnd (u ∷ us)
goes_on (LineBreak blanks) us h b = absurd (cc)
goes_on (Itself c) us h b = b
goes_on (QuoteEscape c) us h b = b
goes_on (PlainEscape c) us h b = b
goes_on (AsciiEscape high low) us h b = b
goes_on (ByteEscape high low) us h b = b
goes_on (UnicodeEscape digits) us h b = b

-- The written form of a character is a valid character or escape of Rust's grammar, and has the character as its value.
-- `written_unit` and `unit_of` agree on the text of the written form.
abbrev is_unit_of : Kind → ℕ → Bool
is_unit_of k c =
    (is_strict_unit k (unit_of k c) && not (is_break (unit_of k c)))
    && (are_same (unit_text (written_unit k c)) (strict_text (unit_of k c))
    && are_same (strict_contents (strict_content_of k) (unit_of k c)) (c ∷ []))

abbrev is_short : Kind → ℕ → Bool
is_short k c = list_all is_low (unit_text (written_unit k c)) && nat_le (length (unit_text (written_unit k c))) 4

abbrev low_test : Kind → ℕ → Bool
low_test k c = is_unit_of k c && is_short k c

-- A test of all 128 ASCII characters proves that the written form of each is a character or escape of Rust's grammar, in at
-- most four ASCII characters.
str_tests : (c : ℕ) → c < 128 → low_test Str c ≡ true
unfolding written_unit
str_tests c h = agree_below_at (low_test Str) (λ c. true) 128 c refl h

char_tests : (c : ℕ) → c < 128 → low_test Char c ≡ true
unfolding written_unit
char_tests c h = agree_below_at (low_test Char) (λ c. true) 128 c refl h

-- ---- any character in an ASCII literal

pub record Fine (k : Kind) (c : ℕ) : Type 0 where
  pub unit : StrictUnit
  pub is_unit : is_strict_unit k unit ≡ true
  pub text_is : ascii_text k c ≡ strict_text unit
  pub value_is : strict_contents (strict_content_of k) unit ≡ c ∷ []
  pub no_break : is_break unit ≡ false
  pub low : list_all is_low (ascii_text k c) ≡ true
  pub short : length (ascii_text k c) ≤ 10
  pub fits : length (ascii_text k c) ≤ 4 * length (encode_utf8 c)

pub text_low : (k : Kind) (c : ℕ) → c < 128 → ascii_text k c ≡ unit_text (written_unit k c)
text_low k c h = ap (λ b. if b then unit_text (written_unit k c) else unicode_escape c) (lt-ltb c 128 h)

pub text_wide : (k : Kind) (c : ℕ) → 128 ≤ c → ascii_text k c ≡ unicode_escape c
text_wide k c h = ap (λ b. if b then unit_text (written_unit k c) else unicode_escape c) (le-ltb c 128 h)

fine_low : (k : Kind) (c : ℕ) → c < 128 → low_test k c ≡ true → Fine k c
fine_low k c h t =
    let text = text_low k c h in
    let w : List ℕ = unit_text (written_unit k c) in
    let p = and_parts (is_unit_of k c) (is_short k c) t in
    let q = and_parts (is_strict_unit k (unit_of k c) && not (is_break (unit_of k c))) _ p.0 in
    let r = and_parts (is_strict_unit k (unit_of k c)) (not (is_break (unit_of k c))) q.0 in
    let s = and_parts (are_same w (strict_text (unit_of k c))) _ q.1 in
    let u = and_parts (list_all is_low w) (nat_le (length w) 4) p.1 in
    let four = leb-true (length w) 4 u.1 in
    record {
      unit = unit_of k c;
      is_unit = r.0;
      text_is = text ∙ same_lists w (strict_text (unit_of k c)) s.0;
      value_is = same_lists _ (c ∷ []) s.1;
      no_break = not-true (is_break (unit_of k c)) r.1;
      low = ap (list_all is_low) text ∙ u.0;
      short = omega (arith, ap length text, four);
      fits = omega (arith, ap length text, four, length-encode c, (len_utf8_bounds c).0);
    }

fine_wide : (k : Kind) (c : ℕ) → 128 ≤ c → IsScalar c → is_strict_unit k (UnicodeEscape (digits_of c)) ≡ true
    → strict_contents (strict_content_of k) (UnicodeEscape (digits_of c)) ≡ c ∷ [] → Fine k c
fine_wide k c h s allowed value =
    let text = text_wide k c h in
    record {
      unit = UnicodeEscape (digits_of c);
      is_unit = allowed;
      text_is = text ∙ escape_text c;
      value_is = value;
      no_break = refl;
      low = ap (list_all is_low) text ∙ escape_low c;
      short = omega (arith, ap length text, escape_short c s);
      fits = omega (arith, ap length text, escape_fits c s h);
    }

pub str_fine : (c : ℕ) → IsScalar c → Fine Str c
str_fine c s = elim (cases_lt c 128) [
  | inl a ↦ fine_low Str c a (str_tests c a)
  | inr a ↦ fine_wide Str c a s (escape_is c s) (ap (λ z. z ∷ []) (escape_value c))
]

pub char_fine : (c : ℕ) → IsScalar c → Fine Char c
char_fine c s = elim (cases_lt c 128) [
  | inl a ↦ fine_low Char c a (char_tests c a)
  | inr a ↦ fine_wide Char c a s (escape_is c s) (ap (λ z. z ∷ []) (escape_value c))
]

pub fine : (k : Kind) (c : ℕ) → decodes_to_chars k ≡ true → IsScalar c → Fine k c
fine Str c h s = str_fine c s
fine Char c h s = char_fine c s
fine kind c h s = absurd (cc)

-- ---- a sequence of characters in an ASCII literal

pub record FineRow (k : Kind) (v : List ℕ) : Type 0 where
  pub units : List StrictUnit
  pub each : list_all (is_strict_unit k) units ≡ true
  pub blanks_end : BlanksEnd units
  pub text_is : flat_map (ascii_text k) v ≡ flat_map strict_text units
  pub value_is : flat_map (strict_contents (strict_content_of k)) units ≡ v
  pub count : length units ≡ length v
  pub low : list_all is_low (flat_map (ascii_text k) v) ≡ true

row_of : (k : Kind) (v : List ℕ) → decodes_to_chars k ≡ true → scalars v ≡ true → FineRow k v
row_of k [] h s = record { units = []; each = refl; blanks_end = tt; text_is = refl; value_is = refl; count = refl; low = refl }
row_of k (c ∷ v) h s =
    let p = and_parts (scalar c) (scalars v) s in
    let f = fine k c h p.0 in
    let r = row_of k v h p.1 in
    record {
      units = f.unit ∷ r.units;
      each = and_from _ _ f.is_unit r.each;
      blanks_end = goes_on f.unit r.units f.no_break r.blanks_end;
      text_is = ap (λ z. z ++ flat_map (ascii_text k) v) f.text_is ∙ ap (λ z. strict_text f.unit ++ z) r.text_is;
      value_is = ap (λ z. z ++ flat_map (strict_contents (strict_content_of k)) r.units) f.value_is
          ∙ ap (λ z. c ∷ z) r.value_is;
      count = ap suc r.count;
      low = low_join (ascii_text k c) (flat_map (ascii_text k) v) f.low r.low;
    }

-- ---- the whole ASCII literal

joined : (o b e : List ℕ) → o ++ (b ++ e) ≡ ((o ++ b) ++ e) ++ []
joined o b e = sym (append_assoc o b e) ∙ sym (append-nil ((o ++ b) ++ e))

cooked : (k : Kind) (v : List ℕ) (r : FineRow k v) → HasUnits k r.units → opener k ≡ strict_opener k
    → closer k ∷ [] ≡ strict_closer k → StrictCooked (ascii_literal k v) k (quoted_contents k v) []
cooked k v r count o e = record {
  units = r.units;
  count = count;
  each = r.each;
  blanks_end = r.blanks_end;
  suffix = inl refl;
  text = ap (λ z. z ++ (flat_map (ascii_text k) v ++ (closer k ∷ []))) o
      ∙ ap (λ z. strict_opener k ++ (z ++ (closer k ∷ []))) r.text_is
      ∙ ap (λ z. strict_opener k ++ (flat_map strict_text r.units ++ z)) e
      ∙ joined (strict_opener k) (flat_map strict_text r.units) (strict_closer k);
  contents = ap (quoted_contents k) (sym r.value_is);
}

pub str_form : (v : List ℕ) → scalars v ≡ true → IsAsciiForm Str v (ascii_literal Str v)
str_form v s =
    let r = row_of Str v refl s in
    let strict : Strict (ascii_literal Str v) Str (quoted_contents Str v) [] = inl (cooked Str v r tt refl refl) in
    record { text_is = refl; ascii = low_join (flat_map (ascii_text Str) v) (34 ∷ []) r.low refl; reads = strict_reads _ Str _ [] strict tt; strict = strict }

pub char_form : (v : List ℕ) → scalars v ≡ true → length v ≡ 1 → IsAsciiForm Char v (ascii_literal Char v)
char_form v s one =
    let r = row_of Char v refl s in
    let strict : Strict (ascii_literal Char v) Char (quoted_contents Char v) [] =
    inl (cooked Char v r (r.count ∙ one) refl refl) in
    record { text_is = refl; ascii = low_join (flat_map (ascii_text Char) v) (39 ∷ []) r.low refl; reads = strict_reads _ Char _ [] strict tt; strict = strict }

-- ---- the bytes that the code writes for an ASCII literal

pub form_of : (k : Kind) (v whole : List ℕ) → IsAsciiForm k v (ascii_literal k v) → whole ≡ ascii_literal k v
    → IsAsciiForm k v (chars whole)
form_of k v whole f e =
    let low : list_all is_low whole ≡ true = ap (list_all is_low) e ∙ f.ascii in
    subst (λ z. IsAsciiForm k v z) (sym (low_chars whole low ∙ e)) f

pub form_utf8 : (k : Kind) (v whole : List ℕ) → IsAsciiForm k v (ascii_literal k v) → whole ≡ ascii_literal k v
    → IsUtf8 whole
form_utf8 k v whole f e = low_utf8 whole (ap (list_all is_low) e ∙ f.ascii)

-- For an ASCII character, the bytes of the character's written form are the text `ascii_text` of the character in an ASCII
-- literal.
pub low_bytes : (k : Kind) (c : ℕ) (bytes : List ℕ) → decodes_to_chars k ≡ true → IsScalar c → c < 128
    → bytes ≡ encode_utf8_all (unit_text (written_unit k c)) → bytes ≡ ascii_text k c
low_bytes k c bytes h s small e =
    let f = fine k c h s in
    let text = text_low k c small in
    e ∙ ap encode_utf8_all (sym text) ∙ encoded_low (ascii_text k c) f.low

-- If the code writes the opening delimiter, the written forms of the characters and the closing delimiter, the result is the
-- ASCII literal.
pub literal_pieces : (k : Kind) (v b whole : List ℕ) → b ≡ opener k ++ flat_map (ascii_text k) v
    → whole ≡ b ++ (closer k ∷ []) → whole ≡ ascii_literal k v
literal_pieces k v b whole b_is whole_is = whole_is ∙ ap (λ z. z ++ (closer k ∷ [])) b_is
    ∙ append_assoc (opener k) (flat_map (ascii_text k) v) (closer k ∷ [])

pub one_piece : (k : Kind) (c : ℕ) (a b : List ℕ) → a ≡ opener k → b ≡ a ++ ascii_text k c
    → b ≡ opener k ++ flat_map (ascii_text k) (c ∷ [])
one_piece k c a b a_is b_is = b_is ∙ ap (λ z. z ++ ascii_text k c) a_is
    ∙ ap (λ z. opener k ++ z) (sym (append-nil (ascii_text k c)))

pub piece_more : (k : Kind) (xs a b : List ℕ) (c : ℕ) → a ≡ opener k ++ flat_map (ascii_text k) xs → b ≡ a
    ++ ascii_text k c
    → b ≡ opener k ++ flat_map (ascii_text k) (xs ++ (c ∷ []))
piece_more k xs a b c a_is b_is =
    let all : flat_map (ascii_text k) (xs ++ (c ∷ [])) ≡ flat_map (ascii_text k) xs ++ ascii_text k c =
    flat_map-append (ascii_text k) xs (c ∷ [])
    ∙ ap (λ z. flat_map (ascii_text k) xs ++ z) (append-nil (ascii_text k c)) in
    b_is ∙ ap (λ z. z ++ ascii_text k c) a_is ∙ append_assoc (opener k) (flat_map (ascii_text k) xs) (ascii_text k c)
    ∙ ap (λ z. opener k ++ z) (sym all)

-- The first character of a UTF-8 text is a Unicode scalar value.
pub first_scalar : (text rest : List ℕ) (c : ℕ) → IsUtf8 text → chars text ≡ c ∷ rest → IsScalar c
first_scalar text rest c u e = (and_parts (scalar c) (scalars rest) (ap scalars (sym e) ∙ scalars-chars text u)).0

-- If the code has passed all characters of a text, it has written the ASCII literal of the whole text.
pub whole_pieces : (k : Kind) (xs rest v a whole : List ℕ) → v ≡ xs ++ rest → rest ≡ []
    → a ≡ opener k ++ flat_map (ascii_text k) xs → whole ≡ a ++ (closer k ∷ []) → whole ≡ ascii_literal k v
whole_pieces k xs rest v a whole v_is none a_is whole_is =
    let same : xs ≡ v = sym (v_is ∙ ap (λ z. xs ++ z) none ∙ append-nil xs) in
    literal_pieces k v a whole (a_is ∙ ap (λ z. opener k ++ flat_map (ascii_text k) z) same) whole_is
