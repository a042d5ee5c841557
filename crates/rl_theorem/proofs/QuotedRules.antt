-- Quoted literals with escapes, by both definitions.
use Rattle.rl_syntax.proofs.Common.{◌≡◌, ℕ, ◌||◌, ◌&&◌, Bool, true, false, not, eqb, List, [], ◌∷◌, ◌++◌, refl, sym, ap, subst, ◌∙◌, inl, inr, append-nil, append_assoc, list_all, flat_map, length, and_parts, and_from, or_cases, eqb-true, nat_lt, is_ascii_hexdigit, encode_utf8_all, codes}
use Rattle.std.specs.Prelude.{◌↔◌}
use Rattle.rl_syntax.specs.declared.kind.Kind.{Kind}
use Rattle.rl_syntax.specs.declared.kind.Kind.TheVariants.{Str, ByteStr, CStr, Byte, Char}
use Rattle.rl_syntax.specs.Texts.{first_passes, is_dropped_blank}
use Rattle.rl_syntax.specs.Reading.{Contents, quoted_contents}
use Rattle.rl_syntax.specs.Strict.{StrictUnit, Itself, QuoteEscape, PlainEscape, AsciiEscape, ByteEscape, UnicodeEscape, LineBreak, strict_text, strict_contents, strict_content_of, strict_opener, strict_closer, is_strict_unit, is_allowed_in_single_quotes, is_bare_in_string, is_plain_letter, is_octal, is_unicode_escape, plain_value_in, plain_escapes, spaced_value, StrictCooked, HasUnits, BlanksEnd}
use Rattle.rl_syntax.proofs.StrictQuoted.{one_unit, blanks_after}
use Rattle.rl_syntax.proofs.Basics.{hex_is_sixteen}
use Rattle.rl_theorem.specs.Notation.{Rule, Text, Many, Means, ◌⋅◌, but, maybe}
use Rattle.rl_theorem.specs.RustRules.{char_literal, string_literal, byte_literal, byte_string_literal, c_string_literal, quote_escape, letter_escape, ascii_escape, byte_escape, x_escape, string_continue, suffix, as_contents, IsLiteralBy}
use Rattle.rl_theorem.proofs.RuleParts.{between, repeated, text_then, then_text, close_then, then_close, IsRuleOf, Row, many_to, many_from, or_same}
use Rattle.rl_theorem.proofs.SuffixRule.{suffix_to, suffix_from}
use Rattle.rl_theorem.proofs.EscapeRules.{quote_to, quote_from, letters, hex_text, hex_value, letter_to, letter_from, hex_to, hex_from, unicode_to, unicode_from, continue_to, continue_from}

-- ---- characters and escapes

abbrev pub char_content : Rule
char_content = between char_literal

abbrev pub string_content : Rule
string_content = repeated (between string_literal)

abbrev pub byte_content : Rule
byte_content = between byte_literal

abbrev pub byte_string_content : Rule
byte_string_content = repeated (between byte_string_literal)

abbrev pub c_string_content : Rule
c_string_content = repeated (between c_string_literal)

-- The text `after` may follow the unit.
abbrev pub EndsAt : StrictUnit → List ℕ → Type 0
EndsAt (LineBreak blanks) after = first_passes is_dropped_blank after ≡ false
EndsAt _ after = Unit

abbrev pub Fits : Kind → StrictUnit → List ℕ → Type 0
Fits kind u after = (is_strict_unit kind u ≡ true) × EndsAt u after

abbrev pub unit_value : Kind → StrictUnit → List ℕ
unit_value kind u = strict_contents (strict_content_of kind) u

abbrev pub UnitRule : Kind → Rule → Type 0
UnitRule kind a = IsRuleOf a strict_text (unit_value kind) (Fits kind)

abbrev Found : Kind → List ℕ → List ℕ → List ℕ → Type 0
Found kind text after value = (u : StrictUnit) × Fits kind u after × (text ≡ strict_text u) × (value ≡ unit_value kind u)

pub in_quotes : (c : ℕ) → is_allowed_in_single_quotes c ≡ but (codes "'\\\n\r\t") c
in_quotes c = ap not (or_same (eqb c 39) (eqb c 92 ∷ eqb c 10 ∷ eqb c 13 ∷ eqb c 9 ∷ []))

pub in_string : (c : ℕ) → is_bare_in_string c ≡ but (codes "\"\\\r") c
in_string c = ap not (or_same (eqb c 34) (eqb c 92 ∷ eqb c 13 ∷ []))

in_c_string : (c : ℕ) → (is_bare_in_string c && not (eqb c 0)) ≡ (but (codes "\"\\\r") c && not (eqb c 0))
in_c_string c = ap (λ b. b && not (eqb c 0)) (in_string c)

-- A text of a rule of escapes is that of a unit, if the kind allows the unit.
quote : (kind : Kind) → ((c : ℕ) → (eqb c 39 || eqb c 34) ≡ true → is_strict_unit kind (QuoteEscape c) ≡ true)
    → (text after value : List ℕ) → Means quote_escape text after value → Found kind text after value
quote kind allowed text after value m =
    let (c, is, t, v) = quote_from text after value m in
    (QuoteEscape c, (allowed c is, tt), t, v)

letter : (kind : Kind) → ((c : ℕ) → is_plain_letter c ≡ true → is_strict_unit kind (PlainEscape c) ≡ true)
    → (text after value : List ℕ) → Means letter_escape text after value → Found kind text after value
letter kind allowed text after value m =
    let (c, is, t, v) = letter_from text after value m in
    (PlainEscape c, (allowed c is, tt), t, v)

break : (kind : Kind) → ((blanks : List ℕ) → list_all is_dropped_blank blanks ≡ true → is_strict_unit kind (LineBreak blanks) ≡ true)
    → (text after value : List ℕ) → Means string_continue text after value → Found kind text after value
break kind allowed text after value m =
    let (blanks, is, ends, t, v) = continue_from text after value m in
    (LineBreak blanks, (allowed blanks is, ends), t, v)

ascii_to : (high low : ℕ) (after : List ℕ) → (is_octal high && is_ascii_hexdigit low) ≡ true
    → Means ascii_escape (hex_text high low) after (hex_value high low)
ascii_to high low after h =
    let (a, b) = and_parts (is_octal high) (is_ascii_hexdigit low) h in
    inl (hex_to 8 high low after a b)

byte_to : (high low : ℕ) (after : List ℕ) → (is_ascii_hexdigit high && is_ascii_hexdigit low) ≡ true
    → Means byte_escape (hex_text high low) after (hex_value high low)
byte_to high low after h =
    let (a, b) = and_parts (is_ascii_hexdigit high) (is_ascii_hexdigit low) h in
    inl (hex_to 16 high low after (sym (hex_is_sixteen high) ∙ a) b)

byte_from : (text after value : List ℕ) → Means (x_escape 16) text after value
    → (high low : ℕ) × ((is_ascii_hexdigit high && is_ascii_hexdigit low) ≡ true) × (text ≡ hex_text high low) × (value ≡ hex_value high low)
byte_from text after value m =
    let (high, low, h, l, t, v) = hex_from 16 text after value m in
    (high, low, and_from (is_ascii_hexdigit high) (is_ascii_hexdigit low) (hex_is_sixteen high ∙ h) l, t, v)

char_unit : UnitRule Char char_content
char_unit = record { to = to; from = from }
  where
    to : (u : StrictUnit) (after : List ℕ) → Fits Char u after → Means char_content (strict_text u) after (unit_value Char u)
    to (Itself c) after (h, e) = inl (c, sym (in_quotes c) ∙ h, refl, refl)
    to (QuoteEscape c) after (h, e) = inr (inl (quote_to c after h))
    to (PlainEscape c) after (h, e) = inr (inr (inl (inr (letter_to c after h))))
    to (AsciiEscape high low) after (h, e) = inr (inr (inl (ascii_to high low after h)))
    to (UnicodeEscape ds) after (h, e) = inr (inr (inr (unicode_to ds after h)))
    to _ after (h, e) = absurd (cc)

    from : (text after value : List ℕ) → Means char_content text after value → Found Char text after value
    from text after value (inl (c, is, t, v)) = (Itself c, (in_quotes c ∙ is, tt), t, v)
    from text after value (inr (inl m)) = quote Char (λ c h. h) text after value m
    from text after value (inr (inr (inl (inl m)))) =
        let (high, low, h, l, t, v) = hex_from 8 text after value m in
        (AsciiEscape high low, (and_from _ _ h l, tt), t, v)
    from text after value (inr (inr (inl (inr m)))) = letter Char (λ c h. h) text after value m
    from text after value (inr (inr (inr m))) =
        let (ds, is, t, v) = unicode_from text after value m in
        (UnicodeEscape ds, (is, tt), t, v)

string_unit : UnitRule Str string_content
string_unit = record { to = to; from = from }
  where
    to : (u : StrictUnit) (after : List ℕ) → Fits Str u after → Means string_content (strict_text u) after (unit_value Str u)
    to (Itself c) after (h, e) = inl (c, sym (in_string c) ∙ h, refl, refl)
    to (QuoteEscape c) after (h, e) = inr (inl (quote_to c after h))
    to (PlainEscape c) after (h, e) = inr (inr (inl (inr (letter_to c after h))))
    to (AsciiEscape high low) after (h, e) = inr (inr (inl (ascii_to high low after h)))
    to (UnicodeEscape ds) after (h, e) = inr (inr (inr (inl (unicode_to ds after h))))
    to (LineBreak blanks) after (h, e) = inr (inr (inr (inr (continue_to blanks after h e))))
    to _ after (h, e) = absurd (cc)

    from : (text after value : List ℕ) → Means string_content text after value → Found Str text after value
    from text after value (inl (c, is, t, v)) = (Itself c, (in_string c ∙ is, tt), t, v)
    from text after value (inr (inl m)) = quote Str (λ c h. h) text after value m
    from text after value (inr (inr (inl (inl m)))) =
        let (high, low, h, l, t, v) = hex_from 8 text after value m in
        (AsciiEscape high low, (and_from _ _ h l, tt), t, v)
    from text after value (inr (inr (inl (inr m)))) = letter Str (λ c h. h) text after value m
    from text after value (inr (inr (inr (inl m)))) =
        let (ds, is, t, v) = unicode_from text after value m in
        (UnicodeEscape ds, (is, tt), t, v)
    from text after value (inr (inr (inr (inr m)))) = break Str (λ bs h. h) text after value m

byte_unit : UnitRule Byte byte_content
byte_unit = record { to = to; from = from }
  where
    to : (u : StrictUnit) (after : List ℕ) → Fits Byte u after → Means byte_content (strict_text u) after (unit_value Byte u)
    to (Itself c) after (h, e) = inl (c, ap (λ b. nat_lt c 128 && b) (sym (in_quotes c)) ∙ h, refl, refl)
    to (QuoteEscape c) after (h, e) = inr (inr (inr (quote_to c after h)))
    to (PlainEscape c) after (h, e) = inr (inr (inl (letter_to c after h)))
    to (ByteEscape high low) after (h, e) = inr (byte_to high low after h)
    to _ after (h, e) = absurd (cc)

    from : (text after value : List ℕ) → Means byte_content text after value → Found Byte text after value
    from text after value (inl (c, is, t, v)) = (Itself c, (ap (λ b. nat_lt c 128 && b) (in_quotes c) ∙ is, tt), t, v)
    from text after value (inr (inl m)) =
        let (high, low, is, t, v) = byte_from text after value m in
        (ByteEscape high low, (is, tt), t, v)
    from text after value (inr (inr (inl m))) = letter Byte (λ c h. h) text after value m
    from text after value (inr (inr (inr m))) = quote Byte (λ c h. h) text after value m

byte_string_unit : UnitRule ByteStr byte_string_content
byte_string_unit = record { to = to; from = from }
  where
    to : (u : StrictUnit) (after : List ℕ) → Fits ByteStr u after
        → Means byte_string_content (strict_text u) after (unit_value ByteStr u)
    to (Itself c) after (h, e) = inl (c, ap (λ b. nat_lt c 128 && b) (sym (in_string c)) ∙ h, refl, refl)
    to (QuoteEscape c) after (h, e) = inr (inl (inr (inr (quote_to c after h))))
    to (PlainEscape c) after (h, e) = inr (inl (inr (inl (letter_to c after h))))
    to (ByteEscape high low) after (h, e) = inr (inl (byte_to high low after h))
    to (LineBreak blanks) after (h, e) = inr (inr (continue_to blanks after h e))
    to _ after (h, e) = absurd (cc)

    from : (text after value : List ℕ) → Means byte_string_content text after value → Found ByteStr text after value
    from text after value (inl (c, is, t, v)) = (Itself c, (ap (λ b. nat_lt c 128 && b) (in_string c) ∙ is, tt), t, v)
    from text after value (inr (inl (inl m))) =
        let (high, low, is, t, v) = byte_from text after value m in
        (ByteEscape high low, (is, tt), t, v)
    from text after value (inr (inl (inr (inl m)))) = letter ByteStr (λ c h. h) text after value m
    from text after value (inr (inl (inr (inr m)))) = quote ByteStr (λ c h. h) text after value m
    from text after value (inr (inr m)) = break ByteStr (λ bs h. h) text after value m

-- ---- C strings: values without NUL

-- A test of one number is the test of the list of it.
pub alone : (b : Bool) → b ≡ (b && true)
alone true = refl
alone false = refl

quote_not_nul : (c : ℕ) → (eqb c 39 || eqb c 34) ≡ true → list_all (λ c. not (eqb c 0)) (c ∷ []) ≡ true
quote_not_nul c h =
    elim (or_cases (eqb c 39) (eqb c 34) h) [
      | inl e ↦ subst (λ k. list_all (λ c. not (eqb c 0)) (k ∷ []) ≡ true) (sym (eqb-true c 39 e)) refl
      | inr e ↦ subst (λ k. list_all (λ c. not (eqb c 0)) (k ∷ []) ≡ true) (sym (eqb-true c 34 e)) refl
    ]

letter_not_nul : (c : ℕ) → is_plain_letter c ≡ true
    → not (eqb c 48) ≡ list_all (λ c. not (eqb c 0)) (plain_value_in plain_escapes c)
letter_not_nul c h = letters (λ k. not (eqb k 48) ≡ list_all (λ c. not (eqb c 0)) (plain_value_in plain_escapes k)) c h refl refl refl refl refl

c_string_unit : UnitRule CStr c_string_content
c_string_unit = record { to = to; from = from }
  where
    to : (u : StrictUnit) (after : List ℕ) → Fits CStr u after → Means c_string_content (strict_text u) after (unit_value CStr u)
    to (Itself c) after (h, e) = inl (c ∷ [], (c, sym (in_c_string c) ∙ h, refl, refl), refl)
    to (QuoteEscape c) after (h, e) = inr (inl (quote_not_nul c h, inr (inr (quote_to c after h))))
    to (PlainEscape c) after (h, e) =
        let (is, other) = and_parts (is_plain_letter c) (not (eqb c 48)) h in
        inr (inl (sym (letter_not_nul c is) ∙ other, inr (inl (letter_to c after is))))
    to (ByteEscape high low) after (h, e) =
        let (is, other) = and_parts (is_ascii_hexdigit high && is_ascii_hexdigit low) _ h in
        inr (inl (sym (alone _) ∙ other, byte_to high low after is))
    to (UnicodeEscape ds) after (h, e) =
        let (is, other) = and_parts (is_unicode_escape ds) (not (eqb (spaced_value ds) 0)) h in
        inr (inr (inl (spaced_value ds ∷ [], (sym (alone _) ∙ other, unicode_to ds after is), refl)))
    to (LineBreak blanks) after (h, e) = inr (inr (inr (continue_to blanks after h e)))
    to _ after (h, e) = absurd (cc)

    from : (text after value : List ℕ) → Means c_string_content text after value → Found CStr text after value
    from text after value (inl (x, (c, is, t, v), value_is)) =
        (Itself c, (in_c_string c ∙ is, tt), t, value_is ∙ ap encode_utf8_all v)
    from text after value (inr (inl (other, inl m))) =
        let (high, low, is, t, v) = byte_from text after value m in
        (ByteEscape high low, (and_from _ _ is (alone _ ∙ ap (list_all (λ c. not (eqb c 0))) (sym v) ∙ other), tt), t, v)
    from text after value (inr (inl (other, inr (inl m)))) =
        let (c, is, t, v) = letter_from text after value m in
        (PlainEscape c, (and_from _ _ is (letter_not_nul c is ∙ ap (list_all (λ c. not (eqb c 0))) (sym v) ∙ other), tt), t, v)
    from text after value (inr (inl (other, inr (inr m)))) = quote CStr (λ c h. h) text after value m
    from text after value (inr (inr (inl (x, (other, m), value_is)))) =
        let (ds, is, t, v) = unicode_from text after x m in (
          UnicodeEscape ds,
          (and_from _ _ is (alone _ ∙ ap (list_all (λ c. not (eqb c 0))) (sym v) ∙ other), tt),
          t,
          value_is ∙ ap encode_utf8_all v,
        )
    from text after value (inr (inr (inr m))) = break CStr (λ bs h. h) text after value m

-- ---- what is between the quotes

pub record Units (kind : Kind) (text value : List ℕ) : Type 0 where
  pub units : List StrictUnit
  pub count : HasUnits kind units
  pub each : list_all (is_strict_unit kind) units ≡ true
  pub blanks_end : BlanksEnd units
  pub text_is : text ≡ flat_map strict_text units
  pub value_is : value ≡ flat_map (unit_value kind) units

-- The rule has the texts and values of the units that a literal of the kind may have.
pub record Between (kind : Kind) (a : Rule) : Type 0 where
  pub to : (us : List StrictUnit) (x : List ℕ) → HasUnits kind us → list_all (is_strict_unit kind) us ≡ true → BlanksEnd us
      → Means a (flat_map strict_text us) (strict_closer kind ++ x) (flat_map (unit_value kind) us)
  pub from : (text x value : List ℕ) → Means a text (strict_closer kind ++ x) value → Units kind text value

pub passes_cut : (test : ℕ → Bool) (a b : List ℕ) → first_passes test (a ++ b) ≡ false → first_passes test a ≡ false
passes_cut test [] b h = refl
passes_cut test (c ∷ cs) b h = h

pub passes_joined : (test : ℕ → Bool) (a b : List ℕ) → first_passes test a ≡ false → first_passes test b ≡ false
    → first_passes test (a ++ b) ≡ false
passes_joined test [] b h k = k
passes_joined test (c ∷ cs) b h k = h

ends_at : (u : StrictUnit) (us : List StrictUnit) (after : List ℕ) → first_passes is_dropped_blank after ≡ false
    → BlanksEnd (u ∷ us) → EndsAt u (flat_map strict_text us ++ after)
ends_at (LineBreak blanks) us after h b = passes_joined is_dropped_blank (flat_map strict_text us) after b.0 h
ends_at _ us after h b = tt

blanks_end : (u : StrictUnit) (us : List StrictUnit) (after : List ℕ) → EndsAt u (flat_map strict_text us ++ after)
    → BlanksEnd us → BlanksEnd (u ∷ us)
blanks_end (LineBreak blanks) us after e b = (passes_cut is_dropped_blank (flat_map strict_text us) after e, b)
blanks_end _ us after e b = b

row_of : (kind : Kind) (us : List StrictUnit) (after : List ℕ) → first_passes is_dropped_blank after ≡ false
    → list_all (is_strict_unit kind) us ≡ true → BlanksEnd us → Row strict_text (Fits kind) us after
row_of kind [] after h each b = tt
row_of kind (u ∷ us) after h each b =
    let (here, more) = and_parts (is_strict_unit kind u) (list_all (is_strict_unit kind) us) each in
    ((here, ends_at u us after h b), row_of kind us after h more (blanks_after u us b))

of_row : (kind : Kind) (us : List StrictUnit) (after : List ℕ) → Row strict_text (Fits kind) us after
    → (list_all (is_strict_unit kind) us ≡ true) × BlanksEnd us
of_row kind [] after row = (refl, tt)
of_row kind (u ∷ us) after ((here, e), row) =
    let (each, b) = of_row kind us after row in
    (and_from (is_strict_unit kind u) (list_all (is_strict_unit kind) us) here each, blanks_end u us after e b)

-- The closing quote isn't white space.
abbrev NoBlank : Kind → Type 0
NoBlank kind = (x : List ℕ) → first_passes is_dropped_blank (strict_closer kind ++ x) ≡ false

single : (kind : Kind) (a : Rule) → UnitRule kind a → NoBlank kind → ((us : List StrictUnit) → HasUnits kind us → length us ≡ 1)
    → ((u : StrictUnit) → HasUnits kind (u ∷ [])) → Between kind a
single kind a rule closes is_one one = record { to = to; from = from }
  where
    to : (us : List StrictUnit) (x : List ℕ) → HasUnits kind us → list_all (is_strict_unit kind) us ≡ true → BlanksEnd us
        → Means a (flat_map strict_text us) (strict_closer kind ++ x) (flat_map (unit_value kind) us)
    to us x count each b =
        let (u, e) = one_unit us (is_one us count) in
        let row = subst (λ k. Row strict_text (Fits kind) k (strict_closer kind ++ x)) e (row_of kind us (strict_closer kind ++ x) (closes x) each b) in
        subst (λ k. Means a (flat_map strict_text k) (strict_closer kind ++ x) (flat_map (unit_value kind) k)) (sym e)
        (subst (λ v. Means a (strict_text u ++ []) (strict_closer kind ++ x) v) (sym (append-nil (unit_value kind u)))
        (subst (λ t. Means a t (strict_closer kind ++ x) (unit_value kind u)) (sym (append-nil (strict_text u)))
        (rule.to u (strict_closer kind ++ x) row.0)))

    from : (text x value : List ℕ) → Means a text (strict_closer kind ++ x) value → Units kind text value
    from text x value m =
        let (u, fits, text_is, value_is) = rule.from text (strict_closer kind ++ x) value m in
        record {
          units = u ∷ [];
          count = one u;
          each = and_from (is_strict_unit kind u) true fits.0 refl;
          blanks_end = blanks_end u [] (strict_closer kind ++ x) fits.1 tt;
          text_is = text_is ∙ sym (append-nil (strict_text u));
          value_is = value_is ∙ sym (append-nil (unit_value kind u));
        }

many : (kind : Kind) (a : Rule) → UnitRule kind a → NoBlank kind → ((us : List StrictUnit) → HasUnits kind us)
    → Between kind (Many a)
many kind a rule closes any = record {
  to = λ us x count each b. many_to a strict_text (unit_value kind) (Fits kind) rule us (strict_closer kind ++ x)
      (row_of kind us (strict_closer kind ++ x) (closes x) each b);
  from = λ text x value m.
      let (us, row, text_is, value_is) = many_from a strict_text (unit_value kind) (Fits kind) rule text (strict_closer kind ++ x) value m in
      let (each, b) = of_row kind us (strict_closer kind ++ x) row in
      record { units = us; count = any us; each = each; blanks_end = b; text_is = text_is; value_is = value_is };
}

pub char_between : Between Char char_content
char_between = single Char char_content char_unit (λ x. refl) (λ us h. h) (λ u. refl)

pub byte_between : Between Byte byte_content
byte_between = single Byte byte_content byte_unit (λ x. refl) (λ us h. h) (λ u. refl)

pub string_between : Between Str (Many string_content)
string_between = many Str string_content string_unit (λ x. refl) (λ us. tt)

pub byte_string_between : Between ByteStr (Many byte_string_content)
byte_string_between = many ByteStr byte_string_content byte_string_unit (λ x. refl) (λ us. tt)

pub c_string_between : Between CStr (Many c_string_content)
c_string_between = many CStr c_string_content c_string_unit (λ x. refl) (λ us. tt)

-- ---- the quotes around it

abbrev pub frame : Kind → Rule → Rule
frame kind a = Text (strict_opener kind) ⋅ a ⋅ Text (strict_closer kind)

-- By a rule of Rust's grammar, the text is a literal.
abbrev pub By : Kind → Rule → List ℕ → Contents → List ℕ → Type 0
By kind a text contents x = IsLiteralBy a (maybe suffix) kind text contents x

-- A literal by a rule is one by each rule that has its texts.
pub by_other : (tail a b : Rule) (kind : Kind) (text : List ℕ) (contents : Contents) (x : List ℕ)
    → ((u v : List ℕ) → Means a u x v → Means b u x v) → IsLiteralBy a tail kind text contents x
    → IsLiteralBy b tail kind text contents x
by_other tail a b kind text contents x more l =
    record { body = l.body; value = l.value; text_is = l.text_is; is_body = more l.body l.value l.is_body; is_suffix = l.is_suffix; contents_is = l.contents_is }

-- The value of a rule is that of a quoted literal.
abbrev pub IsQuoted : Kind → Type 0
IsQuoted kind = (v : List ℕ) → as_contents kind v ≡ quoted_contents kind v

cooked_to : (kind : Kind) (a : Rule) → Between kind a → IsQuoted kind → (text : List ℕ) (contents : Contents) (x : List ℕ)
    → StrictCooked text kind contents x → By kind (frame kind a) text contents x
cooked_to kind a between quoted text contents x s =
    let inside = flat_map strict_text s.units in
    let value = flat_map (unit_value kind) s.units in
    record {
      body = strict_opener kind ++ (inside ++ strict_closer kind);
      value = value;
      text_is = s.text ∙ ap (λ k. k ++ x) (append_assoc (strict_opener kind) inside (strict_closer kind));
      is_body = text_then (strict_opener kind) (a ⋅ Text (strict_closer kind)) (inside ++ strict_closer kind) x value
          (close_then (strict_closer kind) a inside x value (between.to s.units x s.count s.each s.blanks_end));
      is_suffix = suffix_to x s.suffix;
      contents_is = s.contents ∙ sym (quoted value);
    }

cooked_from : (kind : Kind) (a : Rule) → Between kind a → IsQuoted kind → (text : List ℕ) (contents : Contents) (x : List ℕ)
    → By kind (frame kind a) text contents x → StrictCooked text kind contents x
cooked_from kind a between quoted text contents x l =
    let (w, body_is, rest) = then_text (strict_opener kind) (a ⋅ Text (strict_closer kind)) l.body x l.value l.is_body in
    let (u, w_is, m) = then_close (strict_closer kind) a w x l.value rest in
    let found = between.from u x l.value m in
    let inside = flat_map strict_text found.units in
    record {
      units = found.units;
      count = found.count;
      each = found.each;
      blanks_end = found.blanks_end;
      suffix = suffix_from x l.is_suffix.0 l.is_suffix.1;
      text = l.text_is ∙ ap (λ k. k ++ x) (body_is ∙ ap (λ k. strict_opener kind ++ k) (w_is ∙ ap (λ k. k ++ strict_closer kind) found.text_is)
          ∙ sym (append_assoc (strict_opener kind) inside (strict_closer kind)));
      contents = l.contents_is ∙ quoted l.value ∙ ap (quoted_contents kind) found.value_is;
    }

pub cooked_rule : (kind : Kind) (a : Rule) → Between kind a → IsQuoted kind → (text : List ℕ) (contents : Contents) (x : List ℕ)
    → StrictCooked text kind contents x ↔ By kind (frame kind a) text contents x
cooked_rule kind a between quoted text contents x =
    (cooked_to kind a between quoted text contents x, cooked_from kind a between quoted text contents x)
