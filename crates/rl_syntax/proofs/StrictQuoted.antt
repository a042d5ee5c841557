-- A quoted literal of Rust's grammar has an equal parse result by `syn`'s grammar.
use Rattle.rl_syntax.proofs.Common.{◌≡◌, ℕ, zero, suc, ◌<◌, ◌≤◌, ◌||◌, ◌&&◌, Bool, true, false, not, eqb, List, [], ◌∷◌, ◌++◌, length, map, replicate, refl, sym, ap, subst, ◌∙◌, ◌⊎◌, inl, inr, arith, append_assoc, append-nil, IsFalse, ⊤, nat_lt, digit_value, is_ascii_hexdigit, all_scalars, scalar, list_all, flat_map, AllByRecursion, encode_ascii, list_all-append, eqb-true, and_parts, and_from, or_parts, or_cases, or_from, or_left, or_right, ltb-true, lt-ltb, not-true, not_from_false}
use Rattle.std.specs.Prelude.{encode_utf8_all, nat_le}
use Rattle.std.specs.Char.{IsScalar}
use Rattle.std.proofs.lemmas.List.Elements.{filter-append}
use Rattle.std.proofs.lemmas.Bool.{leb-true}
use Rattle.rl_syntax.specs.declared.kind.Kind.{Kind}
use Rattle.rl_syntax.specs.declared.kind.Kind.TheVariants.{Str, ByteStr, CStr, Byte, Char, Int, Float, Bool as BoolKind}
use Rattle.rl_syntax.specs.Texts.{first_passes, is_underscore, is_blank, is_dropped_blank}
use Rattle.rl_syntax.specs.Quoted.{QuotedUnit, Plain, Named, Hex, Unicode, Continuation, LowerN, LowerR, LowerT, Backslash, Apostrophe, Quote, Zero, unit_text, unit_value, unicode_value, content_of, hex_value, is_hex_digit, is_string, is_single, is_raw, allows_code, IsUnit, texts, values, EndsBefore, ContinuationsEnd, opener, raw_opener, Cooked, Raw, Single}
use Rattle.rl_syntax.specs.Spelling.{place_value, without_underscores}
use Rattle.rl_syntax.specs.Reading.{Contents, Reads, quoted_contents}
use Rattle.rl_syntax.specs.Strict.{StrictUnit, Itself, QuoteEscape, PlainEscape, AsciiEscape, ByteEscape, UnicodeEscape, LineBreak, spaced_digit, strict_text, strict_contents, is_plain_letter, is_octal, is_unicode_escape, is_allowed_in_single_quotes, is_bare_in_string, is_strict_unit, BlanksEnd, strict_opener, strict_closer, strict_content_of, StrictCooked, StrictRaw, strict_raw_opener, IsStrictSuffix}
use Rattle.rl_syntax.proofs.Basics.{apart, all_weaker, hex_is_sixteen, word_without}

-- Whether a text may follow a character or escape of Rust's grammar: white space can't follow an escaped line end.
abbrev pub MayFollow : StrictUnit → List ℕ → Type 0
MayFollow (LineBreak blanks) t = IsFalse (first_passes is_blank t)
MayFollow _ t = ⊤

-- A character or escape of `syn`'s grammar that has the text and the value of `s`, a character or escape of Rust's grammar.
pub record Stands (k : Kind) (s : StrictUnit) : Type 0 where
  pub unit : QuotedUnit
  pub is_unit : IsUnit k unit
  pub text_is : unit_text unit ≡ strict_text s
  pub value_is : unit_value k unit ≡ strict_contents (strict_content_of k) s
  pub ends_before : (t : List ℕ) → MayFollow s t → EndsBefore unit t

ascii_alone : (c : ℕ) → nat_lt c 128 ≡ true → encode_utf8_all (c ∷ []) ≡ c ∷ []
ascii_alone c h = ap (λ z. z ++ []) (encode_ascii c (ltb-true c 128 h))

pub bare_not_backslash : (c : ℕ) → is_allowed_in_single_quotes c ≡ true → not (eqb c 92) ≡ true
bare_not_backslash c h = not_from_false (eqb c 92) (apart is_allowed_in_single_quotes c 92 h refl)

itself : (k : Kind) (c : ℕ) → is_strict_unit k (Itself c) ≡ true → Stands k (Itself c)
itself Str c h = record { unit = Plain c; is_unit = h; text_is = refl; value_is = refl; ends_before = λ t f. tt }
itself Char c h = record { unit = Plain c; is_unit = bare_not_backslash c h; text_is = refl; value_is = refl; ends_before = λ t f. tt }
itself ByteStr c h =
    let p = and_parts (nat_lt c 128) (is_bare_in_string c) h in
    record { unit = Plain c; is_unit = h; text_is = refl; value_is = ascii_alone c p.0; ends_before = λ t f. tt }
itself Byte c h =
    let p = and_parts (nat_lt c 128) (is_allowed_in_single_quotes c) h in
    record { unit = Plain c; is_unit = h; text_is = refl; value_is = ascii_alone c p.0; ends_before = λ t f. tt }
itself CStr c h =
    let p = and_parts (is_bare_in_string c) (not (eqb c 0)) h in
    let a = or_parts (eqb c 34 || eqb c 92) (eqb c 13) (not-true _ p.0) in
    let none : ((eqb c 34 || eqb c 92 || eqb c 13) || eqb c 0)
    ≡ false = or_from _ _ (not-true _ p.0) (not-true _ p.1) in
    record { unit = Plain c; is_unit = not_from_false _ none; text_is = refl; value_is = refl; ends_before = λ t f. tt }
itself kind c h = absurd (cc)

holds_other : (k : Kind) (n : ℕ) → eqb n 0 ≡ false → allows_code k n ≡ true
holds_other CStr n h = not_from_false (eqb n 0) h
holds_other _ n h = refl

quote_escape : (k : Kind) (c : ℕ) → is_strict_unit k (QuoteEscape c) ≡ true → Stands k (QuoteEscape c)
quote_escape k c h =
    let At : ℕ → Type 0 = λ x. Stands k (QuoteEscape x) in
    elim (or_cases (eqb c 39) (eqb c 34) h) [
      | inl a ↦ subst At (sym (eqb-true c 39 a)) (record { unit = Named Apostrophe; is_unit = holds_other k 39 refl; text_is = refl; value_is = refl; ends_before = λ t f. tt })
      | inr a ↦ subst At (sym (eqb-true c 34 a)) (record { unit = Named Quote; is_unit = holds_other k 34 refl; text_is = refl; value_is = refl; ends_before = λ t f. tt })
    ]

plain_letters : (P : ℕ → Type 0) (c : ℕ) → is_plain_letter c ≡ true → P 110 → P 114 → P 116 → P 92 → P 48 → P c
plain_letters P c h n r t b z =
    elim (or_cases (eqb 110 c) _ h) [
      | inl e ↦ subst P (eqb-true 110 c e) n
      | inr h ↦ elim (or_cases (eqb 114 c) _ h) [
        | inl e ↦ subst P (eqb-true 114 c e) r
        | inr h ↦ elim (or_cases (eqb 116 c) _ h) [
          | inl e ↦ subst P (eqb-true 116 c e) t
          | inr h ↦ elim (or_cases (eqb 92 c) _ h) [
            | inl e ↦ subst P (eqb-true 92 c e) b
            | inr h ↦ elim (or_cases (eqb 48 c) _ h) [
              | inl e ↦ subst P (eqb-true 48 c e) z
              | inr h ↦ absurd (cc)
            ]
          ]
        ]
      ]
    ]

is_letter : (k : Kind) (c : ℕ) → is_strict_unit k (PlainEscape c) ≡ true → is_plain_letter c ≡ true
is_letter CStr c h = (and_parts (is_plain_letter c) (not (eqb c 48)) h).0
is_letter _ c h = h

zero_held : (k : Kind) → is_strict_unit k (PlainEscape 48) ≡ true → allows_code k 0 ≡ true
zero_held CStr h = absurd (cc)
zero_held _ h = refl

plain_escape : (k : Kind) (c : ℕ) → is_strict_unit k (PlainEscape c) ≡ true → Stands k (PlainEscape c)
plain_escape k c h =
    let At : ℕ → Type 0 = λ x. is_strict_unit k (PlainEscape x) ≡ true → Stands k (PlainEscape x) in
    plain_letters At c (is_letter k c h)
    (λ h. record { unit = Named LowerN; is_unit = holds_other k 10 refl; text_is = refl; value_is = refl; ends_before = λ t f. tt })
    (λ h. record { unit = Named LowerR; is_unit = holds_other k 13 refl; text_is = refl; value_is = refl; ends_before = λ t f. tt })
    (λ h. record { unit = Named LowerT; is_unit = holds_other k 9 refl; text_is = refl; value_is = refl; ends_before = λ t f. tt })
    (λ h. record { unit = Named Backslash; is_unit = holds_other k 92 refl; text_is = refl; value_is = refl; ends_before = λ t f. tt })
    (λ h. record { unit = Named Zero; is_unit = zero_held k h; text_is = refl; value_is = refl; ends_before = λ t f. tt })
    h

pub hex_digit : (c : ℕ) → is_ascii_hexdigit c ≡ true → is_hex_digit c ≡ true
hex_digit c h = sym (hex_is_sixteen c) ∙ h

ascii_value : (high low : ℕ) → is_octal high ≡ true → is_ascii_hexdigit low ≡ true → nat_lt (hex_value high low) 128
    ≡ true
ascii_value high low h l =
    let a : digit_value high < 8 = ltb-true (digit_value high) 8 h in
    let b : digit_value low < 16 = ltb-true (digit_value low) 16 (hex_digit low l) in
    lt-ltb (hex_value high low) 128 (omega arith)

pub octal_hex : (c : ℕ) → is_octal c ≡ true → is_hex_digit c ≡ true
octal_hex c h = let a : digit_value c < 8 = ltb-true (digit_value c) 8 h in lt-ltb (digit_value c) 16 (omega arith)

ascii_escape : (k : Kind) (high low : ℕ) → is_strict_unit k (AsciiEscape high low) ≡ true
    → Stands k (AsciiEscape high low)
ascii_escape Str high low h =
    let p = and_parts (is_octal high) (is_ascii_hexdigit low) h in
    record { unit = Hex high low; is_unit = (octal_hex high p.0, hex_digit low p.1, ascii_value high low p.0 p.1); text_is = refl; value_is = refl; ends_before = λ t f. tt }
ascii_escape Char high low h =
    let p = and_parts (is_octal high) (is_ascii_hexdigit low) h in
    record { unit = Hex high low; is_unit = (octal_hex high p.0, hex_digit low p.1, ascii_value high low p.0 p.1); text_is = refl; value_is = refl; ends_before = λ t f. tt }
ascii_escape kind high low h = absurd (cc)

byte_escape : (k : Kind) (high low : ℕ) → is_strict_unit k (ByteEscape high low) ≡ true → Stands k (ByteEscape high low)
byte_escape ByteStr high low h =
    let p = and_parts (is_ascii_hexdigit high) (is_ascii_hexdigit low) h in
    record { unit = Hex high low; is_unit = (hex_digit high p.0, hex_digit low p.1, refl); text_is = refl; value_is = refl; ends_before = λ t f. tt }
byte_escape Byte high low h =
    let p = and_parts (is_ascii_hexdigit high) (is_ascii_hexdigit low) h in
    record { unit = Hex high low; is_unit = (hex_digit high p.0, hex_digit low p.1, refl); text_is = refl; value_is = refl; ends_before = λ t f. tt }
byte_escape CStr high low h =
    let q = and_parts (is_ascii_hexdigit high && is_ascii_hexdigit low) (not (eqb (hex_value high low) 0)) h in
    let p = and_parts (is_ascii_hexdigit high) (is_ascii_hexdigit low) q.0 in
    record { unit = Hex high low; is_unit = (hex_digit high p.0, hex_digit low p.1, and_from _ _ q.1 refl); text_is = refl; value_is = refl; ends_before = λ t f. tt }
byte_escape kind high low h = absurd (cc)

abbrev pub hex_first : ℕ × ℕ → Bool
hex_first d = is_ascii_hexdigit d.0

underscores_between : (n : ℕ) → list_all (λ c. is_underscore c || is_hex_digit c) (replicate n 95) ≡ true
underscores_between zero = refl
underscores_between (suc n) = underscores_between n

digits_between : (ds : List (ℕ × ℕ)) → list_all hex_first ds ≡ true
    → list_all (λ c. is_underscore c || is_hex_digit c) (flat_map spaced_digit ds) ≡ true
digits_between [] h = refl
digits_between (d ∷ ds) h =
    let p = and_parts (hex_first d) (list_all hex_first ds) h in
    let test : ℕ → Bool = λ c. is_underscore c || is_hex_digit c in
    and_from (test d.0) _ (or_right (is_underscore d.0) (is_hex_digit d.0) (hex_digit d.0 p.0))
    (list_all-append test (replicate d.1 95) (flat_map spaced_digit ds)
    ∙ and_from _ _ (underscores_between d.1) (digits_between ds p.1))

underscores_dropped : (n : ℕ) → without_underscores (replicate n 95) ≡ []
underscores_dropped zero = refl
underscores_dropped (suc n) = underscores_dropped n

digit_stays : (c : ℕ) (cs : List ℕ) → is_ascii_hexdigit c ≡ true → without_underscores (c ∷ cs)
    ≡ c ∷ without_underscores cs
digit_stays c cs h = let e : eqb c 95 ≡ false = apart is_ascii_hexdigit c 95 h refl in rw e refl

pub bare_digits : (ds : List (ℕ × ℕ)) → list_all hex_first ds ≡ true → without_underscores (flat_map spaced_digit ds)
    ≡ map (λ d. d.0) ds
bare_digits [] h = refl
bare_digits (d ∷ ds) h =
    let p = and_parts (hex_first d) (list_all hex_first ds) h in
    let test : ℕ → Bool = λ c. not (is_underscore c) in
    let rest = flat_map spaced_digit ds in
    digit_stays d.0 (replicate d.1 95 ++ rest) p.0
    ∙ ap (λ z. d.0 ∷ z) (filter-append test (replicate d.1 95) rest
    ∙ ap (λ z. z ++ without_underscores rest) (underscores_dropped d.1) ∙ bare_digits ds p.1)

pub digits_count : (ds : List (ℕ × ℕ)) → length (map (λ d. d.0) ds) ≡ length ds
digits_count [] = refl
digits_count (d ∷ ds) = ap suc (digits_count ds)

pub record UnicodeFacts (d : ℕ × ℕ) (ds : List (ℕ × ℕ)) : Type 0 where
  pub first : is_hex_digit d.0 ≡ true
  pub more : list_all (λ c. is_underscore c || is_hex_digit c) (replicate d.1 95 ++ flat_map spaced_digit ds) ≡ true
  pub few : length (without_underscores (d.0 ∷ (replicate d.1 95 ++ flat_map spaced_digit ds))) ≤ 6
  pub is_scalar : IsScalar (unicode_value d.0 (replicate d.1 95 ++ flat_map spaced_digit ds))
  pub same : unicode_value d.0 (replicate d.1 95 ++ flat_map spaced_digit ds)
      ≡ place_value 16 (map (λ d. d.0) (d ∷ ds))

unicode_facts : (d : ℕ × ℕ) (ds : List (ℕ × ℕ)) → is_unicode_escape (d ∷ ds) ≡ true → UnicodeFacts d ds
unicode_facts d ds h =
    let v = place_value 16 (map (λ d. d.0) (d ∷ ds)) in
    let p = and_parts _ (all_scalars (v ∷ [])) h in
    let q = and_parts _ (list_all hex_first (d ∷ ds)) p.0 in
    let r = and_parts (nat_le 1 (length (d ∷ ds))) (nat_le (length (d ∷ ds)) 6) q.0 in
    let s = and_parts (hex_first d) (list_all hex_first ds) q.1 in
    let m = and_parts (scalar v) true p.1 in
    let run = bare_digits (d ∷ ds) q.1 in
    let same : unicode_value d.0 (replicate d.1 95 ++ flat_map spaced_digit ds) ≡ v = ap (place_value 16) run in
    let few : length (d ∷ ds) ≤ 6 = leb-true (length (d ∷ ds)) 6 r.1 in
    let Few : ℕ → Type 0 = λ n. n ≤ 6 in
    let test : ℕ → Bool = λ c. is_underscore c || is_hex_digit c in
    record {
      first = hex_digit d.0 s.0;
      more = list_all-append test (replicate d.1 95) (flat_map spaced_digit ds)
          ∙ and_from _ _ (underscores_between d.1) (digits_between ds s.1);
      few = subst Few (sym (ap length run ∙ digits_count (d ∷ ds))) few;
      is_scalar = subst IsScalar (sym same) m.0;
      same = same;
    }

unicode_escape : (k : Kind) (digits : List (ℕ × ℕ)) → is_strict_unit k (UnicodeEscape digits) ≡ true
    → Stands k (UnicodeEscape digits)
unicode_escape Str [] h = absurd (cc)
unicode_escape Str (d ∷ ds) h =
    let f = unicode_facts d ds h in
    record { unit = Unicode d.0 (replicate d.1 95 ++ flat_map spaced_digit ds); is_unit = (refl, f.first, f.more, f.few, f.is_scalar, refl); text_is = refl; value_is = ap (λ v. v ∷ []) f.same; ends_before = λ t f. tt }
unicode_escape Char [] h = absurd (cc)
unicode_escape Char (d ∷ ds) h =
    let f = unicode_facts d ds h in
    record { unit = Unicode d.0 (replicate d.1 95 ++ flat_map spaced_digit ds); is_unit = (refl, f.first, f.more, f.few, f.is_scalar, refl); text_is = refl; value_is = ap (λ v. v ∷ []) f.same; ends_before = λ t f. tt }
unicode_escape CStr [] h = absurd (cc)
unicode_escape CStr (d ∷ ds) h =
    let v = place_value 16 (map (λ d. d.0) (d ∷ ds)) in
    let p = and_parts (is_unicode_escape (d ∷ ds)) (not (eqb v 0)) h in
    let f = unicode_facts d ds p.0 in
    record { unit = Unicode d.0 (replicate d.1 95 ++ flat_map spaced_digit ds); is_unit = (refl, f.first, f.more, f.few, f.is_scalar, ap (λ n. not (eqb n 0)) f.same ∙ p.1); text_is = refl; value_is = ap (λ v. encode_utf8_all (v ∷ [])) f.same; ends_before = λ t f. tt }
unicode_escape kind digits h = absurd (cc)

dropped_blank : (blanks : List ℕ) → list_all is_dropped_blank blanks ≡ true → list_all is_blank blanks ≡ true
dropped_blank = all_weaker is_dropped_blank is_blank (λ c h. or_left (is_dropped_blank c) (eqb c 13) h)

line_break : (k : Kind) (blanks : List ℕ) → is_strict_unit k (LineBreak blanks) ≡ true → Stands k (LineBreak blanks)
line_break Str blanks h = record { unit = Continuation 10 blanks; is_unit = (refl, refl, dropped_blank blanks h); text_is = refl; value_is = refl; ends_before = λ t f. f }
line_break ByteStr blanks h = record { unit = Continuation 10 blanks; is_unit = (refl, refl, dropped_blank blanks h); text_is = refl; value_is = refl; ends_before = λ t f. f }
line_break CStr blanks h = record { unit = Continuation 10 blanks; is_unit = (refl, refl, dropped_blank blanks h); text_is = refl; value_is = refl; ends_before = λ t f. f }
line_break kind blanks h = absurd (cc)

pub stands : (k : Kind) (s : StrictUnit) → is_strict_unit k s ≡ true → Stands k s
stands k (Itself c) h = itself k c h
stands k (QuoteEscape c) h = quote_escape k c h
stands k (PlainEscape c) h = plain_escape k c h
stands k (AsciiEscape high low) h = ascii_escape k high low h
stands k (ByteEscape high low) h = byte_escape k high low h
stands k (UnicodeEscape digits) h = unicode_escape k digits h
stands k (LineBreak blanks) h = line_break k blanks h

-- ---- sequences of characters and escapes

pub record StandRow (k : Kind) (us : List StrictUnit) : Type 0 where
  pub units : List QuotedUnit
  pub each : AllByRecursion (IsUnit k) units
  pub ends : ContinuationsEnd units
  pub text_is : texts units ≡ flat_map strict_text us
  pub value_is : values k units ≡ flat_map (strict_contents (strict_content_of k)) us

abbrev pub is_return : ℕ → Bool
is_return c = eqb c 13

-- By Rust's grammar, no character or escape of a literal begins with CR.
pub not_return : (k : Kind) (c : ℕ) → is_strict_unit k (Itself c) ≡ true → eqb c 13 ≡ false
not_return Str c h = apart is_bare_in_string c 13 h refl
not_return ByteStr c h = apart is_bare_in_string c 13 (and_parts (nat_lt c 128) (is_bare_in_string c) h).1 refl
not_return CStr c h = apart is_bare_in_string c 13 (and_parts (is_bare_in_string c) (not (eqb c 0)) h).0 refl
not_return Char c h = apart is_allowed_in_single_quotes c 13 h refl
not_return Byte c h = apart is_allowed_in_single_quotes c 13 (and_parts (nat_lt c 128) (is_allowed_in_single_quotes c) h).1 refl
not_return kind c h = absurd (cc)

pub no_return : (k : Kind) (us : List StrictUnit) → list_all (is_strict_unit k) us ≡ true
    → first_passes is_return (flat_map strict_text us) ≡ false
no_return k [] h = refl
no_return k (Itself c ∷ us) h = not_return k c (and_parts (is_strict_unit k (Itself c)) (list_all (is_strict_unit k) us)
    h).0
no_return k (QuoteEscape c ∷ us) h = refl
no_return k (PlainEscape c ∷ us) h = refl
no_return k (AsciiEscape high low ∷ us) h = refl
no_return k (ByteEscape high low ∷ us) h = refl
no_return k (UnicodeEscape digits ∷ us) h = refl
no_return k (LineBreak blanks ∷ us) h = refl

pub no_blank : (t : List ℕ) → first_passes is_dropped_blank t ≡ false → first_passes is_return t ≡ false
    → first_passes is_blank t ≡ false
no_blank [] a b = refl
no_blank (c ∷ t) a b = or_from (is_dropped_blank c) (eqb c 13) a b

pub may_follow : (k : Kind) (s : StrictUnit) (us : List StrictUnit) → list_all (is_strict_unit k) us ≡ true
    → BlanksEnd (s ∷ us) → MayFollow s (flat_map strict_text us)
may_follow k (LineBreak blanks) us h b = no_blank (flat_map strict_text us) b.0 (no_return k us h)
may_follow k (Itself c) us h b = tt
may_follow k (QuoteEscape c) us h b = tt
may_follow k (PlainEscape c) us h b = tt
may_follow k (AsciiEscape high low) us h b = tt
may_follow k (ByteEscape high low) us h b = tt
may_follow k (UnicodeEscape digits) us h b = tt

pub blanks_after : (s : StrictUnit) (us : List StrictUnit) → BlanksEnd (s ∷ us) → BlanksEnd us
blanks_after (LineBreak blanks) us b = b.1
blanks_after (Itself c) us b = b
blanks_after (QuoteEscape c) us b = b
blanks_after (PlainEscape c) us b = b
blanks_after (AsciiEscape high low) us b = b
blanks_after (ByteEscape high low) us b = b
blanks_after (UnicodeEscape digits) us b = b

pub stand_row : (k : Kind) (us : List StrictUnit) → list_all (is_strict_unit k) us ≡ true → BlanksEnd us → StandRow k us
stand_row k [] h b = record { units = []; each = tt; ends = tt; text_is = refl; value_is = refl }
stand_row k (s ∷ us) h b =
    let p = and_parts (is_strict_unit k s) (list_all (is_strict_unit k) us) h in
    let u = stands k s p.0 in
    let r = stand_row k us p.1 (blanks_after s us b) in
    let follows : MayFollow s (texts r.units) = subst (MayFollow s) (sym r.text_is) (may_follow k s us p.1 b) in
    record {
      units = u.unit ∷ r.units;
      each = (u.is_unit, r.each);
      ends = (u.ends_before (texts r.units) follows, r.ends);
      text_is = ap (λ z. z ++ texts r.units) u.text_is ∙ ap (λ z. strict_text s ++ z) r.text_is;
      value_is = ap (λ z. z ++ values k r.units) u.value_is ∙ ap (λ z. strict_contents (strict_content_of k) s ++ z)
          r.value_is;
    }

-- ---- the forms of quoted literals

pub between : (o b e x : List ℕ) → ((o ++ b) ++ e) ++ x ≡ o ++ (b ++ (e ++ x))
between o b e x = append_assoc (o ++ b) e x ∙ append_assoc o b (e ++ x)

cooked_text : (k : Kind) (us : List StrictUnit) (t x : List ℕ) → (r : StandRow k us) → strict_opener k ≡ opener k
    → strict_closer k ≡ 34 ∷ [] → t ≡ ((strict_opener k ++ flat_map strict_text us) ++ strict_closer k) ++ x → t
    ≡ opener k ++ (texts r.units ++ (34 ∷ x))
cooked_text k us t x r o e h =
    h ∙ between (strict_opener k) (flat_map strict_text us) (strict_closer k) x
    ∙ ap (λ z. z ++ (flat_map strict_text us ++ (strict_closer k ++ x))) o
    ∙ ap (λ z. opener k ++ (flat_map strict_text us ++ (z ++ x))) e
    ∙ ap (λ z. opener k ++ (z ++ (34 ∷ x))) (sym r.text_is)

pub cooked_reads : (k : Kind) (t x : List ℕ) (v : Contents) (s : StrictCooked t k v x) → is_string k ≡ true
    → strict_opener k ≡ opener k → strict_closer k ≡ 34 ∷ [] → (w : List ℕ) × Cooked k t w x
    × (v ≡ quoted_contents k w)
cooked_reads k t x v s string o e =
    let r = stand_row k s.units s.each s.blanks_end in (
      values k r.units,
      record { units = r.units; string = string; each = r.each; ends = r.ends; text_is = cooked_text k s.units t x r o e s.text; value_is = refl },
      s.contents ∙ ap (quoted_contents k) (sym r.value_is),
    )

pub one_unit : (us : List StrictUnit) → length us ≡ 1 → (u : StrictUnit) × (us ≡ u ∷ [])
one_unit [] h = absurd (omega arith)
one_unit (u ∷ []) h = (u, refl)
one_unit (u ∷ w ∷ us) h = absurd (omega arith)

single_reads : (k : Kind) (t x : List ℕ) (v : Contents) (s : StrictCooked t k v x) → is_single k ≡ true → length s.units
    ≡ 1 → strict_opener k ≡ opener k → strict_closer k ≡ 39 ∷ [] → (w : List ℕ) × Single k t w x
    × (v ≡ quoted_contents k w)
single_reads k t x v s single one o e =
    let p = one_unit s.units one in
    let At : List StrictUnit → Type 0 = λ us. list_all (is_strict_unit k) us ≡ true in
    let q = subst At p.1 s.each in
    let u = stands k p.0 (and_parts (is_strict_unit k p.0) true q).0 in
    let text : flat_map strict_text s.units ≡ unit_text u.unit = ap (flat_map strict_text) p.1
    ∙ append-nil (strict_text p.0) ∙ sym u.text_is in
    let value : flat_map (strict_contents (strict_content_of k)) s.units
    ≡ unit_value k u.unit = ap (flat_map (strict_contents (strict_content_of k))) p.1
    ∙ append-nil (strict_contents (strict_content_of k) p.0) ∙ sym u.value_is in (
      unit_value k u.unit,
      record {
        unit = u.unit;
        single = single;
        is_unit = u.is_unit;
        text_is = s.text ∙ between (strict_opener k) (flat_map strict_text s.units) (strict_closer k) x
            ∙ ap (λ z. z ++ (flat_map strict_text s.units ++ (strict_closer k ++ x))) o
            ∙ ap (λ z. opener k ++ (flat_map strict_text s.units ++ (z ++ x))) e
            ∙ ap (λ z. opener k ++ (z ++ (39 ∷ x))) text;
        value_is = refl;
      },
      s.contents ∙ ap (quoted_contents k) value,
    )

ascii_row : (cs : List ℕ) → list_all (λ c. nat_lt c 128) cs ≡ true → encode_utf8_all cs ≡ cs
ascii_row [] h = refl
ascii_row (c ∷ cs) h =
    let p = and_parts (nat_lt c 128) (list_all (λ c. nat_lt c 128) cs) h in
    ap (λ z. z ++ encode_utf8_all cs) (encode_ascii c (ltb-true c 128 p.0)) ∙ ap (λ z. c ∷ z) (ascii_row cs p.1)

suffix_without_quote : (x : List ℕ) → IsStrictSuffix x → list_all (λ c. not (eqb c 34)) x ≡ true
suffix_without_quote x (inl e) = subst (λ z. list_all (λ c. not (eqb c 34)) z ≡ true) (sym e) refl
suffix_without_quote x (inr w) = word_without 34 x (omega arith) refl w.identifier

raw_text : (o i x : List ℕ) (n : ℕ) → ((((o ++ replicate n 35) ++ (34 ∷ i)) ++ (34 ∷ replicate n 35)) ++ x) ≡ o
    ++ (replicate n 35 ++ (34 ∷ (i ++ (34 ∷ (replicate n 35 ++ x)))))
raw_text o i x n = simp append_assoc

holds_all : (k : Kind) (cs : List ℕ) → ((n : ℕ) → is_raw k n ≡ true) → list_all (is_raw k) cs ≡ true
holds_all k [] h = refl
holds_all k (c ∷ cs) h = and_from (is_raw k c) (list_all (is_raw k) cs) (h c) (holds_all k cs h)

raw_reads : (k : Kind) (t x : List ℕ) (v : Contents) (s : StrictRaw t k v x) → is_string k ≡ true → strict_raw_opener k
    ≡ raw_opener k → list_all (is_raw k) s.inside ≡ true → content_of k s.inside ≡ strict_content_of k s.inside
    → (w : List ℕ) × Raw k t w x × (v ≡ quoted_contents k w)
raw_reads k t x v s string o each taken = (
  content_of k s.inside,
  record {
    hashes = s.hashes;
    inside = s.inside;
    string = string;
    each = each;
    no_quote = suffix_without_quote x s.suffix;
    text_is = s.text ∙ raw_text (strict_raw_opener k) s.inside x s.hashes
        ∙ ap (λ z. z ++ (replicate s.hashes 35 ++ (34 ∷ (s.inside ++ (34 ∷ (replicate s.hashes 35 ++ x)))))) o;
    value_is = refl;
  },
  s.contents ∙ ap (quoted_contents k) (sym taken),
)

from_cooked : (k : Kind) (t x : List ℕ) (v : Contents) → StrictCooked t k v x → Reads t k v x
from_cooked Str t x v s = let r = cooked_reads Str t x v s refl refl refl in record
    { value = r.0; form = inl r.1; contents_is = r.2 }
from_cooked ByteStr t x v s = let r = cooked_reads ByteStr t x v s refl refl refl in record
    { value = r.0; form = inl r.1; contents_is = r.2 }
from_cooked CStr t x v s = let r = cooked_reads CStr t x v s refl refl refl in record
    { value = r.0; form = inl r.1; contents_is = r.2 }
from_cooked Byte t x v s = let r = single_reads Byte t x v s refl s.count refl refl in record
    { value = r.0; form = inr (inr r.1); contents_is = r.2 }
from_cooked Char t x v s = let r = single_reads Char t x v s refl s.count refl refl in record
    { value = r.0; form = inr (inr r.1); contents_is = r.2 }
from_cooked Int t x v s = absurd s.count
from_cooked Float t x v s = absurd s.count
from_cooked BoolKind t x v s = absurd s.count

from_raw : (k : Kind) (t x : List ℕ) (v : Contents) → StrictRaw t k v x → Reads t k v x
from_raw Str t x v s = let r = raw_reads Str t x v s refl refl (holds_all Str s.inside (λ n. refl)) refl in record
    { value = r.0; form = inr (inl r.1); contents_is = r.2 }
from_raw ByteStr t x v s = let r = raw_reads ByteStr t x v s refl refl s.allowed (ascii_row s.inside s.allowed) in
    record { value = r.0; form = inr (inl r.1); contents_is = r.2 }
from_raw CStr t x v s = let r = raw_reads CStr t x v s refl refl s.allowed refl in record
    { value = r.0; form = inr (inl r.1); contents_is = r.2 }
from_raw Byte t x v s = absurd s.allowed
from_raw Char t x v s = absurd s.allowed
from_raw Int t x v s = absurd s.allowed
from_raw Float t x v s = absurd s.allowed
from_raw BoolKind t x v s = absurd s.allowed

pub quoted_strict_reads : (k : Kind) (t x : List ℕ) (v : Contents) → (StrictCooked t k v x ⊎ StrictRaw t k v x)
    → Reads t k v x
quoted_strict_reads k t x v (inl s) = from_cooked k t x v s
quoted_strict_reads k t x v (inr s) = from_raw k t x v s
