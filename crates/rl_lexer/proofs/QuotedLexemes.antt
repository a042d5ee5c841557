-- Each quoted literal of Rust's grammar is a lexeme.
use Rattle.rl_syntax.proofs.Common.{◌≡◌, ◌≢◌, ℕ, ◌⊎◌, inl, inr, zero, suc, Bool, true, false, not, ◌&&◌, ◌||◌, ◌==◌, List, [], ◌∷◌, ◌++◌, length, replicate, refl, sym, ◌∙◌, ap, subst, append-nil, drop, nat_lt, if◌then◌else◌, list_all, flat_map, is_ascii_hexdigit, all_scalars, and_parts, and_from, or_from, not_from_false, list_all-append}
use Rattle.std.specs.Prelude.{nat_le}
use Rattle.rl_syntax.specs.declared.kind.Kind.{Kind}
use Rattle.rl_syntax.specs.declared.kind.Kind.TheVariants.{Str, ByteStr, CStr, Byte, Char}
use Rattle.rl_lexer.specs.Lexemes.{LiteralPrefix, NoPrefix, BytePrefix, CPrefix, prefix_text, BodyPart, PlainPart, EscapedPart, body_text, IsBody, CharacterBody, OneCharacter, EscapedCharacter, character_body_text, IsCharacterBody, begins_hashes, IsRawBody, QuotedLexeme, CharacterLexeme, lexeme_text}
use Rattle.rl_syntax.specs.Reading.{Contents}
use Rattle.rl_syntax.specs.Strict.{StrictUnit, Itself, QuoteEscape, PlainEscape, AsciiEscape, ByteEscape, UnicodeEscape, LineBreak, spaced_digit, spaced_value, strict_text, is_octal, is_unicode_escape, is_allowed_in_single_quotes, is_bare_in_string, is_strict_unit, strict_opener, strict_closer, HasUnits, StrictCooked}
use Rattle.rl_syntax.specs.Texts.{is_dropped_blank}
use Rattle.rl_lexer.proofs.HashLemmas.{hashes_split}
use Rattle.rl_syntax.proofs.Basics.{false_unless, apart, all_weaker, hex_is_sixteen}
use Rattle.rl_lexer.proofs.Pieces.{is_equal}
use Rattle.rl_syntax.proofs.StrictQuoted.{hex_first, octal_hex, one_unit, bare_not_backslash, between}
use Rattle.rl_syntax.specs.Spelling.{place_value}

-- Whether a character is neither of two given characters, such as the quote and the backslash.
abbrev free : ℕ → ℕ → ℕ → Bool
free a b c = not (c == a || c == b)

pub free_from : (test : ℕ → Bool) (a b : ℕ) → test a ≡ false → test b ≡ false → (c : ℕ) → test c ≡ true → free a b c
    ≡ true
free_from test a b at_a at_b c h = not_from_false (c == a || c == b)
    (or_from (c == a) (c == b) (apart test c a h at_a) (apart test c b h at_b))

-- The conditions on two characters under which neither of them occurs in an escape after the escape's first two
-- characters. The quote and the backslash meet the conditions.
record Outside (a b : ℕ) : Type 0 where
  pub hex_a : is_ascii_hexdigit a ≡ false
  pub hex_b : is_ascii_hexdigit b ≡ false
  pub underscore : free a b 95 ≡ true
  pub open_brace : free a b 123 ≡ true
  pub close_brace : free a b 125 ≡ true

quote_outside : Outside 34 92
quote_outside = record { hex_a = refl; hex_b = refl; underscore = refl; open_brace = refl; close_brace = refl }

apostrophe_outside : Outside 39 10
apostrophe_outside = record { hex_a = refl; hex_b = refl; underscore = refl; open_brace = refl; close_brace = refl }

-- The part `s` of a literal's body is an escape: a backslash, a character, and more characters, none of which is `a` or
-- `b`.
record Escape (a b : ℕ) (s : StrictUnit) : Type 0 where
  pub first : ℕ
  pub more : List ℕ
  pub text : strict_text s ≡ 92 ∷ first ∷ more
  pub each : list_all (free a b) more ≡ true

hex_free : (a b : ℕ) → Outside a b → (c : ℕ) → is_ascii_hexdigit c ≡ true → free a b c ≡ true
hex_free a b o c h = free_from is_ascii_hexdigit a b o.hex_a o.hex_b c h

octal_free : (a b : ℕ) → Outside a b → (c : ℕ) → is_octal c ≡ true → free a b c ≡ true
octal_free a b o c h = hex_free a b o c (hex_is_sixteen c ∙ octal_hex c h)

two_free : (a b high low : ℕ) → free a b high ≡ true → free a b low ≡ true → list_all (free a b) (high ∷ low ∷ [])
    ≡ true
two_free a b high low h l = and_from (free a b high) (free a b low && true) h (and_from (free a b low) true l refl)

underscores_free : (a b n : ℕ) → Outside a b → list_all (free a b) (replicate n 95) ≡ true
underscores_free a b zero o = refl
underscores_free a b (suc n) o = and_from (free a b 95) (list_all (free a b) (replicate n 95)) o.underscore
    (underscores_free a b n o)

digits_free : (a b : ℕ) (ds : List (ℕ × ℕ)) → Outside a b → list_all hex_first ds ≡ true
    → list_all (free a b) (flat_map spaced_digit ds) ≡ true
digits_free a b [] o h = refl
digits_free a b (d ∷ ds) o h =
    let p = and_parts (hex_first d) (list_all hex_first ds) h in
    and_from (free a b d.0) _ (hex_free a b o d.0 p.0)
    (list_all-append (free a b) (replicate d.1 95) (flat_map spaced_digit ds)
    ∙ and_from _ _ (underscores_free a b d.1 o) (digits_free a b ds o p.1))

unicode_digits : (ds : List (ℕ × ℕ)) → is_unicode_escape ds ≡ true → list_all hex_first ds ≡ true
unicode_digits ds h =
    let p = and_parts _ (all_scalars (spaced_value ds ∷ [])) h in
    (and_parts (nat_le 1 (length ds) && nat_le (length ds) 6) (list_all hex_first ds) p.0).1

spaced_escape : (a b : ℕ) (ds : List (ℕ × ℕ)) → Outside a b → is_unicode_escape ds ≡ true
    → Escape a b (UnicodeEscape ds)
spaced_escape a b ds o h = record {
  first = 117;
  more = 123 ∷ (flat_map spaced_digit ds ++ (125 ∷ []));
  text = refl;
  each = and_from (free a b 123) _ o.open_brace
      (list_all-append (free a b) (flat_map spaced_digit ds) (125 ∷ [])
      ∙ and_from _ _ (digits_free a b ds o (unicode_digits ds h))
      (and_from (free a b 125) true o.close_brace refl));
}

octal_escape : (a b high low : ℕ) → Outside a b → (is_octal high && is_ascii_hexdigit low) ≡ true
    → Escape a b (AsciiEscape high low)
octal_escape a b high low o h =
    let p = and_parts (is_octal high) (is_ascii_hexdigit low) h in
    record { first = 120; more = high ∷ low ∷ []; text = refl; each = two_free a b high low (octal_free a b o high p.0) (hex_free a b o low p.1) }

hex_escape : (a b high low : ℕ) → Outside a b → (is_ascii_hexdigit high && is_ascii_hexdigit low) ≡ true
    → Escape a b (ByteEscape high low)
hex_escape a b high low o h =
    let p = and_parts (is_ascii_hexdigit high) (is_ascii_hexdigit low) h in
    record { first = 120; more = high ∷ low ∷ []; text = refl; each = two_free a b high low (hex_free a b o high p.0) (hex_free a b o low p.1) }

ascii_of : (a b : ℕ) (k : Kind) (high low : ℕ) → Outside a b → is_strict_unit k (AsciiEscape high low) ≡ true
    → Escape a b (AsciiEscape high low)
ascii_of a b Str high low o h = octal_escape a b high low o h
ascii_of a b Char high low o h = octal_escape a b high low o h
ascii_of a b kind high low o h = absurd (cc)

byte_of : (a b : ℕ) (k : Kind) (high low : ℕ) → Outside a b → is_strict_unit k (ByteEscape high low) ≡ true
    → Escape a b (ByteEscape high low)
byte_of a b ByteStr high low o h = hex_escape a b high low o h
byte_of a b Byte high low o h = hex_escape a b high low o h
byte_of a b CStr high low o h = hex_escape a b high low o (and_parts (is_ascii_hexdigit high && is_ascii_hexdigit low)
    (not (place_value 16 (high ∷ low ∷ []) == 0)) h).0
byte_of a b kind high low o h = absurd (cc)

unicode_of : (a b : ℕ) (k : Kind) (ds : List (ℕ × ℕ)) → Outside a b → is_strict_unit k (UnicodeEscape ds) ≡ true
    → Escape a b (UnicodeEscape ds)
unicode_of a b Str ds o h = spaced_escape a b ds o h
unicode_of a b Char ds o h = spaced_escape a b ds o h
unicode_of a b CStr ds o h = spaced_escape a b ds o (and_parts (is_unicode_escape ds) (not (spaced_value ds == 0)) h).0
unicode_of a b kind ds o h = absurd (cc)

-- The part `s` of a literal's body is a character that a literal of the kind may contain unescaped, or an escape.
abbrev OneOrEscape : ℕ → ℕ → Kind → StrictUnit → Type 0
OneOrEscape a b k s = ((c : ℕ) × (s ≡ Itself c) × (is_strict_unit k (Itself c) ≡ true)) ⊎ Escape a b s

one_or_escape : (a b : ℕ) (k : Kind) (s : StrictUnit) → Outside a b
    → ((blanks : List ℕ) → is_strict_unit k (LineBreak blanks) ≡ true → list_all (free a b) blanks ≡ true)
    → is_strict_unit k s ≡ true → OneOrEscape a b k s
one_or_escape a b k (Itself c) o line h = inl (c, refl, h)
one_or_escape a b k (QuoteEscape c) o line h = inr (record { first = c; more = []; text = refl; each = refl })
one_or_escape a b k (PlainEscape c) o line h = inr (record { first = c; more = []; text = refl; each = refl })
one_or_escape a b k (AsciiEscape high low) o line h = inr (ascii_of a b k high low o h)
one_or_escape a b k (ByteEscape high low) o line h = inr (byte_of a b k high low o h)
one_or_escape a b k (UnicodeEscape ds) o line h = inr (unicode_of a b k ds o h)
one_or_escape a b k (LineBreak blanks) o line h = inr (record
    { first = 10; more = blanks; text = refl; each = line blanks h })

-- The properties of a kind of string literals from which it follows that the text between the quotes is the body of a
-- lexeme.
pub record StringKind (k : Kind) : Type 0 where
  pub bare : (c : ℕ) → is_strict_unit k (Itself c) ≡ true → free 34 92 c ≡ true
  pub line : (blanks : List ℕ) → is_strict_unit k (LineBreak blanks) ≡ true → list_all (free 34 92) blanks ≡ true
  pub before : LiteralPrefix
  pub opens_is : strict_opener k ≡ prefix_text before ++ (34 ∷ [])
  pub ends_is : strict_closer k ≡ 34 ∷ []

pub blanks_free : (blanks : List ℕ) → list_all is_dropped_blank blanks ≡ true → list_all (free 34 92) blanks ≡ true
blanks_free = all_weaker is_dropped_blank (free 34 92) (free_from is_dropped_blank 34 92 refl refl)

abbrev pub string_kind : StringKind Str
string_kind = record { bare = free_from is_bare_in_string 34 92 refl refl; line = blanks_free; before = NoPrefix; opens_is = refl; ends_is = refl }

abbrev pub byte_string_kind : StringKind ByteStr
byte_string_kind = record { bare = λ c h. free_from is_bare_in_string 34 92 refl refl c (and_parts (nat_lt c 128) (is_bare_in_string c) h).1; line = blanks_free; before = BytePrefix; opens_is = refl; ends_is = refl }

abbrev pub c_string_kind : StringKind CStr
c_string_kind = record { bare = λ c h. free_from is_bare_in_string 34 92 refl refl c (and_parts (is_bare_in_string c) (not (c == 0)) h).0; line = blanks_free; before = CPrefix; opens_is = refl; ends_is = refl }

abbrev plain_parts : List ℕ → List BodyPart
plain_parts [] = []
plain_parts (c ∷ cs) = PlainPart c ∷ plain_parts cs

plain_text : (cs : List ℕ) (more : List BodyPart) → body_text (plain_parts cs ++ more) ≡ cs ++ body_text more
plain_text [] more = refl
plain_text (c ∷ cs) more = ap (λ x. c ∷ x) (plain_text cs more)

plain_body : (cs : List ℕ) (more : List BodyPart) → list_all (free 34 92) cs ≡ true → IsBody more
    → IsBody (plain_parts cs ++ more)
plain_body [] more all is = is
plain_body (c ∷ cs) more all is =
    let p = and_parts (free 34 92 c) (list_all (free 34 92) cs) all in
    (p.0, plain_body cs more p.1 is)

-- The text of the characters and escapes `us` of a string literal is the body of a lexeme.
record Spelled (us : List StrictUnit) : Type 0 where
  pub parts : List BodyPart
  pub text : body_text parts ≡ flat_map strict_text us
  pub is_body : IsBody parts

spelled_more : (k : Kind) (s : StrictUnit) (us : List StrictUnit) → StringKind k → OneOrEscape 34 92 k s → Spelled us
    → Spelled (s ∷ us)
spelled_more k s us f (inl (c, same, is)) r = record {
  parts = PlainPart c ∷ r.parts;
  text = ap (λ x. c ∷ x) r.text ∙ ap (λ u. strict_text u ++ flat_map strict_text us) (sym same);
  is_body = (f.bare c is, r.is_body);
}
spelled_more k s us f (inr e) r = record {
  parts = EscapedPart e.first ∷ (plain_parts e.more ++ r.parts);
  text = ap (λ x. 92 ∷ e.first ∷ x) (plain_text e.more r.parts) ∙ ap (λ x. x ++ body_text r.parts) (sym e.text)
      ∙ ap (λ x. strict_text s ++ x) r.text;
  is_body = plain_body e.more r.parts e.each r.is_body;
}

spelled : (k : Kind) (us : List StrictUnit) → StringKind k → list_all (is_strict_unit k) us ≡ true → Spelled us
spelled k [] f h = record { parts = []; text = refl; is_body = tt }
spelled k (s ∷ us) f h =
    let p = and_parts (is_strict_unit k s) (list_all (is_strict_unit k) us) h in
    spelled_more k s us f (one_or_escape 34 92 k s quote_outside f.line p.0) (spelled k us f p.1)

quoted_text : (p : LiteralPrefix) (b x : List ℕ) → (prefix_text p ++ (34 ∷ b)) ++ (34 ∷ x)
    ≡ (prefix_text p ++ (34 ∷ [])) ++ (b ++ (34 ∷ x))
quoted_text NoPrefix b x = refl
quoted_text BytePrefix b x = refl
quoted_text CPrefix b x = refl

-- The text is a string literal with escapes, with the given prefix and suffix.
pub record StringParts (p : LiteralPrefix) (t x : List ℕ) : Type 0 where
  pub parts : List BodyPart
  pub is_body : IsBody parts
  pub text_is : t ≡ lexeme_text (QuotedLexeme p parts x)

pub string_parts : (k : Kind) (t x : List ℕ) (v : Contents) (f : StringKind k) → StrictCooked t k v x
    → StringParts f.before t x
string_parts k t x v f s =
    let r = spelled k s.units f s.each in
    record {
      parts = r.parts;
      is_body = r.is_body;
      text_is = s.text ∙ between (strict_opener k) (flat_map strict_text s.units) (strict_closer k) x
          ∙ ap (λ z. z ++ (flat_map strict_text s.units ++ (strict_closer k ++ x))) f.opens_is
          ∙ ap (λ z. (prefix_text f.before ++ (34 ∷ [])) ++ (flat_map strict_text s.units ++ (z ++ x))) f.ends_is
          ∙ ap (λ z. (prefix_text f.before ++ (34 ∷ [])) ++ (z ++ (34 ∷ x))) (sym r.text)
          ∙ sym (quoted_text f.before (body_text r.parts) x);
    }

-- The properties of the kinds `Char` and `Byte` from which it follows that the text between the apostrophes is the body
-- of a lexeme.
pub record SingleKind (k : Kind) : Type 0 where
  pub bare : (c : ℕ) → is_strict_unit k (Itself c) ≡ true → not (c == 92) ≡ true
  pub line : (blanks : List ℕ) → is_strict_unit k (LineBreak blanks) ≡ true → list_all (free 39 10) blanks ≡ true
  pub is_byte : Bool
  pub opens_is : strict_opener k ≡ (if is_byte then 98 ∷ [] else []) ++ (39 ∷ [])
  pub ends_is : strict_closer k ≡ 39 ∷ []
  pub one : (us : List StrictUnit) → HasUnits k us → length us ≡ 1

pub character_kind : SingleKind Char
character_kind = record { bare = bare_not_backslash; line = λ blanks h. absurd (cc); is_byte = false; opens_is = refl; ends_is = refl; one = λ us h. h }

pub byte_kind : SingleKind Byte
byte_kind = record { bare = λ c h. bare_not_backslash c (and_parts (nat_lt c 128) (is_allowed_in_single_quotes c) h).1; line = λ blanks h. absurd (cc); is_byte = true; opens_is = refl; ends_is = refl; one = λ us h. h }

-- The text of `s`, the character or escape in a character or byte literal, is the body of a lexeme.
record Between (s : StrictUnit) : Type 0 where
  pub inside : CharacterBody
  pub text : strict_text s ≡ character_body_text inside
  pub is_within : IsCharacterBody inside

within_of : (k : Kind) (s : StrictUnit) → SingleKind k → OneOrEscape 39 10 k s → Between s
within_of k s f (inl (c, same, is)) = record { inside = OneCharacter c; text = ap strict_text same; is_within = f.bare c is }
within_of k s f (inr e) = record { inside = EscapedCharacter e.first e.more; text = e.text; is_within = e.each }

single_text : (b : Bool) (w x : List ℕ) → ((if b then 98 ∷ [] else []) ++ (39 ∷ w)) ++ (39 ∷ x)
    ≡ ((if b then 98 ∷ [] else []) ++ (39 ∷ [])) ++ (w ++ (39 ∷ x))
single_text true w x = refl
single_text false w x = refl

-- The text is a character or byte literal with the given suffix.
pub record SingleParts (b : Bool) (t x : List ℕ) : Type 0 where
  pub inside : CharacterBody
  pub is_body : IsCharacterBody inside
  pub text_is : t ≡ lexeme_text (CharacterLexeme b inside x)

pub single_parts : (k : Kind) (t x : List ℕ) (v : Contents) (f : SingleKind k) → StrictCooked t k v x
    → SingleParts f.is_byte t x
single_parts k t x v f s =
    let (u, one) = one_unit s.units (f.one s.units s.count) in
    let each : list_all (is_strict_unit k) (u ∷ []) ≡ true = subst
    (λ (us : List StrictUnit). list_all (is_strict_unit k) us ≡ true) one s.each in
    let w = within_of k u f (one_or_escape 39 10 k u apostrophe_outside f.line
    (and_parts (is_strict_unit k u) true each).0) in
    let text : flat_map strict_text s.units ≡ character_body_text w.inside = ap (flat_map strict_text) one
    ∙ append-nil (strict_text u) ∙ w.text in
    record {
      inside = w.inside;
      is_body = w.is_within;
      text_is = s.text ∙ between (strict_opener k) (flat_map strict_text s.units) (strict_closer k) x
          ∙ ap (λ z. z ++ (flat_map strict_text s.units ++ (strict_closer k ++ x))) f.opens_is
          ∙ ap (λ z. ((if f.is_byte then 98 ∷ [] else []) ++ (39 ∷ [])) ++ (flat_map strict_text s.units ++ (z ++ x)))
          f.ends_is
          ∙ ap (λ z. ((if f.is_byte then 98 ∷ [] else []) ++ (39 ∷ [])) ++ (z ++ (39 ∷ x))) text
          ∙ sym (single_text f.is_byte (character_body_text w.inside) x);
    }

-- If no quote in the body of a raw string with n hashes is followed by n hashes, the body is the body of a lexeme.
pub raw_body : (n : ℕ) (body : List ℕ) → ((front rest : List ℕ) → body ≢ (front ++ (34 ∷ replicate n 35)) ++ rest)
    → IsRawBody n body
raw_body n [] none = tt
raw_body n (c ∷ body) none = (
  false_unless (c == 34 && begins_hashes n body) (λ h.
      let p = and_parts (c == 34) (begins_hashes n body) h in
      none [] (drop n body) (ap (λ z. z ∷ body) (is_equal c 34 p.0) ∙ ap (λ z. 34 ∷ z) (hashes_split n body p.1))),
  raw_body n body (λ front rest e. none (c ∷ front) rest (ap (λ z. c ∷ z) e)),
)
