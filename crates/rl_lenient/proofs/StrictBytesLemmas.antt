-- In texts without CR, byte literals and byte strings with escapes are literals of both grammars or of neither, if
-- their suffix is empty or an identifier.
use Rattle.rl_syntax.proofs.Common.{◌≡◌, ℕ, ◌&&◌, Bool, true, false, not, ◌==◌, List, [], ◌∷◌, ◌++◌, nat_lt, refl, sym, ap, subst, ◌∙◌, inl, inr, append_assoc, append-nil, and_from, and_parts, both_ways, eqb-true, ltb-true, not-true, or_cases, or_parts, list_all-append, AllByRecursion, flat_map, list_all}
use Rattle.rl_lenient.proofs.Names.{Kind, ByteStr, Byte, first_passes, QuotedUnit, Plain, CrLf, Named, Hex, Unicode, Continuation, unit_text, unit_value, is_blank, is_plain, IsUnit, texts, values, EndsBefore, Cooked, Single, Contents, Bytes, Reads, StrictUnit, Itself, LineBreak, strict_text, strict_contents, is_dropped_blank, is_strict_unit, strict_content_of, IsStrictSuffix, QuoteEscape, PlainEscape, AsciiEscape, ByteEscape, UnicodeEscape, Str, CStr, is_string}
use Rattle.std.proofs.lemmas.Str.{encode_ascii}
use Rattle.std.specs.Prelude.{⊤}
use Rattle.rl_syntax.specs.Quoted.{ContinuationsEnd}
use Rattle.rl_syntax.specs.Strict.{BlanksEnd, StrictCooked}
use Rattle.rl_syntax.proofs.Agreeing.{strict_reads}
use Rattle.rl_syntax.proofs.StrictQuoted.{cooked_reads}
use Rattle.rl_lenient.specs.StrictBytes.{KeepsBytesStrict}
use Rattle.rl_lenient.proofs.StrictBackLemmas.{Back, HasStrictUnits, hex_escape, named_escape, unicode_escape}
pub use Rattle.rl_lenient.specs.StrictUnits.{BreakEnds as MayEnd}

-- ---- the text after a character or escape

-- A character or escape of Rust's grammar that isn't an escaped line end may be followed by any text.
pub no_break_ends : (u : StrictUnit) (r : List ℕ) → ((blanks : List ℕ) → u ≡ LineBreak blanks → ⊥) → MayEnd u r
no_break_ends (LineBreak blanks) r n = absurd (n blanks refl)
no_break_ends (Itself c) r n = tt
no_break_ends (QuoteEscape c) r n = tt
no_break_ends (PlainEscape c) r n = tt
no_break_ends (AsciiEscape high low) r n = tt
no_break_ends (ByteEscape high low) r n = tt
no_break_ends (UnicodeEscape digits) r n = tt

-- Strings of each kind may contain escaped line ends.
pub line_allowed : (k : Kind) (blanks : List ℕ) → is_string k ≡ true → list_all is_dropped_blank blanks ≡ true
    → is_strict_unit k (LineBreak blanks) ≡ true
line_allowed Str blanks s h = h
line_allowed ByteStr blanks s h = h
line_allowed CStr blanks s h = h
line_allowed kind blanks s h = absurd (cc)

-- The character or escape `u` is put before the sequence `us`, whose text may follow `u`. If each escaped line end in `us`
-- includes all white space after it, so does each escaped line end in the longer sequence.
pub blanks_cons : (u : StrictUnit) (us : List StrictUnit) → MayEnd u (flat_map strict_text us) → BlanksEnd us
    → BlanksEnd (u ∷ us)
blanks_cons (LineBreak blanks) us m b = (m, b)
blanks_cons (Itself c) us m b = b
blanks_cons (QuoteEscape c) us m b = b
blanks_cons (PlainEscape c) us m b = b
blanks_cons (AsciiEscape high low) us m b = b
blanks_cons (ByteEscape high low) us m b = b
blanks_cons (UnicodeEscape digits) us m b = b

abbrev no_return : ℕ → Bool
no_return c = not (c == 13)

-- The kinds `ByteStr` and `Byte`.
abbrev IsByteKind : Kind → Type 0
IsByteKind ByteStr = ⊤
IsByteKind Byte = ⊤
IsByteKind _ = ⊥

-- ---- a character or escape

-- A character or escape of Rust's grammar that has the text and the value of `u`, a character or escape of `syn`'s grammar.
-- Each text that may follow `u` may follow the equal character or escape of Rust's grammar too.
record Same (k : Kind) (u : QuotedUnit) : Type 0 where
  unit : StrictUnit
  is_unit : is_strict_unit k unit ≡ true
  text_is : unit_text u ≡ strict_text unit
  value_is : unit_value k u ≡ strict_contents (strict_content_of k) unit
  may_end : (t : List ℕ) → EndsBefore u t → MayEnd unit t

-- An escape of `syn`'s grammar has an equal escape in Rust's grammar, which isn't an escaped line end. So any text may
-- follow the equal escape.
escape_same : (k : Kind) (u : QuotedUnit) → Back k u → Same k u
escape_same k u b = record { unit = b.unit; is_unit = b.is_unit; text_is = b.text_is; value_is = b.value_is; may_end = λ t e. no_break_ends b.unit t b.no_break }

quoted_kind : (k : Kind) → IsByteKind k → HasStrictUnits k
quoted_kind ByteStr b = tt
quoted_kind Byte b = refl
quoted_kind kind b = absurd b

-- The value of an ASCII character in a byte string is the byte of the character.
low_value : (c : ℕ) (more : Bool) → (nat_lt c 128 && more) ≡ true → unit_value ByteStr (Plain c) ≡ c ∷ []
low_value c more h = ap (λ z. z ++ []) (encode_ascii c (ltb-true c 128 (and_parts (nat_lt c 128) more h).0))

plain_same : (k : Kind) (c : ℕ) → IsByteKind k → is_plain k c ≡ true → Same k (Plain c)
plain_same ByteStr c b h = record { unit = Itself c; is_unit = h; text_is = refl; value_is = low_value c _ h; may_end = λ t e. tt }
plain_same Byte c b h = record { unit = Itself c; is_unit = h; text_is = refl; value_is = low_value c _ h; may_end = λ t e. tt }
plain_same kind c b h = absurd b

-- White space other than CR is dropped after an escaped line end by Rust's grammar too.
dropped : (c : ℕ) → is_blank c ≡ true → no_return c ≡ true → is_dropped_blank c ≡ true
dropped c h n = elim (or_cases (is_dropped_blank c) (c == 13) h)
    [ inl a ↦ a | inr a ↦ absurd (both_ways (c == 13) (not-true (c == 13) n) a) ]

all_dropped : (run : List ℕ) → list_all is_blank run ≡ true → list_all no_return run ≡ true
    → list_all is_dropped_blank run ≡ true
all_dropped [] h n = refl
all_dropped (c ∷ run) h n =
    let p = and_parts (is_blank c) (list_all is_blank run) h in
    let q = and_parts (no_return c) (list_all no_return run) n in
    and_from (is_dropped_blank c) (list_all is_dropped_blank run) (dropped c p.0 q.0) (all_dropped run p.1 q.1)

not_dropped : (t : List ℕ) → first_passes is_blank t ≡ false → first_passes is_dropped_blank t ≡ false
not_dropped [] h = refl
not_dropped (c ∷ t) h = (or_parts (is_dropped_blank c) (c == 13) h).0

-- An escaped line end without CR has an equal escape in Rust's grammar.
line_same : (k : Kind) (c : ℕ) (run : List ℕ) → IsUnit k (Continuation c run) → list_all no_return (92 ∷ c ∷ run) ≡ true
    → Same k (Continuation c run)
line_same k c run u n =
    let q = and_parts (no_return c) (list_all no_return run) n in
    let At : ℕ → Type 0 = λ x. Same k (Continuation x run) in
    elim (or_cases (c == 10) (c == 13) u.1) [
      | inl a ↦ subst At (sym (eqb-true c 10 a)) (record { unit = LineBreak run; is_unit = line_allowed k run u.0 (all_dropped run u.2 q.1); text_is = refl; value_is = refl; may_end = λ t e. not_dropped t e })
      | inr a ↦ absurd (both_ways (c == 13) (not-true (c == 13) q.0) a)
    ]

unit_same : (k : Kind) (u : QuotedUnit) → IsByteKind k → IsUnit k u → list_all no_return (unit_text u) ≡ true → Same k u
unit_same k (Plain c) b h n = plain_same k c b h
unit_same k CrLf b h n = absurd (cc)
unit_same k (Named l) b h n = escape_same k (Named l) (named_escape k l h)
unit_same k (Hex high low) b h n = escape_same k (Hex high low) (hex_escape k high low (quoted_kind k b) h)
unit_same k (Unicode first more) b h n = escape_same k (Unicode first more)
    (unicode_escape k first more (quoted_kind k b) h)
unit_same k (Continuation c run) b h n = line_same k c run h n

-- ---- sequences of characters and escapes

record SameRow (k : Kind) (us : List QuotedUnit) : Type 0 where
  units : List StrictUnit
  each : list_all (is_strict_unit k) units ≡ true
  blanks_end : BlanksEnd units
  text_is : texts us ≡ flat_map strict_text units
  value_is : values k us ≡ flat_map (strict_contents (strict_content_of k)) units

row_same : (k : Kind) (us : List QuotedUnit) → IsByteKind k → AllByRecursion (IsUnit k) us → ContinuationsEnd us
    → list_all no_return (texts us) ≡ true → SameRow k us
row_same k [] b e c n = record { units = []; each = refl; blanks_end = tt; text_is = refl; value_is = refl }
row_same k (u ∷ us) b e c n =
    let m = and_parts (list_all no_return (unit_text u)) (list_all no_return (texts us))
    (sym (list_all-append no_return (unit_text u) (texts us)) ∙ n) in
    let s = unit_same k u b e.0 m.0 in
    let r = row_same k us b e.1 c.1 m.1 in
    record {
      units = s.unit ∷ r.units;
      each = and_from (is_strict_unit k s.unit) (list_all (is_strict_unit k) r.units) s.is_unit r.each;
      blanks_end = blanks_cons s.unit r.units (subst (MayEnd s.unit) r.text_is (s.may_end (texts us) c.0)) r.blanks_end;
      text_is = ap (λ z. z ++ texts us) s.text_is ∙ ap (λ z. strict_text s.unit ++ z) r.text_is;
      value_is = ap (λ z. z ++ values k us) s.value_is ∙ ap (λ z. strict_contents (strict_content_of k) s.unit ++ z)
          r.value_is;
    }

-- ---- byte strings with escapes, and byte literals

-- If a text without CR is two characters, `inner` and `after`, then `inner` contains no CR.
inner_clean : (a b : ℕ) (text inner after : List ℕ) → text ≡ a ∷ b ∷ (inner ++ after) → list_all no_return text ≡ true
    → list_all no_return inner ≡ true
inner_clean a b text inner after e n =
    let first = and_parts (no_return a) (list_all no_return (b ∷ (inner ++ after)))
    (ap (list_all no_return) (sym e) ∙ n) in
    let second = and_parts (no_return b) (list_all no_return (inner ++ after)) first.1 in
    (and_parts (list_all no_return inner) (list_all no_return after)
    (sym (list_all-append no_return inner after) ∙ second.1)).0

string_strict : (t w x : List ℕ) → Cooked ByteStr t w x → list_all no_return t ≡ true → IsStrictSuffix x
    → StrictCooked t ByteStr (Bytes w) x
string_strict t w x c n s =
    let r = row_same ByteStr c.units tt c.each c.ends (inner_clean 98 34 t (texts c.units) (34 ∷ x) c.text_is n) in
    record {
      units = r.units;
      count = tt;
      each = r.each;
      blanks_end = r.blanks_end;
      suffix = s;
      text = c.text_is ∙ ap (λ z. 98 ∷ 34 ∷ (z ++ (34 ∷ x))) r.text_is
          ∙ ap (λ z. 98 ∷ 34 ∷ z) (sym (append_assoc (flat_map strict_text r.units) (34 ∷ []) x));
      contents = ap Bytes (c.value_is ∙ r.value_is);
    }

string_reads : (t w x : List ℕ) → StrictCooked t ByteStr (Bytes w) x → Cooked ByteStr t w x
string_reads t w x s =
    let r = cooked_reads ByteStr t x (Bytes w) s refl refl refl in
    let contents : Bytes w ≡ Bytes r.0 = r.2 in
    let same : r.0 ≡ w = cc in
    subst (λ v. Cooked ByteStr t v x) same r.1

-- A byte literal has only the form with single quotes.
single_of : (t : List ℕ) (v : Contents) (x : List ℕ) → Reads t Byte v x → (w : List ℕ) × Single Byte t w x
    × (v ≡ Bytes w)
single_of t v x r = elim r.form [
  | inl c ↦ absurd (let h = c.string in (cc))
  | inr f ↦ elim f [
    | inl w ↦ absurd (let h = w.string in (cc))
    | inr s ↦ (r.value, s, r.contents_is)
  ]
]

unit_ends : (u : QuotedUnit) → EndsBefore u []
unit_ends (Plain c) = tt
unit_ends CrLf = tt
unit_ends (Named l) = tt
unit_ends (Hex high low) = tt
unit_ends (Unicode first more) = tt
unit_ends (Continuation c run) = refl

byte_strict : (t : List ℕ) (v : Contents) (x : List ℕ) → Reads t Byte v x → list_all no_return t ≡ true
    → IsStrictSuffix x → StrictCooked t Byte v x
byte_strict t v x r n s =
    let (w, f, v_is) = single_of t v x r in
    let u = unit_same Byte f.unit tt f.is_unit (inner_clean 98 39 t (unit_text f.unit) (39 ∷ x) f.text_is n) in
    record {
      units = u.unit ∷ [];
      count = refl;
      each = and_from (is_strict_unit Byte u.unit) true u.is_unit refl;
      blanks_end = blanks_cons u.unit [] (u.may_end [] (unit_ends f.unit)) tt;
      suffix = s;
      text = f.text_is ∙ ap (λ z. 98 ∷ 39 ∷ (z ++ (39 ∷ x))) (u.text_is ∙ sym (append-nil (strict_text u.unit)))
          ∙ ap (λ z. 98 ∷ 39 ∷ z) (sym (append_assoc (strict_text u.unit ++ []) (39 ∷ []) x));
      contents = v_is ∙ ap Bytes (f.value_is ∙ u.value_is ∙ sym
          (append-nil (strict_contents (strict_content_of Byte) u.unit)));
    }

pub bytes_are_strict : (t : List ℕ) → KeepsBytesStrict t
bytes_are_strict t n = record {
  byte = λ v x. ((λ p. byte_strict t v x p.0 n p.1), (λ s. (strict_reads t Byte v x (inl s) tt, s.suffix)));
  byte_string = λ w x. ((λ p. string_strict t w x p.0 n p.1), (λ s. (string_reads t w x s, s.suffix)));
}
