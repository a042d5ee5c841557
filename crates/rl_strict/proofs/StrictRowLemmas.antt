-- The characters and escapes of a quoted literal up to its closing quote, and the suffix after it.
use Rattle.rl_strict.proofs.Names.{◌≡◌, ℕ, Bool, true, false, ◌==◌, List, [], ◌∷◌, ◌++◌, length, Some, None, refl, sym, ap, subst, ◌∙◌, append_assoc, append-nil, and_from, and_parts, both_ways, eqb-true, list_all, flat_map, IsTrue, ◌↔◌, Kind, Str, ByteStr, CStr, Byte, Char, first_passes, is_plain, is_single, is_string, StrictUnit, Itself, LineBreak, strict_text, is_dropped_blank, is_strict_unit, IsStrictSuffix, BlanksEnd, HasUnits, strict_closer, ends_quoted, is_strict_suffix, unit_rest, ClosesUnits, HasStrictUnits, plain_is_bare, blanks_cons, blanks_after, one_unit}
use Rattle.rl_strict.proofs.StrictUnitLemmas.{MayEnd, StrictFront, unit_rest_sound, unit_rest_complete}
use Rattle.rl_strict.proofs.StrictWordLemmas.{strict_suffix_complete, strict_suffix_sound}

-- ---- the content of each kind of literal

-- The closing quote of a string is `"`.
string_ends : (k : Kind) → is_string k ≡ true → strict_closer k ≡ 34 ∷ []
string_ends Str h = refl
string_ends ByteStr h = refl
string_ends CStr h = refl
string_ends kind h = absurd (cc)

-- A string may contain any number of characters and escapes.
string_count : (k : Kind) (us : List StrictUnit) → is_string k ≡ true → HasUnits k us
string_count Str us h = tt
string_count ByteStr us h = tt
string_count CStr us h = tt
string_count kind us h = absurd (cc)

-- The closing quote of a character or byte literal is `'`.
single_ends : (k : Kind) → is_single k ≡ true → strict_closer k ≡ 39 ∷ []
single_ends Byte h = refl
single_ends Char h = refl
single_ends kind h = absurd (cc)

-- A character or byte literal may contain one character or escape.
single_count : (k : Kind) (u : StrictUnit) → is_single k ≡ true → HasUnits k (u ∷ [])
single_count Byte u h = refl
single_count Char u h = refl
single_count kind u h = absurd (cc)

-- A character or byte literal contains only one character or escape.
single_length : (k : Kind) (us : List StrictUnit) → is_single k ≡ true → HasUnits k us → length us ≡ 1
single_length Byte us h c = c
single_length Char us h c = c
single_length kind us h c = absurd (cc)

-- A string can't contain its closing quote unescaped.
pub quote_stops : (k : Kind) (x : List ℕ) → is_string k ≡ true → unit_rest k (34 ∷ x) ≡ None
unfolding unit_rest
quote_stops Str x h = refl
quote_stops ByteStr x h = refl
quote_stops CStr x h = refl
quote_stops kind x h = absurd (cc)

-- ---- the white space of an escaped line end

-- If the first character of a text fails a test, the first character of each prefix fails the test too.
pub passes_front : (test : ℕ → Bool) (a b : List ℕ) → first_passes test (a ++ b) ≡ false → first_passes test a ≡ false
passes_front test [] b h = refl
passes_front test (c ∷ cs) b h = h

-- If the first characters of two texts fail a test, the first character of the joined text fails the test too.
pub passes_seam : (test : ℕ → Bool) (a b : List ℕ) → first_passes test a ≡ false → first_passes test b ≡ false
    → first_passes test (a ++ b) ≡ false
passes_seam test [] b h k = k
passes_seam test (c ∷ cs) b h k = h

-- If a text may follow a character or escape, each prefix of the text may follow it too. A text that may follow an escaped
-- line end doesn't begin with white space.
may_end_front : (u : StrictUnit) (a b : List ℕ) → MayEnd u (a ++ b) → MayEnd u a
may_end_front (LineBreak blanks) a b m = passes_front is_dropped_blank a b m
may_end_front other a b m = tt

-- Let the characters and escapes after an escaped line end not begin with white space. With a text appended that doesn't
-- begin with white space, they still don't begin with white space.
may_end_seam : (u : StrictUnit) (us : List StrictUnit) (b : List ℕ) → first_passes is_dropped_blank b ≡ false
    → BlanksEnd (u ∷ us) → MayEnd u (flat_map strict_text us ++ b)
may_end_seam (LineBreak blanks) us b n m = passes_seam is_dropped_blank (flat_map strict_text us) b m.0 n
may_end_seam other us b n m = tt

-- ---- the closing quote and the suffix

-- A closing quote and a suffix pass the test `ends_quoted`.
quote_complete : (quote : ℕ) (x : List ℕ) → (quote == quote) ≡ true → IsStrictSuffix x → ends_quoted quote (quote ∷ x)
    ≡ true
quote_complete quote x e s = and_from (quote == quote) (is_strict_suffix x) e (strict_suffix_complete x s)

-- A text that passes the test `ends_quoted` is a closing quote and a suffix.
quote_sound : (quote : ℕ) (t : List ℕ) → ends_quoted quote t ≡ true → (x : List ℕ) × IsStrictSuffix x × (t ≡ quote ∷ x)
quote_sound quote [] h = absurd (cc)
quote_sound quote (c ∷ cs) h =
    let p = and_parts (c == quote) (is_strict_suffix cs) h in
    (cs, strict_suffix_sound cs p.1, ap (λ z. z ∷ cs) (eqb-true c quote p.0))

-- ---- sequences of characters and escapes

-- If a text begins with a sequence of characters and escapes, `unit_rest` returns the text after the first one.
row_after : (k : Kind) (u : StrictUnit) (us : List StrictUnit) (q : ℕ) (x t : List ℕ)
    → list_all (is_strict_unit k) (u ∷ us) ≡ true → BlanksEnd (u ∷ us) → is_dropped_blank q ≡ false → t
    ≡ flat_map strict_text (u ∷ us) ++ (q ∷ x) → unit_rest k t ≡ Some (flat_map strict_text us ++ (q ∷ x))
row_after k u us q x t each b n text =
    let p = and_parts (is_strict_unit k u) (list_all (is_strict_unit k) us) each in
    ap (unit_rest k) (text ∙ append_assoc (strict_text u) (flat_map strict_text us) (q ∷ x))
    ∙ unit_rest_complete k u (flat_map strict_text us ++ (q ∷ x)) p.0 (may_end_seam u us (q ∷ x) n b)

-- If a string's text is characters and escapes, the closing delimiter and a suffix, the closing delimiter is `"`.
string_text : (k : Kind) (t x : List ℕ) (us : List StrictUnit) → is_string k ≡ true → t ≡ flat_map strict_text us
    ++ (strict_closer k ++ x) → t ≡ flat_map strict_text us ++ (34 ∷ x)
string_text k t x us s e = e ∙ ap (λ z. flat_map strict_text us ++ (z ++ x)) (string_ends k s)

-- If a text ends a string, the text after its first character or escape ends a string too.
row_down : (k : Kind) (t r x : List ℕ) (us : List StrictUnit) → is_string k ≡ true → unit_rest k t ≡ Some r
    → list_all (is_strict_unit k) us ≡ true → BlanksEnd us → IsStrictSuffix x → t ≡ flat_map strict_text us ++ (34 ∷ x)
    → ClosesUnits k r
row_down k t r x [] s h each b i e = absurd (let n : None ≡ Some r = sym (ap (unit_rest k) e ∙ quote_stops k x s)
    ∙ h in (cc))
row_down k t r x (u ∷ us) s h each b i e =
    let same : Some r ≡ Some (flat_map strict_text us ++ (34 ∷ x)) = sym h ∙ row_after k u us 34 x t each b refl e in
    record {
      units = us;
      suffix = x;
      count = string_count k us s;
      each = (and_parts (is_strict_unit k u) (list_all (is_strict_unit k) us) each).1;
      blanks_end = blanks_after u us b;
      is_suffix = i;
      text_is = (let e : r ≡ flat_map strict_text us ++ (34 ∷ x) = cc in e)
          ∙ ap (λ z. flat_map strict_text us ++ (z ++ x)) (sym (string_ends k s));
    }

-- If a text ends a string, a character or escape followed by the text ends a string too.
row_up : (k : Kind) (t r : List ℕ) → is_string k ≡ true → StrictFront k t r → ClosesUnits k r → ClosesUnits k t
row_up k t r s f c =
    let rest : List ℕ = strict_closer k ++ c.suffix in
    let us : List StrictUnit = c.units in
    let At : List ℕ → Type 0 = λ z. MayEnd f.unit z in
    record {
      units = f.unit ∷ us;
      suffix = c.suffix;
      count = string_count k (f.unit ∷ us) s;
      each = and_from (is_strict_unit k f.unit) (list_all (is_strict_unit k) us) f.is_unit c.each;
      blanks_end = blanks_cons f.unit us (may_end_front f.unit (flat_map strict_text us) rest
          (subst At c.text_is f.may_end)) c.blanks_end;
      is_suffix = c.is_suffix;
      text_is = f.text_is ∙ ap (λ z. strict_text f.unit ++ z) c.text_is
          ∙ sym (append_assoc (strict_text f.unit) (flat_map strict_text us) rest);
    }

-- Strings are quoted literals.
pub quoted_string : (k : Kind) → is_string k ≡ true → HasStrictUnits k
quoted_string k h = string_count k (Itself 0 ∷ []) h

-- Each iteration of the loop over characters and escapes preserves the loop's invariant: the remaining text ends a string if
-- and only if the whole text does.
pub units_step : (k : Kind) (t r s : List ℕ) → is_string k ≡ true → unit_rest k t ≡ Some r
    → (ClosesUnits k t ↔ ClosesUnits k s) → ClosesUnits k r ↔ ClosesUnits k s
units_step k t r s h e same = (
  λ c. same.0 (row_up k t r h (unit_rest_sound k t r (quoted_string k h) e) c),
  λ c. let d = same.1 c in row_down k t r d.suffix d.units h e d.each d.blanks_end d.is_suffix
      (string_text k t d.suffix d.units h d.text_is),
)

-- ---- sequences of unescaped characters

abbrev pub is_bare : Kind → ℕ → Bool
is_bare k c = is_strict_unit k (Itself c)

-- A kind of string isn't `Char`, the kind of character literals.
pub no_char : (k : Kind) → is_string k ≡ true → k ≡ Char → ⊥
no_char k h e = both_ways (is_string k) (ap is_string e) h

pub bare_run : (k : Kind) (run : List ℕ) → is_string k ≡ true → list_all (is_plain k) run ≡ true
    → list_all (is_bare k) run ≡ true
bare_run k [] h each = refl
bare_run k (c ∷ cs) h each =
    let b = and_parts (is_plain k c) (list_all (is_plain k) cs) each in
    and_from (is_bare k c) (list_all (is_bare k) cs) (sym (plain_is_bare k c (no_char k h)) ∙ b.0) (bare_run k cs h b.1)

-- If a text ends a string and begins with no character or escape, it is a closing quote and a suffix.
stuck_down : (k : Kind) (t x : List ℕ) (us : List StrictUnit) → is_string k ≡ true → unit_rest k t ≡ None
    → list_all (is_strict_unit k) us ≡ true → BlanksEnd us → IsStrictSuffix x → t ≡ flat_map strict_text us ++ (34 ∷ x)
    → ends_quoted 34 t ≡ true
stuck_down k t x [] s h each b i e = ap (ends_quoted 34) e ∙ quote_complete 34 x refl i
stuck_down k t x (u ∷ us) s h each b i e = absurd (let n : None ≡ Some (flat_map strict_text us ++ (34 ∷ x)) = sym h
    ∙ row_after k u us 34 x t each b refl e in (cc))

-- Where the loop over characters and escapes stops, a closing quote and a suffix follow if and only if the whole text ends a
-- string.
pub units_end : (k : Kind) (b : Bool) (t s : List ℕ) → is_string k ≡ true → unit_rest k t ≡ None
    → (ClosesUnits k t ↔ ClosesUnits k s) → b ≡ ends_quoted 34 t → IsTrue b ↔ ClosesUnits k s
units_end k b t s h e same is = (
  λ y. same.0 (let q = quote_sound 34 t (sym is ∙ y) in record {
    units = [];
    suffix = q.0;
    count = string_count k [] h;
    each = refl;
    blanks_end = tt;
    is_suffix = q.1;
    text_is = q.2 ∙ ap (λ z. z ++ q.0) (sym (string_ends k h));
  }),
  λ c. let d = same.1 c in is ∙ stuck_down k t d.suffix d.units h e d.each d.blanks_end d.is_suffix
      (string_text k t d.suffix d.units h d.text_is),
)

-- ---- one character or escape

-- In a character or byte literal, `unit_rest` skips the one character or escape, up to the closing quote.
one_after : (k : Kind) (t : List ℕ) (c : ClosesUnits k t) → is_single k ≡ true → unit_rest k t ≡ Some (39 ∷ c.suffix)
one_after k t c s =
    let o = one_unit c.units (single_length k c.units s c.count) in
    let All : List StrictUnit → Type 0 = λ us. list_all (is_strict_unit k) us ≡ true in
    let End : List StrictUnit → Type 0 = λ us. BlanksEnd us in
    row_after k o.0 [] 39 c.suffix t (subst All o.1 c.each) (subst End o.1 c.blanks_end) refl
    (c.text_is ∙ ap (λ z. flat_map strict_text c.units ++ (z ++ c.suffix)) (single_ends k s)
    ∙ ap (λ us. flat_map strict_text us ++ (39 ∷ c.suffix)) o.1)

-- Character and byte literals are quoted literals.
pub quoted_single : (k : Kind) → is_single k ≡ true → HasStrictUnits k
quoted_single k h = single_count k (Itself 0) h

-- One character or escape, a quote and a suffix end a character or byte literal.
one_closes : (k : Kind) (t r x : List ℕ) → is_single k ≡ true → StrictFront k t r → IsStrictSuffix x → r ≡ 39 ∷ x
    → ClosesUnits k t
one_closes k t r x s f i e = record {
  units = f.unit ∷ [];
  suffix = x;
  count = single_count k f.unit s;
  each = and_from (is_strict_unit k f.unit) true f.is_unit refl;
  blanks_end = blanks_cons f.unit [] (may_end_front f.unit [] r f.may_end) tt;
  is_suffix = i;
  text_is = f.text_is ∙ ap (λ z. strict_text f.unit ++ z) (e ∙ ap (λ z. z ++ x) (sym (single_ends k s)))
      ∙ ap (λ z. z ++ (strict_closer k ++ x)) (sym (append-nil (strict_text f.unit)));
}

-- A text ends a character or byte literal if and only if a quote and a suffix follow its character or escape.
pub one_end : (k : Kind) (b : Bool) (t r : List ℕ) → is_single k ≡ true → unit_rest k t ≡ Some r → b ≡ ends_quoted 39 r
    → IsTrue b ↔ ClosesUnits k t
one_end k b t r s e is = (
  λ y. let q = quote_sound 39 r (sym is ∙ y) in one_closes k t r q.0 s (unit_rest_sound k t r (quoted_single k s) e) q.1
      q.2,
  λ c.
      let same : Some r ≡ Some (39 ∷ c.suffix) = sym e ∙ one_after k t c s in
      let rest : r ≡ 39 ∷ c.suffix = cc in
      is ∙ ap (ends_quoted 39) rest ∙ quote_complete 39 c.suffix refl c.is_suffix,
)

-- If the text begins with no character or escape, it doesn't end a character or byte literal.
pub one_none : (k : Kind) (t : List ℕ) → is_single k ≡ true → unit_rest k t ≡ None → IsTrue false ↔ ClosesUnits k t
one_none k t s e = (
  λ y. absurd (both_ways true (sym y) refl),
  λ c. let n : None ≡ Some (39 ∷ c.suffix) = sym e
      ∙ one_after k t c s in absurd (cc),
)
