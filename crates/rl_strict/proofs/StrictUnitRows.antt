-- Sequences of characters and escapes at the beginning of a text.
use Rattle.rl_strict.proofs.Names.{◌≡◌, ℕ, Bool, true, false, List, [], ◌∷◌, ◌++◌, refl, sym, ap, subst, ◌∙◌, append-nil, append_assoc, and_from, and_parts, flat_map, list_all, list_all-append, flat_map-append, ◌↔◌, Kind, first_passes, is_string, StrictUnit, Itself, LineBreak, strict_text, is_dropped_blank, is_strict_unit, BeginsStrictUnits, BreakEnds, BreaksEnd, ClosesUnits}
use Rattle.rl_strict.proofs.StrictRowLemmas.{units_step}
use Rattle.rl_strict.proofs.StrictUnitLemmas.{StrictFront, unit_rest_complete}

-- ---- escaped line ends before other texts

-- Let the first character of `b` fail a test whenever the first character of `a` fails it. Then the first character of `xs
-- ++ b` fails the test whenever the first character of `xs ++ a` fails it.
seam : (test : ℕ → Bool) (xs a b : List ℕ) → (first_passes test a ≡ false → first_passes test b ≡ false)
    → first_passes test (xs ++ a) ≡ false → first_passes test (xs ++ b) ≡ false
seam test [] a b f h = f h
seam test (x ∷ xs) a b f h = h

break_to : (u : StrictUnit) (xs a b : List ℕ) → (first_passes is_dropped_blank a ≡ false
    → first_passes is_dropped_blank b ≡ false) → BreakEnds u (xs ++ a) → BreakEnds u (xs ++ b)
break_to (LineBreak blanks) xs a b f h = seam is_dropped_blank xs a b f h
break_to other xs a b f h = tt

pub breaks_to : (us : List StrictUnit) (a b : List ℕ) → (first_passes is_dropped_blank a ≡ false
    → first_passes is_dropped_blank b ≡ false) → BreaksEnd us a → BreaksEnd us b
breaks_to [] a b f h = tt
breaks_to (u ∷ us) a b f h = (break_to u (flat_map strict_text us) a b f h.0, breaks_to us a b f h.1)

-- ---- two sequences of characters and escapes, one after the other

breaks_join : (us vs : List StrictUnit) (b c : List ℕ) → b ≡ flat_map strict_text vs ++ c → BreaksEnd us b
    → BreaksEnd vs c → BreaksEnd (us ++ vs) c
breaks_join [] vs b c e h k = k
breaks_join (u ∷ us) vs b c e h k = (
  subst (BreakEnds u) (ap (λ z. flat_map strict_text us ++ z) e
      ∙ sym (append_assoc (flat_map strict_text us) (flat_map strict_text vs) c)
      ∙ ap (λ z. z ++ c) (sym (flat_map-append strict_text us vs))) h.0,
  breaks_join us vs b c e h.1 k,
)

pub row_none : (k : Kind) (t : List ℕ) → BeginsStrictUnits k t t
row_none k t = record { units = []; each = refl; ends = tt; text_is = refl }

pub row_join : (k : Kind) (a b c : List ℕ) → BeginsStrictUnits k a b → BeginsStrictUnits k b c → BeginsStrictUnits k a c
row_join k a b c r s = record {
  units = r.units ++ s.units;
  each = list_all-append (is_strict_unit k) r.units s.units
      ∙ and_from (list_all (is_strict_unit k) r.units) (list_all (is_strict_unit k) s.units) r.each s.each;
  ends = breaks_join r.units s.units b c s.text_is r.ends s.ends;
  text_is = r.text_is ∙ ap (λ z. flat_map strict_text r.units ++ z) s.text_is
      ∙ sym (append_assoc (flat_map strict_text r.units) (flat_map strict_text s.units) c)
      ∙ ap (λ z. z ++ c) (sym (flat_map-append strict_text r.units s.units));
}

-- A sequence of characters and escapes, with one more character or escape after it, is a sequence of characters and escapes.
pub row_unit : (k : Kind) (a b c : List ℕ) → BeginsStrictUnits k a b → StrictFront k b c → BeginsStrictUnits k a c
row_unit k a b c r f = row_join k a b c r (record {
  units = f.unit ∷ [];
  each = and_from (is_strict_unit k f.unit) true f.is_unit refl;
  ends = (f.may_end, tt);
  text_is = f.text_is ∙ ap (λ z. z ++ c) (sym (append-nil (strict_text f.unit)));
})

-- Unescaped characters that the kind allows are a sequence of characters and escapes.
itself_row : (k : Kind) (run c : List ℕ) → list_all (λ z. is_strict_unit k (Itself z)) run ≡ true
    → BeginsStrictUnits k (run ++ c) c
itself_row k [] c h = row_none k c
itself_row k (x ∷ xs) c h =
    let p = and_parts (is_strict_unit k (Itself x)) (list_all (λ z. is_strict_unit k (Itself z)) xs) h in
    let r = itself_row k xs c p.1 in
    record {
      units = Itself x ∷ r.units;
      each = and_from (is_strict_unit k (Itself x)) (list_all (is_strict_unit k) r.units) p.0 r.each;
      ends = (tt, r.ends);
      text_is = ap (λ z. x ∷ z) r.text_is;
    }

pub row_run : (k : Kind) (a b c : List ℕ) (run : List ℕ) → BeginsStrictUnits k a b → b ≡ run ++ c
    → list_all (λ z. is_strict_unit k (Itself z)) run ≡ true → BeginsStrictUnits k a c
row_run k a b c run r e h = row_join k a b c r (subst (λ z. BeginsStrictUnits k z c) (sym e) (itself_row k run c h))

-- ---- the text after a sequence ends the string if and only if the whole text does

pub row_closes : (k : Kind) (us : List StrictUnit) (z : List ℕ) → is_string k ≡ true → list_all (is_strict_unit k) us
    ≡ true → BreaksEnd us z → ClosesUnits k z ↔ ClosesUnits k (flat_map strict_text us ++ z)
row_closes k [] z s each ends = ((λ c. c), (λ c. c))
row_closes k (u ∷ us) z s each ends =
    let p = and_parts (is_strict_unit k u) (list_all (is_strict_unit k) us) each in
    let rest : List ℕ = flat_map strict_text us ++ z in
    let whole : List ℕ = strict_text u ++ rest in
    let more = row_closes k us z s p.1 ends.1 in
    let step = units_step k whole rest whole s (unit_rest_complete k u rest p.0 ends.0) ((λ c. c), (λ c. c)) in
    let same : whole ≡ flat_map strict_text (u ∷ us) ++ z = sym
    (append_assoc (strict_text u) (flat_map strict_text us) z) in (
      λ c. subst (ClosesUnits k) same (step.0 (more.0 c)),
      λ c. more.1 (step.1 (subst (ClosesUnits k) (sym same) c)),
    )
