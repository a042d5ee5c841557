-- The flaws of strings with escapes and of character and byte literals, in Rust's grammar.
use Rattle.rl_strict.proofs.Names.{◌≡◌, ◌≢◌, ℕ, true, false, ◌==◌, List, [], ◌∷◌, ◌++◌, Some, None, refl, sym, ap, subst, ◌∙◌, inl, inr, append_assoc, both_ways, eqb-true, flat_map, AllByRecursion, false_from_ne_true, IsScalar, Kind, Byte, Char, first_passes, is_single, is_string, StrictUnit, LineBreak, strict_text, is_dropped_blank, is_strict_unit, and_left, FlawKind, Unclosed, TwoCharacters, CookedForm, SingleForm, IsCompletable, StopsBefore, BeginsStrictUnit, BeginsStrictUnits, BreakEnds, HasNoStrictUnit, suffix_piece, ClosesForm, ClosesUnits, ends_quoted, is_strict_suffix, unit_rest, strict_unit_flaw_at, FoundFlaw, found_flaw, goes_on, end_flaw_at}
use Rattle.rl_strict.proofs.StrictRowLemmas.{one_end, one_none, quote_stops, quoted_single, units_end, units_step}
use Rattle.rl_strict.proofs.StrictSuffixFlaws.{Closer, FlawInside, SuffixSpoiled, closed_flaw}
use Rattle.rl_strict.proofs.StrictUnitFlaws.{HasStrictUnitFlaw, IsUnitText, strict_unit_spoils}
use Rattle.rl_strict.proofs.StrictUnitLemmas.{StrictFront, unit_rest_complete, unit_rest_sound}
use Rattle.rl_strict.proofs.StrictUnitRows.{breaks_to, row_closes}

-- ---- characters and escapes, in the definitions and in the proofs

pub front_unit : (k : Kind) (t r : List ℕ) → StrictFront k t r → BeginsStrictUnit k t r
front_unit k t r f = record { unit = f.unit; is_unit = f.is_unit; ends = f.may_end; text_is = f.text_is }

-- If `unit_rest` returns `None`, the text begins with no valid character or escape.
pub no_unit : (k : Kind) (t : List ℕ) → unit_rest k t ≡ None → HasNoStrictUnit k t
no_unit k t none r u =
    let n : None ≡ Some r = sym none ∙ ap (unit_rest k) u.text_is ∙ unit_rest_complete k u.unit r u.is_unit u.ends in
    absurd (cc)

-- If a text isn't the character `q` followed by another text, it doesn't begin with `q`.
pub no_front : (q : ℕ) (t : List ℕ) → ((x : List ℕ) → t ≢ q ∷ x) → first_passes (λ c. c == q) t ≡ false
no_front q [] n = refl
no_front q (c ∷ cs) n = false_from_ne_true (c == q) (λ h. n cs (ap (λ z. z ∷ cs) (eqb-true c q h)))

-- If a text doesn't begin with the closing quote, it isn't the closing quote and a suffix.
pub unquoted_ends : (q : ℕ) (t : List ℕ) → first_passes (λ c. c == q) t ≡ false → ends_quoted q t ≡ false
unquoted_ends q [] n = refl
unquoted_ends q (c ∷ cs) n = and_left (c == q) (is_strict_suffix cs) n

-- ---- a closed string

-- A closing quote and a suffix are the end of a string.
pub quote_closes : (k : Kind) (t : List ℕ) → is_string k ≡ true → unit_rest k t ≡ None → ends_quoted 34 t ≡ true
    → ClosesUnits k t
quote_closes k t s none h = (units_end k (ends_quoted 34 t) t t s none ((λ c. c), (λ c. c)) refl).0 h

closed_quote : (k : Kind) (t : List ℕ) → is_string k ≡ true → unit_rest k t ≡ None → ClosesUnits k t → ends_quoted 34 t
    ≡ true
closed_quote k t s none c = (units_end k (ends_quoted 34 t) t t s none ((λ c. c), (λ c. c)) refl).1 c

string_closer : (k : Kind) (t closing suffix : List ℕ) → is_string k ≡ true → (r : BeginsStrictUnits k t closing)
    → closing ≡ 34 ∷ suffix → Closer CookedForm k
string_closer k t closing suffix s r e =
    let front : List ℕ = flat_map strict_text r.units in
    let moves = λ (x : List ℕ). row_closes k r.units (34 ∷ x) s r.each
    (breaks_to r.units closing (34 ∷ x) (λ h. refl) r.ends) in
    record {
      before = front ++ (34 ∷ []);
      good = λ x h. subst (ClosesUnits k) (sym (append_assoc front (34 ∷ []) x)) ((moves x).0
          (quote_closes k (34 ∷ x) s (quote_stops k x s) h));
      bad = λ x h c. both_ways (is_strict_suffix x) h (closed_quote k (34 ∷ x) s (quote_stops k x s)
          ((moves x).1 (subst (ClosesUnits k) (append_assoc front (34 ∷ []) x) c)));
    }

cooked_text : (k : Kind) (t closing suffix : List ℕ) (r : BeginsStrictUnits k t closing) → closing ≡ 34 ∷ suffix → t
    ≡ (flat_map strict_text r.units ++ (34 ∷ [])) ++ suffix
cooked_text k t closing suffix r e = r.text_is ∙ ap (λ z. flat_map strict_text r.units ++ z) e
    ∙ sym (append_assoc (flat_map strict_text r.units) (34 ∷ []) suffix)

-- Characters and escapes, a closing quote and a suffix are the end of a string.
pub cooked_closes : (k : Kind) (t closing suffix : List ℕ) → is_string k ≡ true → BeginsStrictUnits k t closing
    → closing ≡ 34 ∷ suffix → is_strict_suffix suffix ≡ true → ClosesUnits k t
unfolding string_closer
cooked_closes k t closing suffix s r e h = subst (ClosesUnits k) (sym (cooked_text k t closing suffix r e))
    ((string_closer k t closing suffix s r e).good suffix h)

pub cooked_unclosed : (k : Kind) (t closing suffix : List ℕ) → is_string k ≡ true → BeginsStrictUnits k t closing
    → closing ≡ 34 ∷ suffix → is_strict_suffix suffix ≡ false → ClosesUnits k t → ⊥
unfolding string_closer
cooked_unclosed k t closing suffix s r e h c = (string_closer k t closing suffix s r e).bad suffix h
    (subst (ClosesUnits k) (cooked_text k t closing suffix r e) c)

pub string_closed : (k : Kind) (f : FlawKind) (t closing suffix piece rest : List ℕ) → is_string k ≡ true
    → BeginsStrictUnits k t closing → closing ≡ 34 ∷ suffix → SuffixSpoiled CookedForm f suffix rest
    → piece ≡ suffix_piece f closing suffix → FlawInside CookedForm k f t piece rest
unfolding string_closer
string_closed k f t closing suffix piece rest s r e found spoiled =
    let c = string_closer k t closing suffix s r e in
    closed_flaw CookedForm k f t closing suffix piece rest c
    (r.text_is ∙ ap (λ z. flat_map strict_text r.units ++ z) e
    ∙ sym (append_assoc (flat_map strict_text r.units) (34 ∷ []) suffix)) (r, e) found spoiled

-- ---- an unclosed string

-- A text of Unicode scalar values, with one more scalar value at its end, is a text of Unicode scalar values.
one_more : (q : ℕ) (e : List ℕ) → IsScalar q → AllByRecursion IsScalar e → AllByRecursion IsScalar (e ++ (q ∷ []))
one_more q [] s a = (s, tt)
one_more q (c ∷ cs) s a = (a.0, one_more q cs s a.1)

pub string_open : (k : Kind) (f : FlawKind) (t piece rest : List ℕ) → is_string k ≡ true → BeginsStrictUnits k t piece
    → unit_rest k piece ≡ None → ((x : List ℕ) → piece ≢ 34 ∷ x) → found_flaw f rest
    ≡ strict_unit_flaw_at k piece → FlawInside CookedForm k f t piece rest
unfolding is_strict_suffix
string_open k f t piece rest s r none unquoted same =
    let no_quote = no_front 34 piece unquoted in
    let h : HasStrictUnitFlaw k piece (f, rest) = subst (HasStrictUnitFlaw k piece) (sym same)
    (strict_unit_spoils k piece (inl s) (λ y. no_quote) none) in
    let st = h.stops in
    let before : List ℕ = flat_map strict_text r.units in
    record {
      stops = record {
        front = before ++ st.front;
        text_is = r.text_is ∙ ap (λ z. before ++ z) st.text_is ∙ sym (append_assoc before st.front rest);
        begins = begins st.front st.text_is st.begins;
        stuck = λ c cs e at y.
            let z : List ℕ = st.front ++ (c ∷ e) in
            let opened = goes_on is_dropped_blank st.front rest piece c cs e st.text_is at in
            let inner = (row_closes k r.units z s r.each (breaks_to r.units piece z opened r.ends)).1
            (subst (ClosesUnits k) (append_assoc before st.front (c ∷ e)) y) in
            both_ways (ends_quoted 34 z)
            (unquoted_ends 34 z (goes_on (λ d. d == 34) st.front rest piece c cs e st.text_is at no_quote))
            (closed_quote k z s (st.stuck c cs e at) inner);
      };
      has = inl (r, no_unit k piece none, h.has, no_quote);
    }
  where
    quoted : (z : List ℕ) → (first_passes is_dropped_blank piece ≡ false → first_passes is_dropped_blank z ≡ false)
        → ClosesUnits k z → ClosesUnits k (flat_map strict_text r.units ++ z)
    quoted z opened c = (row_closes k r.units z s r.each (breaks_to r.units piece z opened r.ends)).0 c

    -- The text before the flaw can be completed to the end of a string. An incomplete escape is completed first. Then a
    -- closing quote is added.
    begins : (front : List ℕ) → piece ≡ front ++ rest → IsCompletable (IsUnitText k) front
        → IsCompletable (ClosesUnits k) (flat_map strict_text r.units ++ front)
    begins [] text done = record {
      ending = 34 ∷ [];
      are_characters = (refl, tt);
      is_taken = subst (ClosesUnits k) (sym (append_assoc (flat_map strict_text r.units) [] (34 ∷ [])))
          (quoted (34 ∷ []) (λ b. refl) (quote_closes k (34 ∷ []) s (quote_stops k [] s) refl));
    }
    begins (x ∷ f) text done =
        let closing : List ℕ = done.ending ++ (34 ∷ []) in
        let unit : unit_rest k ((x ∷ f) ++ closing) ≡ Some (34 ∷ []) = ap (unit_rest k)
        (sym (append_assoc (x ∷ f) done.ending (34 ∷ []))) ∙ done.is_taken (34 ∷ []) in
        record {
          ending = closing;
          are_characters = one_more 34 done.ending refl done.are_characters;
          is_taken = subst (ClosesUnits k) (sym (append_assoc (flat_map strict_text r.units) (x ∷ f) closing))
              (quoted ((x ∷ f) ++ closing) (λ b. sym (ap (first_passes is_dropped_blank) text) ∙ b)
              ((units_step k ((x ∷ f) ++ closing) (34 ∷ []) ((x ∷ f) ++ closing) s unit ((λ c. c), (λ c. c))).0
              (quote_closes k (34 ∷ []) s (quote_stops k [] s) refl)));
        }

-- ---- a character or byte literal

-- In a character or byte literal, the end of a character or escape doesn't depend on the text after it, since no escape is a
-- line end.
single_ends : (k : Kind) (u : StrictUnit) (r : List ℕ) → is_single k ≡ true → is_strict_unit k u ≡ true → BreakEnds u r
single_ends Byte (LineBreak blanks) r s h = absurd (cc)
single_ends Char (LineBreak blanks) r s h = absurd (cc)
single_ends k (LineBreak blanks) r s h = absurd (cc)
single_ends k other r s h = tt

-- In a character or byte literal, `unit_rest` returns the text after a valid character or escape.
single_quote : (k : Kind) (u : StrictUnit) (r : List ℕ) → is_single k ≡ true → is_strict_unit k u ≡ true
    → unit_rest k (strict_text u ++ r) ≡ Some r
single_quote k u r s h = unit_rest_complete k u r h (single_ends k u r s h)

single_good : (k : Kind) (u : StrictUnit) (r : List ℕ) → is_single k ≡ true → is_strict_unit k u ≡ true
    → ends_quoted 39 r ≡ true → ClosesUnits k (strict_text u ++ r)
single_good k u r s h q = (one_end k (ends_quoted 39 r) (strict_text u ++ r) r s (single_quote k u r s h) refl).0 q

single_bad : (k : Kind) (u : StrictUnit) (r : List ℕ) → is_single k ≡ true → is_strict_unit k u ≡ true → ends_quoted 39
    r ≡ false → ClosesUnits k (strict_text u ++ r) → ⊥
single_bad k u r s h q c = both_ways (ends_quoted 39 r) q
    ((one_end k (ends_quoted 39 r) (strict_text u ++ r) r s (single_quote k u r s h) refl).1 c)

single_closer : (k : Kind) (u : StrictUnit) → is_single k ≡ true → is_strict_unit k u ≡ true → Closer SingleForm k
single_closer k u s is =
    let text : List ℕ = strict_text u in
    record {
      before = text ++ (39 ∷ []);
      good = λ x h. subst (ClosesUnits k) (sym (append_assoc text (39 ∷ []) x)) (single_good k u (39 ∷ x) s is h);
      bad = λ x h c. single_bad k u (39 ∷ x) s is h (subst (ClosesUnits k) (append_assoc text (39 ∷ []) x) c);
    }

pub single_closed : (k : Kind) (f : FlawKind) (t closing suffix piece rest : List ℕ) → is_single k ≡ true → unit_rest k
    t ≡ Some closing → closing ≡ 39 ∷ suffix → SuffixSpoiled SingleForm f suffix rest → piece ≡ suffix_piece f closing
    suffix → FlawInside SingleForm k f t piece rest
unfolding single_closer
single_closed k f t closing suffix piece rest s h e found spoiled =
    let u = unit_rest_sound k t closing (quoted_single k s) h in
    closed_flaw SingleForm k f t closing suffix piece rest (single_closer k u.unit s u.is_unit)
    (u.text_is ∙ ap (λ z. strict_text u.unit ++ z) e ∙ sym (append_assoc (strict_text u.unit) (39 ∷ []) suffix))
    (front_unit k t closing u, e) found spoiled

-- If no quote follows the one character or escape of a character or byte literal, the longest prefix that can be completed
-- ends after this character or escape.
single_unquoted : (k : Kind) (t rest : List ℕ) → is_single k ≡ true → StrictFront k t rest
    → first_passes (λ c. c == 39) rest ≡ false → StopsBefore (ClosesForm SingleForm k) t rest
unfolding is_strict_suffix
single_unquoted k t rest s u no_quote = record {
  front = strict_text u.unit;
  text_is = u.text_is;
  begins = record { ending = 39 ∷ []; are_characters = (refl, tt); is_taken = single_good k u.unit (39 ∷ []) s u.is_unit refl };
  stuck = λ c cs e h y. single_bad k u.unit (c ∷ e) s u.is_unit (and_left (c == 39) (is_strict_suffix e)
      (goes_on (λ d. d == 39) [] rest rest c cs e refl h no_quote)) y;
}

pub single_unclosed : (k : Kind) (f : FlawKind) (t closing piece rest : List ℕ) → is_single k ≡ true → unit_rest k t
    ≡ Some closing → ((x : List ℕ) → closing ≢ 39 ∷ x) → found_flaw f rest
    ≡ end_flaw_at Unclosed TwoCharacters closing → piece ≡ t → FlawInside SingleForm k f t piece rest
single_unclosed k f t closing piece rest s h none same whole =
    let u = unit_rest_sound k t closing (quoted_single k s) h in
    let unquoted = no_front 39 closing none in
    let stops = single_unquoted k t closing s u unquoted in
    subst (λ (z : FoundFlaw). FlawInside SingleForm k z.0 t piece z.1) (sym same)
    (go closing (front_unit k t closing u) stops unquoted)
  where
    go : (r : List ℕ) → BeginsStrictUnit k t r → StopsBefore (ClosesForm SingleForm k) t r → first_passes (λ d. d == 39)
        r ≡ false → FlawInside SingleForm k (end_flaw_at Unclosed TwoCharacters r).0 t piece (end_flaw_at Unclosed
        TwoCharacters r).1
    go [] u stops q = record { stops = stops; has = inl (inr (u, refl), whole) }
    go (c ∷ cs) u stops q = record { stops = stops; has = inl (inr (u, (λ n. absurd (cc)), q), whole) }

-- If the content of a character or byte literal begins with no valid character or escape, the literal has the flaw that the
-- code returns.
pub single_open : (k : Kind) (f : FlawKind) (t piece rest : List ℕ) → is_single k ≡ true → unit_rest k t ≡ None
    → found_flaw f rest ≡ strict_unit_flaw_at k t → piece ≡ t → FlawInside SingleForm k f t piece rest
unfolding is_strict_suffix
single_open k f t piece rest s none same whole =
    let h : HasStrictUnitFlaw k t (f, rest) = subst (HasStrictUnitFlaw k t) (sym same)
    (strict_unit_spoils k t (inr s) (λ y. absurd (not_both k y s)) none) in
    let st = h.stops in
    let closing : List ℕ = st.begins.ending ++ (39 ∷ []) in
    record {
      stops = record {
        front = st.front;
        text_is = st.text_is;
        begins = record {
          ending = closing;
          are_characters = one_more 39 st.begins.ending refl st.begins.are_characters;
          is_taken = (one_end k true (st.front ++ closing) (39 ∷ []) s (ap (unit_rest k)
              (sym (append_assoc st.front st.begins.ending (39 ∷ []))) ∙ st.begins.is_taken (39 ∷ [])) refl).0 refl;
        };
        stuck = λ c cs e at y.
            let z : List ℕ = st.front ++ (c ∷ e) in
            both_ways false refl ((one_none k z s (st.stuck c cs e at)).1 y);
      };
      has = inl (inl (no_unit k t none, h.has), whole);
    }
  where
    not_both : (k : Kind) → is_string k ≡ true → is_single k ≡ true → ⊥
    not_both Byte a b = absurd (cc)
    not_both kind a b = absurd (cc)
