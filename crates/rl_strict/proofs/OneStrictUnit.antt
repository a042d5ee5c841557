-- At each position, a string with escapes has at most one kind of flaw, and so has a character or byte literal. The text to
-- show for the flaw is determined too.
use Rattle.rl_strict.proofs.Names.{◌≡◌, ℕ, ◌⊎◌, ◌&&◌, Bool, true, false, ◌==◌, cond, List, [], ◌∷◌, ◌++◌, Option, Some, None, refl, sym, ap, subst, ◌∙◌, inl, inr, append_assoc, append-nil, append_cancel_right, and_from, and_parts, both_ways, eqb-true, flat_map, list_all, Kind, first_passes, is_single, is_string, is_line_end, StrictUnit, strict_text, is_strict_unit, and_right, FlawKind, Unclosed, UnknownEscape, NoUnicode, Nul, MustEscape, NoCharacter, TwoCharacters, BadSuffix, CarriageReturn, TextAfterQuote, ExtraHash, UnderscoreSuffix, QuotedForm, CookedForm, SingleForm, BeginsStrictUnit, BeginsStrictUnits, BreaksEnd, HasNoStrictUnit, StrictCloserFlaw, StrictQuotedFlaw, StrictUnitFlaw, SuffixFlaw, form_quote, is_raw_form, suffix_piece, unit_rest, character_flaw_of, HasStrictUnits, not_both}
use Rattle.rl_strict.proofs.OneUnitFlaw.{at_end, flaw_of, must_escape, spoils}
use Rattle.rl_strict.proofs.StrictRowLemmas.{quote_stops, quoted_string}
use Rattle.rl_strict.proofs.StrictUnitLemmas.{unit_rest_complete, unit_rest_sound}
use Rattle.rl_strict.proofs.ReadQuoted.{not_string}

-- ---- one character or escape

-- The character is a CR, and the kind is a string, which can't contain it.
abbrev is_bad_return : Kind → ℕ → Bool
is_bad_return kind c = c == 13 && is_string kind

-- The kind of flaw of a character or escape. The arguments are the kind of literal, the text before the flaw, and the
-- character at the flaw.
abbrev strict_flaw_of : Kind → List ℕ → ℕ → FlawKind
strict_flaw_of kind [] c = cond (is_bad_return kind c) CarriageReturn (character_flaw_of c)
strict_flaw_of kind (a ∷ []) c = cond (is_bad_return kind c) CarriageReturn (flaw_of (a ∷ []) c)
strict_flaw_of kind front c = flaw_of front c

-- The kind of flaw `k` is the one that `strict_flaw_of` returns for the text before the flaw and the character `c` at the
-- flaw.
record Told (kind : Kind) (k : FlawKind) (t : List ℕ) (c : ℕ) (cs : List ℕ) : Type 0 where
  front : List ℕ
  text_is : t ≡ front ++ (c ∷ cs)
  kind_is : k ≡ strict_flaw_of kind front c

-- The test for a CR that a string can't contain fails in a character or byte literal.
single_return : (kind : Kind) (c : ℕ) → is_single kind ≡ true → is_bad_return kind c ≡ false
single_return kind c o = and_right (c == 13) (is_string kind) (not_string kind o)

-- In a string, the kind of flaw of a CR isn't `MustEscape`, which `character_flaw_of` returns for a CR.
no_must : (kind : Kind) (k : FlawKind) (t : List ℕ) (c : ℕ) (cs : List ℕ) → StrictUnitFlaw kind k t (c ∷ cs)
    → is_bad_return kind c ≡ true → k ≡ character_flaw_of c → ⊥
no_must kind k t c cs h bad e =
    let p = and_parts (c == 13) (is_string kind) bad in
    let is : k ≡ MustEscape = e ∙ ap character_flaw_of (eqb-true c 13 p.0) in
    not_both kind p.1 (subst (λ z. StrictUnitFlaw kind z t (c ∷ cs)) is h).0

abbrev after_backslash : ℕ → FlawKind
after_backslash c = cond (c == 117) NoUnicode (cond (c == 48) Nul UnknownEscape)

no_unknown : (kind : Kind) (k : FlawKind) (t : List ℕ) (a c : ℕ) (cs : List ℕ) → StrictUnitFlaw kind k t (c ∷ cs)
    → is_bad_return kind c ≡ true → k ≡ flaw_of (a ∷ []) c → ⊥
no_unknown kind k t a c cs h bad e =
    let is : k ≡ UnknownEscape = e ∙ ap after_backslash (eqb-true c 13 p.0) in
    unknown (subst (λ z. StrictUnitFlaw kind z t (c ∷ cs)) is h)
  where
    p : ((c == 13) ≡ true) × (is_string kind ≡ true)
    p = and_parts (c == 13) (is_string kind) bad

    unknown : StrictUnitFlaw kind UnknownEscape t (c ∷ cs) → ⊥
    unknown (text, b) =
        let same : c ≡ b.first = let r = b.rest_is in cc in
        both_ways (is_string kind && is_line_end b.first) b.no_line_end (and_from (is_string kind)
        (is_line_end b.first) p.1 (ap is_line_end (sym same ∙ eqb-true c 13 p.0)))

-- If `flaw_of` returns the kind of a flaw, `strict_flaw_of` returns it too. The two functions differ only for a CR in a
-- string.
shared_told : (kind : Kind) (k : FlawKind) (t : List ℕ) (c : ℕ) (cs : List ℕ) (front : List ℕ)
    → StrictUnitFlaw kind k t (c ∷ cs) → t ≡ front ++ (c ∷ cs) → k ≡ flaw_of front c → Told kind k t c cs
shared_told kind k t c cs [] h text e = record { front = []; text_is = text; kind_is = go (is_bad_return kind c) refl }
  where
    go : (b : Bool) → is_bad_return kind c ≡ b → k ≡ cond b CarriageReturn (character_flaw_of c)
    go true bad = absurd (no_must kind k t c cs h bad e)
    go false bad = e
shared_told kind k t c cs (a ∷ []) h text e = record { front = a ∷ []; text_is = text; kind_is = go (is_bad_return kind c) refl }
  where
    go : (b : Bool) → is_bad_return kind c ≡ b → k ≡ cond b CarriageReturn (flaw_of (a ∷ []) c)
    go true bad = absurd (no_unknown kind k t a c cs h bad e)
    go false bad = e
shared_told kind k t c cs (a ∷ b ∷ f) h text e = record { front = a ∷ b ∷ f; text_is = text; kind_is = e }

told : (kind : Kind) (k : FlawKind) (t : List ℕ) (c : ℕ) (cs : List ℕ) → StrictUnitFlaw kind k t (c ∷ cs)
    → Told kind k t c cs
told kind CarriageReturn t c cs (s, inl e, h) = record {
  front = [];
  text_is = e;
  kind_is = sym (ap (λ z. cond z CarriageReturn (character_flaw_of c)) (and_from (c == 13) (is_string kind) h s));
}
told kind CarriageReturn t c cs (s, inr e, h) = record {
  front = 92 ∷ [];
  text_is = e;
  kind_is = sym (ap (λ z. cond z CarriageReturn (flaw_of (92 ∷ []) c)) (and_from (c == 13) (is_string kind) h s));
}
told kind MustEscape t c cs (o, e, h) = record {
  front = [];
  text_is = e;
  kind_is = must_escape c h
      ∙ sym (ap (λ z. cond z CarriageReturn (character_flaw_of c)) (single_return kind c o));
}
told kind NoCharacter t c cs (o, e, h) = record {
  front = [];
  text_is = e;
  kind_is = ap character_flaw_of (sym (eqb-true c 39 h))
      ∙ sym (ap (λ z. cond z CarriageReturn (character_flaw_of c)) (single_return kind c o));
}
told kind k t c cs h = let p = spoils kind k t c cs h in shared_told kind k t c cs p.front h p.text_is p.kind_is

-- If a quoted literal's text ends inside a character or escape, the kind of flaw is `Unclosed`.
strict_end : (kind : Kind) (k : FlawKind) (t : List ℕ) → StrictUnitFlaw kind k t [] → k ≡ Unclosed
strict_end kind CarriageReturn t (s, e, h) = absurd (cc)
strict_end kind MustEscape t (s, e, h) = absurd (cc)
strict_end kind NoCharacter t (s, e, h) = absurd (cc)
strict_end kind k t h = at_end kind k t h

unit_once : (kind : Kind) (k l : FlawKind) (t rest : List ℕ) → StrictUnitFlaw kind k t rest
    → StrictUnitFlaw kind l t rest → k ≡ l
unit_once kind k l t [] p q = strict_end kind k t p ∙ sym (strict_end kind l t q)
unit_once kind k l t (c ∷ cs) p q =
    let a = told kind k t c cs p in
    let b = told kind l t c cs q in
    let same : a.front ≡ b.front = append_cancel_right a.front b.front (c ∷ cs) (sym a.text_is ∙ b.text_is) in
    a.kind_is ∙ ap (λ z. strict_flaw_of kind z c) same ∙ sym b.kind_is

-- A text that begins with a faulty character or escape ends with the text that begins at the flaw.
pub strict_unit_cut : (kind : Kind) (k : FlawKind) (t rest : List ℕ) → StrictUnitFlaw kind k t rest → (m : List ℕ)
    × (t ≡ m ++ rest)
strict_unit_cut kind k t [] h = (t, sym (append-nil t))
strict_unit_cut kind k t (c ∷ cs) h = let a = told kind k t c cs h in (a.front, a.text_is)

-- ---- sequences of characters and escapes

-- If a text begins with no valid character or escape, `unit_rest` returns `None`.
pub none_left : (k : Kind) (t : List ℕ) → HasStrictUnits k → HasNoStrictUnit k t → unit_rest k t ≡ None
none_left k t q none = go (unit_rest k t) refl
  where
    go : (o : Option (List ℕ)) → unit_rest k t ≡ o → unit_rest k t ≡ None
    go None e = e
    go (Some r) e =
        let f = unit_rest_sound k t r q e in
        absurd (none r (record { unit = f.unit; is_unit = f.is_unit; ends = f.may_end; text_is = f.text_is }))

-- If a text begins with a sequence of valid characters and escapes, `unit_rest` returns the text after the first one.
first_left : (k : Kind) (u : StrictUnit) (us : List StrictUnit) (s : List ℕ) → list_all (is_strict_unit k) (u ∷ us) ≡
    true → BreaksEnd (u ∷ us) s → unit_rest k (flat_map strict_text (u ∷ us) ++ s) ≡ Some (flat_map strict_text us ++ s)
first_left k u us s each ends =
    ap (unit_rest k) (append_assoc (strict_text u) (flat_map strict_text us) s)
    ∙ unit_rest_complete k u (flat_map strict_text us ++ s) (and_parts (is_strict_unit k u)
    (list_all (is_strict_unit k) us) each).0 ends.0

rows_meet : (k : Kind) (us ws : List StrictUnit) (s t : List ℕ) → list_all (is_strict_unit k) us ≡ true → BreaksEnd us s
    → list_all (is_strict_unit k) ws ≡ true → BreaksEnd ws t → unit_rest k s ≡ None → unit_rest k t ≡ None
    → flat_map strict_text us ++ s ≡ flat_map strict_text ws ++ t → s ≡ t
rows_meet k [] [] s t iu eu iw ew p q e = e
rows_meet k [] (w ∷ ws) s t iu eu iw ew p q e =
    let n = sym p ∙ ap (unit_rest k) e ∙ first_left k w ws t iw ew in
    absurd (cc)
rows_meet k (u ∷ us) [] s t iu eu iw ew p q e =
    let n = sym q ∙ ap (unit_rest k) (sym e) ∙ first_left k u us s iu eu in
    absurd (cc)
rows_meet k (u ∷ us) (w ∷ ws) s t iu eu iw ew p q e =
    let both : Some (flat_map strict_text us ++ s) ≡ Some (flat_map strict_text ws ++ t) = sym
    (first_left k u us s iu eu)
    ∙ ap (unit_rest k) e ∙ first_left k w ws t iw ew in
    let same : flat_map strict_text us ++ s ≡ flat_map strict_text ws ++ t = cc in
    rows_meet k us ws s t (and_parts (is_strict_unit k u) (list_all (is_strict_unit k) us) iu).1 eu.1
    (and_parts (is_strict_unit k w) (list_all (is_strict_unit k) ws) iw).1 ew.1 p q same

pub rows_once : (k : Kind) (t s r : List ℕ) → BeginsStrictUnits k t s → BeginsStrictUnits k t r → unit_rest k s ≡ None
    → unit_rest k r ≡ None → s ≡ r
rows_once k t s r a b p q = rows_meet k a.units b.units s r a.each a.ends b.each b.ends p q (sym a.text_is ∙ b.text_is)

-- If a text begins with a valid character or escape, `unit_rest` returns the text after it.
pub unit_left : (k : Kind) (t r : List ℕ) → BeginsStrictUnit k t r → unit_rest k t ≡ Some r
unit_left k t r u = ap (unit_rest k) u.text_is ∙ unit_rest_complete k u.unit r u.is_unit u.ends

-- ---- the text after a closing delimiter

-- Whether the text is empty. No text is between a closing delimiter and one more hash.
empty_front : List ℕ → Bool
empty_front [] = true
empty_front (c ∷ cs) = false

-- The kind of flaw after a closing delimiter. `front` is the text between the delimiter and the flaw. The last argument is
-- the text from the flaw on.
suffix_kind : QuotedForm → List ℕ → List ℕ → FlawKind
suffix_kind form front [] = UnderscoreSuffix
suffix_kind form front (c ∷ cs) = cond (is_raw_form form && (empty_front front && c == 35)) ExtraHash
    (cond (c == form_quote form) TextAfterQuote BadSuffix)

quote_no_hash : (form : QuotedForm) → (form_quote form == 35) ≡ false
quote_no_hash CookedForm = refl
quote_no_hash other = refl

suffix_told : (form : QuotedForm) (k : FlawKind) (front rest : List ℕ) → SuffixFlaw form k front rest → k
    ≡ suffix_kind form front rest
unfolding suffix_kind empty_front
suffix_told form ExtraHash front [] (raw, e, h) = absurd (cc)
suffix_told form ExtraHash front (c ∷ cs) (raw, e, h) = sym (ap
    (λ z. cond z ExtraHash (cond (c == form_quote form) TextAfterQuote BadSuffix))
    (and_from (is_raw_form form) (empty_front front && c == 35) raw (and_from (empty_front front) (c == 35)
    (ap empty_front e) h)))
suffix_told form TextAfterQuote front [] (f, h) = absurd (cc)
suffix_told form TextAfterQuote front (c ∷ cs) (f, h) =
    let no_hash : (c == 35) ≡ false = ap (λ z. z == 35) (eqb-true c (form_quote form) h) ∙ quote_no_hash form in
    sym (ap (λ z. cond z ExtraHash (cond (c == form_quote form) TextAfterQuote BadSuffix))
    (and_right (is_raw_form form) (empty_front front && c == 35) (and_right (empty_front front) (c == 35) no_hash))
    ∙ ap (λ z. cond z TextAfterQuote BadSuffix) h)
suffix_told form UnderscoreSuffix front [] h = refl
suffix_told form UnderscoreSuffix front (c ∷ cs) (f, h) = absurd (cc)
suffix_told form BadSuffix front [] (f, some, n, q, x) = absurd (some refl)
suffix_told form BadSuffix front (c ∷ cs) (f, some, n, q, x) = go (is_raw_form form && (empty_front front && c == 35))
    refl
  where
    empty : (front : List ℕ) → empty_front front ≡ true → front ≡ []
    empty [] h = refl
    empty (d ∷ ds) h = absurd (cc)

    go : (b : Bool) → (is_raw_form form && (empty_front front && c == 35)) ≡ b → BadSuffix
        ≡ cond b ExtraHash (cond (c == form_quote form) TextAfterQuote BadSuffix)
    go true e =
        let p = and_parts (is_raw_form form) (empty_front front && c == 35) e in
        let r = and_parts (empty_front front) (c == 35) p.1 in
        absurd (x (p.0, empty front r.0, r.1))
    go false e = sym (ap (λ z. cond z TextAfterQuote BadSuffix) q)
suffix_told form k front rest h = absurd h

-- Two flaws at one position after a closing delimiter have one kind, and one text to show.
pub suffix_once : (form : QuotedForm) (k l : FlawKind) (ca cb fa fb pa pb rest : List ℕ) → SuffixFlaw form k fa rest
    → SuffixFlaw form l fb rest → ca ≡ cb → fa ++ rest ≡ fb ++ rest → pa ≡ suffix_piece k ca (fa ++ rest) → pb
    ≡ suffix_piece l cb (fb ++ rest) → (k ≡ l) × (pa ≡ pb)
suffix_once form k l ca cb fa fb pa pb rest p q closing suffix is_a is_b =
    let front : fa ≡ fb = append_cancel_right fa fb rest suffix in
    let same : k ≡ l = suffix_told form k fa rest p ∙ ap (λ z. suffix_kind form z rest) front
    ∙ sym (suffix_told form l fb rest q) in (
      same,
      is_a ∙ ap (λ z. suffix_piece z ca (fa ++ rest)) same ∙ ap (λ z. suffix_piece l z (fa ++ rest)) closing
          ∙ ap (suffix_piece l cb) suffix ∙ sym is_b,
    )

-- The text without its first character.
tail_of : List ℕ → List ℕ
tail_of [] = []
tail_of (c ∷ cs) = cs

same_tail : (q : ℕ) (ca cb sa sb : List ℕ) → ca ≡ cb → ca ≡ q ∷ sa → cb ≡ q ∷ sb → sa ≡ sb
unfolding tail_of
same_tail q ca cb sa sb c a b = ap tail_of (sym a ∙ c ∙ b)

-- ---- strings with escapes

pub cooked_once : (kind : Kind) (k l : FlawKind) (t pa pb rest : List ℕ) → is_string kind ≡ true
    → StrictQuotedFlaw CookedForm kind k t pa rest → StrictQuotedFlaw CookedForm kind l t pb rest → (k ≡ l) × (pa ≡ pb)
cooked_once kind k l t pa pb rest s (inl a) (inl b) =
    let piece = rows_once kind t pa pb a.0 b.0 (none_left kind pa (quoted_string kind s) a.1)
    (none_left kind pb (quoted_string kind s) b.1) in
    (unit_once kind k l pb rest (subst (λ z. StrictUnitFlaw kind k z rest) piece a.2) b.2, piece)
cooked_once kind k l t pa pb rest s (inl a) (inr b) =
    let stuck : unit_rest kind b.closing ≡ None = ap (unit_rest kind) b.closed.1
    ∙ quote_stops kind (b.front ++ rest) s in
    let piece = rows_once kind t pa b.closing a.0 b.closed.0 (none_left kind pa (quoted_string kind s) a.1) stuck in
    absurd (both_ways (first_passes (λ c. c == 34) pa) a.3 (ap (first_passes (λ c. c == 34)) (piece ∙ b.closed.1)))
cooked_once kind k l t pa pb rest s (inr a) (inl b) =
    let stuck : unit_rest kind a.closing ≡ None = ap (unit_rest kind) a.closed.1
    ∙ quote_stops kind (a.front ++ rest) s in
    let piece = rows_once kind t pb a.closing b.0 a.closed.0 (none_left kind pb (quoted_string kind s) b.1) stuck in
    absurd (both_ways (first_passes (λ c. c == 34) pb) b.3 (ap (first_passes (λ c. c == 34)) (piece ∙ a.closed.1)))
cooked_once kind k l t pa pb rest s (inr a) (inr b) =
    let stuck = λ (z x : List ℕ) (e : z ≡ 34 ∷ x). ap (unit_rest kind) e ∙ quote_stops kind x s in
    let closing = rows_once kind t a.closing b.closing a.closed.0 b.closed.0
    (stuck a.closing (a.front ++ rest) a.closed.1) (stuck b.closing (b.front ++ rest) b.closed.1) in
    suffix_once CookedForm k l a.closing b.closing a.front b.front pa pb rest a.spoils b.spoils closing
    (same_tail 34 a.closing b.closing (a.front ++ rest) (b.front ++ rest) closing a.closed.1 b.closed.1) a.piece_is
    b.piece_is

-- ---- character and byte literals

-- At most one text follows the character or escape at the beginning of a text.
left_once : (k : Kind) (t r s : List ℕ) → BeginsStrictUnit k t r → BeginsStrictUnit k t s → r ≡ s
left_once k t r s a b =
    let both : Some r ≡ Some s = sym (unit_left k t r a) ∙ unit_left k t s b in
    cc

closer_unit : (kind : Kind) (k : FlawKind) (t rest : List ℕ) → StrictCloserFlaw kind k t rest
    → BeginsStrictUnit kind t rest × (first_passes (λ c. c == 39) rest ≡ false)
closer_unit kind Unclosed t rest (u, e) = (u, ap (first_passes (λ c. c == 39)) e)
closer_unit kind TwoCharacters t rest (u, some, n) = (u, n)
closer_unit kind k t rest h = absurd h

closer_kind : List ℕ → FlawKind
closer_kind [] = Unclosed
closer_kind (c ∷ cs) = TwoCharacters

closer_told : (kind : Kind) (k : FlawKind) (t rest : List ℕ) → StrictCloserFlaw kind k t rest → k ≡ closer_kind rest
unfolding closer_kind
closer_told kind Unclosed t rest (u, e) = sym (ap closer_kind e)
closer_told kind TwoCharacters t [] (u, some, n) = absurd (some refl)
closer_told kind TwoCharacters t (c ∷ cs) h = refl
closer_told kind k t rest h = absurd h

single_kind_once : (kind : Kind) (k l : FlawKind) (t rest : List ℕ) → ((HasNoStrictUnit kind t
    × StrictUnitFlaw kind k t rest) ⊎ StrictCloserFlaw kind k t rest) → ((HasNoStrictUnit kind t
    × StrictUnitFlaw kind l t rest) ⊎ StrictCloserFlaw kind l t rest) → k ≡ l
single_kind_once kind k l t rest (inl a) (inl b) = unit_once kind k l t rest a.1 b.1
single_kind_once kind k l t rest (inl a) (inr b) = absurd (a.0 rest (closer_unit kind l t rest b).0)
single_kind_once kind k l t rest (inr a) (inl b) = absurd (b.0 rest (closer_unit kind k t rest a).0)
single_kind_once kind k l t rest (inr a) (inr b) = closer_told kind k t rest a ∙ sym (closer_told kind l t rest b)

single_not_both : (kind : Kind) (k l : FlawKind) (t rest closing suffix : List ℕ) → ((HasNoStrictUnit kind t
    × StrictUnitFlaw kind k t rest) ⊎ StrictCloserFlaw kind k t rest) → BeginsStrictUnit kind t closing → closing
    ≡ 39 ∷ suffix → ⊥
single_not_both kind k l t rest closing suffix (inl a) u e = a.0 closing u
single_not_both kind k l t rest closing suffix (inr b) u e =
    let c = closer_unit kind k t rest b in
    both_ways (first_passes (λ c. c == 39) rest) c.1 (ap (first_passes (λ c. c == 39))
    (left_once kind t rest closing c.0 u ∙ e))

pub single_once : (kind : Kind) (k l : FlawKind) (t pa pb rest : List ℕ) → StrictQuotedFlaw SingleForm kind k t pa rest
    → StrictQuotedFlaw SingleForm kind l t pb rest → (k ≡ l) × (pa ≡ pb)
single_once kind k l t pa pb rest (inl a) (inl b) = (single_kind_once kind k l t rest a.0 b.0, a.1 ∙ sym b.1)
single_once kind k l t pa pb rest (inl a) (inr b) = absurd
    (single_not_both kind k l t rest b.closing (b.front ++ rest) a.0 b.closed.0 b.closed.1)
single_once kind k l t pa pb rest (inr a) (inl b) = absurd
    (single_not_both kind l k t rest a.closing (a.front ++ rest) b.0 a.closed.0 a.closed.1)
single_once kind k l t pa pb rest (inr a) (inr b) =
    let closing = left_once kind t a.closing b.closing a.closed.0 b.closed.0 in
    suffix_once SingleForm k l a.closing b.closing a.front b.front pa pb rest a.spoils b.spoils closing
    (same_tail 39 a.closing b.closing (a.front ++ rest) (b.front ++ rest) closing a.closed.1 b.closed.1) a.piece_is
    b.piece_is
