-- The code's parser of quoted literals returns what the grammars define.
use Rattle.rl_strict.proofs.Names.{◌≡◌, ◌≢◌, ◌+◌, ℕ, ◌&&◌, Bool, true, false, not, ◌==◌, cond, List, [], ◌∷◌, ◌++◌, length, Option, Some, None, refl, sym, ap, subst, ◌∙◌, arith, and_parts, both_ways, eqb-true, inl, inr, flat_map, list_all, AllByRecursion, IsUtf8, after_run, first_passes, is_string, Kind, StrictUnit, Itself, LineBreak, strict_text, is_dropped_blank, is_strict_unit, is_plain, is_single, chars, QuotedUnit, IsUnit, texts, values, MayFollow, is_return, no_blank, no_return, stands, Body, QuotedForm, CookedForm, RawForm, SingleForm, is_plain_body, IsQuotedAt, IsBodyWithin, body_in, suffix_in, found_opener, opener_at, is_some_text, BeginsStrictUnits, BreakEnds, BreaksEnd, cooked_found, single_found, form_at, ClosesUnits, ends_quoted, is_strict_suffix, unit_rest, FlawKind, ExtraHash, TwoCharacters, Unclosed, end_flaw_at, is_raw_form, suffix_piece, StopsIn, StopsBefore, raw_stop, ClosesForm, ClosesRaw, is_raw_character, is_hash, all_weaker, word_without, zero, suc, replicate, append_cancel_right, is_raw, IsStrictSuffix, Str, ByteStr, CStr, strict_unit_flaw_at, suffix_rest, suffix_read_at, FoundFlaw, found_flaw, option_map, ◌⊎◌, nat_lt, Byte, Char, and_right, content_of, is_line_end, is_allowed_in_single_quotes, escape_at, line_feed_at, unit_at, escape_rest}
use Rattle.rl_lenient.specs.UnitRuns.{BeginsRun, RunEnds}
use Rattle.rl_lenient.proofs.FrontLenLemmas.{opener_lo, raw_lo}
use Rattle.rl_strict.proofs.StrictRowLemmas.{bare_run, one_end, one_none, units_end, passes_seam}
use Rattle.rl_strict.proofs.StrictUnitRows.{row_closes, row_none, row_run}
use Rattle.rl_strict.proofs.StrictSuffixFlaws.{FlawInside, Judges, same_flaw, suffix_judged}
use Rattle.rl_strict.proofs.StrictRawFlaws.{hash_run, raw_body}
use Rattle.rl_strict.proofs.StrictRawLemmas.{raw_unquoted}
use Rattle.rl_strict.proofs.StrictWordLemmas.{strict_suffix_sound}
use Rattle.rl_lenient.proofs.RawLemmas.{opens, raw_found}
use Rattle.rl_strict.proofs.StrictCookedFlaws.{cooked_unclosed, no_front, single_closed, single_open, single_unclosed, string_closed, string_open, unquoted_ends}

-- ---- the suffix of a quoted literal

pub judged_by : (form : QuotedForm) (t : List ℕ) (o : Option FoundFlaw) → o ≡ suffix_read_at form t → Judges form t o
judged_by form t o e = subst (Judges form t) (sym e) (suffix_judged form t)

pub empty_read : (form : QuotedForm) (t : List ℕ) → is_some_text t ≡ false → None ≡ suffix_read_at form t
unfolding suffix_read_at suffix_rest
empty_read form [] h = go (is_raw_form form)
  where
    go : (b : Bool) → None ≡ cond (b && false) (Some (found_flaw ExtraHash [])) None
    go true = refl
    go false = refl
empty_read form (c ∷ cs) h = absurd (both_ways true h refl)

-- ---- a string with escapes

-- If a string's text begins with plain characters, it begins with a sequence of valid characters of Rust's grammar.
pub plain_row : (k : Kind) (t run rest : List ℕ) → is_string k ≡ true → t ≡ run ++ rest → list_all (is_plain k) run
    ≡ true → BeginsStrictUnits k t rest
plain_row k t run rest s e each = row_run k t t rest run (row_none k t) e (bare_run k run s each)

pub cooked_suffix : (k : Kind) (f : FlawKind) (t closing suffix piece rest : List ℕ) → is_string k ≡ true
    → BeginsStrictUnits k t closing → closing ≡ 34 ∷ suffix → Judges CookedForm suffix (Some (found_flaw f rest))
    → piece ≡ suffix_piece f closing suffix → StopsIn CookedForm k f t piece rest
cooked_suffix k f t closing suffix piece rest s r e judged spoiled =
    let none = cooked_unclosed k t closing suffix s r e judged.0 in
    let flaw = string_closed k f t closing suffix piece rest s r e judged.1 spoiled in
    record { none = none; stops = flaw.stops; has = flaw.has }

pub cooked_open : (k : Kind) (f : FlawKind) (t closing piece rest : List ℕ) → is_string k ≡ true
    → BeginsStrictUnits k t closing → unit_rest k closing ≡ None → ((x : List ℕ) → closing ≢ 34 ∷ x) → found_flaw f rest
    ≡ strict_unit_flaw_at k closing → piece ≡ closing → StopsIn CookedForm k f t piece rest
cooked_open k f t closing piece rest s r stuck unquoted same is =
    let flaw = same_flaw CookedForm k f f t closing piece rest rest refl is refl
    (string_open k f t closing rest s r stuck unquoted same) in
    record {
      none = λ c. both_ways (ends_quoted 34 closing) (unquoted_ends 34 closing (no_front 34 closing unquoted))
          ((units_end k (ends_quoted 34 closing) closing closing s stuck ((λ c. c), (λ c. c)) refl).1
          ((row_closes k r.units closing s r.each r.ends).1 (subst (ClosesUnits k) r.text_is c)));
      stops = flaw.stops;
      has = flaw.has;
    }

-- ---- the value of characters and escapes by `syn`'s grammar

pub record Lenient (k : Kind) (us : List StrictUnit) (rest : List ℕ) : Type 0 where
  pub units : List QuotedUnit
  pub each : AllByRecursion (IsUnit k) units
  pub ends : RunEnds units rest
  pub text_is : texts units ≡ flat_map strict_text us

follows : (k : Kind) (s : StrictUnit) (us : List StrictUnit) (x : List ℕ) → list_all (is_strict_unit k) us ≡ true
    → BreakEnds s (flat_map strict_text us ++ (34 ∷ x)) → MayFollow s (flat_map strict_text us ++ (34 ∷ x))
follows k (LineBreak blanks) us x h b = no_blank (flat_map strict_text us ++ (34 ∷ x)) b
    (passes_seam is_return (flat_map strict_text us) (34 ∷ x) (no_return k us h) refl)
follows k other us x h b = tt

lenient : (k : Kind) (us : List StrictUnit) (x : List ℕ) → list_all (is_strict_unit k) us ≡ true
    → BreaksEnd us (34 ∷ x) → Lenient k us (34 ∷ x)
lenient k [] x h b = record { units = []; each = tt; ends = tt; text_is = refl }
lenient k (s ∷ us) x h b =
    let p = and_parts (is_strict_unit k s) (list_all (is_strict_unit k) us) h in
    let u = stands k s p.0 in
    let r = lenient k us x p.1 b.1 in
    record {
      units = u.unit ∷ r.units;
      each = (u.is_unit, r.each);
      ends = (
        u.ends_before (texts r.units ++ (34 ∷ x)) (subst (λ z. MayFollow s (z ++ (34 ∷ x))) (sym r.text_is)
            (follows k s us x p.1 b.0)),
        r.ends,
      );
      text_is = ap (λ z. z ++ texts r.units) u.text_is ∙ ap (λ z. strict_text s ++ z) r.text_is;
    }

lenient_row : (k : Kind) (t closing x : List ℕ) → BeginsStrictUnits k t closing → closing ≡ 34 ∷ x
    → (v : List ℕ) × BeginsRun k t v closing
lenient_row k t closing x r e =
    let l = lenient k r.units x r.each (subst (BreaksEnd r.units) e r.ends) in (
      values k l.units,
      record {
        units = l.units;
        each = l.each;
        ends = subst (RunEnds l.units) (sym e) l.ends;
        text_is = r.text_is ∙ ap (λ z. z ++ closing) (sym l.text_is);
        value_is = refl;
      },
    )

pub cooked_at : (kind : Kind) (t inside closing suffix : List ℕ) (body : Body) → opener_at (chars t) ≡ found_opener
    CookedForm kind (chars inside) → is_string kind ≡ true → BeginsStrictUnits kind (chars inside) (chars closing) →
    chars closing ≡ 34 ∷ chars suffix → chars inside ≡ chars (body_in t body) ++ chars closing → suffix_in t body ≡
    suffix → IsBodyWithin t body → body.plain ≡ is_plain_body CookedForm kind (chars (body_in t body)) → IsUtf8 t →
    IsUtf8 inside → body.lo + length inside ≡ length t → IsQuotedAt kind t body
cooked_at kind t inside closing suffix body front s r quote cut suffix_is stands plain ut ui lo =
    let row = lenient_row kind (chars inside) (chars closing) (chars suffix) r quote in
    form_at CookedForm kind t inside row.0 suffix body front
    (cooked_found kind (chars inside) row.0 (chars closing) (chars (body_in t body)) (chars suffix) s row.1 cut quote)
    suffix_is stands plain (opener_lo CookedForm kind t inside body.lo (λ e. cc) ut ui front lo)

-- ---- a character or byte literal

-- If the content of a character or byte literal begins with a character that must be escaped, the content begins with no
-- valid character.
pub bad_front : (k : Kind) (c : ℕ) (cs : List ℕ) → is_single k ≡ true → (c == 92) ≡ false → is_allowed_in_single_quotes c ≡ false
    → unit_rest k (c ∷ cs) ≡ None
unfolding unit_rest
bad_front k c cs s e h = ap (λ b. cond b (escape_rest k cs) (cond (is_strict_unit k (Itself c)) (Some cs) None)) e
    ∙ ap (λ b. cond b (Some cs) None) (never k s)
  where
    never : (k : Kind) → is_single k ≡ true → is_strict_unit k (Itself c) ≡ false
    never Byte s = and_right (nat_lt c 128) (is_allowed_in_single_quotes c) h
    never Char s = h
    never kind s = absurd (cc)

pub not_string : (k : Kind) → is_single k ≡ true → is_string k ≡ false
not_string Byte s = refl
not_string Char s = refl
not_string kind s = absurd (cc)

-- An escape of a character or byte literal ends at the same position in both grammars, Rust's and `syn`'s.
escape_same : (k : Kind) (cs : List ℕ) → is_single k ≡ true → option_map (λ p. p.1) (escape_at k cs) ≡ escape_rest k cs
unfolding unit_at escape_at
escape_same k [] s = refl
escape_same k (d ∷ ds) s = go (d == 10) refl (d == 13) refl
  where
    Rest : Type 0
    Rest = Option (List ℕ)

    ends : (e : ℕ) → is_line_end e ≡ true → (e == 120) ≡ false → (e == 117) ≡ false
        → option_map (λ p. p.1) (escape_at k (e ∷ ds)) ≡ None
    ends e l x u = rw (x, u, l, not_string k s) refl

    go : (b : Bool) → (d == 10) ≡ b → (g : Bool) → (d == 13) ≡ g → option_map (λ p. p.1) (escape_at k (d ∷ ds)) ≡ cond b
        (cond (is_string k) (Some (after_run is_dropped_blank ds)) None) (cond g None (option_map (λ p. p.1) (escape_at
        k (d ∷ ds))))
    go true e g f =
        let At : ℕ → Type 0 = λ z. option_map (λ p. p.1) (escape_at k (z ∷ ds)) ≡ None in
        subst At (sym (eqb-true d 10 e)) (ends 10 refl refl refl)
        ∙ sym (ap (λ z. cond {A = Rest} z (Some (after_run is_dropped_blank ds)) None) (not_string k s))
    go false e true f =
        let At : ℕ → Type 0 = λ z. option_map (λ p. p.1) (escape_at k (z ∷ ds)) ≡ None in
        subst At (sym (eqb-true d 13 f)) (ends 13 refl refl refl)
    go false e false f = refl

-- If the content of a character or byte literal begins with a backslash, or with a character that is allowed unescaped, the
-- content ends at the same position in both grammars, Rust's and `syn`'s.
pub good_front : (k : Kind) (c : ℕ) (cs : List ℕ) → is_single k ≡ true → (c == 92) ≡ true ⊎ is_allowed_in_single_quotes c ≡ true
    → option_map (λ p. p.1) (unit_at k (c ∷ cs)) ≡ unit_rest k (c ∷ cs)
unfolding unit_rest unit_at
good_front k c cs s (inl e) =
    ap (λ b. option_map (λ p. p.1) (cond b (escape_at k cs) (cond (is_plain k c) (Some (content_of k (c ∷ []), cs))
    (cond (c == 13) (line_feed_at k cs) None)))) e ∙ escape_same k cs s
    ∙ sym (ap (λ b. cond b (escape_rest k cs) (cond (is_strict_unit k (Itself c)) (Some cs) None)) e)
good_front k c cs s (inr g) = go k s (c == 92) refl
  where
    go : (k : Kind) → is_single k ≡ true → (b : Bool) → (c == 92) ≡ b
        → option_map (λ p. p.1) (cond b (escape_at k cs) (cond (is_plain k c) (Some (content_of k (c ∷ []), cs))
        (cond (c == 13) (line_feed_at k cs) None)))
        ≡ cond b (escape_rest k cs) (cond (is_strict_unit k (Itself c)) (Some cs) None)
    go k s true e = escape_same k cs s
    go Char s false e = ap (λ z. option_map (λ p. p.1) (cond (not z) (Some (content_of Char (c ∷ []), cs))
        (cond (c == 13) (line_feed_at Char cs) None))) e ∙ sym (ap (λ z. cond z (Some cs) None) g)
    go Byte s false e = byte (nat_lt c 128) (c == 13) cs
      where
        byte : (a r : Bool) (t : List ℕ) → option_map (λ p. p.1) (cond (a && is_allowed_in_single_quotes c)
            (Some (content_of Byte (c ∷ []), cs)) (cond r (line_feed_at Byte t) None))
            ≡ cond (a && is_allowed_in_single_quotes c) (Some cs) None
        byte true r t = ap (λ z. option_map (λ p. p.1) (cond z (Some (content_of Byte (c ∷ []), cs))
            (cond r (line_feed_at Byte t) None))) g ∙ sym (ap (λ z. cond z (Some cs) None) g)
        byte false true [] = refl
        byte false true (d ∷ ds) = refl
        byte false false t = refl
    go kind s false e = absurd (cc)

-- ---- results of the code's functions for a character or escape

pub rest_is : {I : Type 0} (value rest : I → List ℕ) (r : Option I) (u : Option (List ℕ × List ℕ))
    → option_map (λ i. (value i, rest i)) r ≡ u → option_map rest r ≡ option_map (λ (p : List ℕ × List ℕ). p.1) u
rest_is {I} value rest r u e = go r ∙ ap (option_map (λ (p : List ℕ × List ℕ). p.1)) e
  where
    go : (r : Option I) → option_map rest r
        ≡ option_map (λ (p : List ℕ × List ℕ). p.1) (option_map (λ i. (value i, rest i)) r)
    go None = refl
    go (Some i) = refl

pub empty_rest : (k : Kind) (t : List ℕ) → t ≡ [] → None ≡ unit_rest k t
unfolding unit_rest
empty_rest k t e = sym (ap (unit_rest k) e)

pub good_at : (k : Kind) (t : List ℕ) (c : ℕ) (cs : List ℕ) → is_single k ≡ true → t ≡ c ∷ cs
    → (c == 92) ≡ true ⊎ is_allowed_in_single_quotes c ≡ true → option_map (λ p. p.1) (unit_at k t) ≡ unit_rest k t
good_at k t c cs s e h = subst (λ z. option_map (λ p. p.1) (unit_at k z) ≡ unit_rest k z) (sym e)
    (good_front k c cs s h)

pub bad_at : (k : Kind) (t : List ℕ) (c : ℕ) (cs : List ℕ) → is_single k ≡ true → t ≡ c ∷ cs → (c == 92) ≡ false
    → is_allowed_in_single_quotes c ≡ false → None ≡ unit_rest k t
bad_at k t c cs s e a b = sym (ap (unit_rest k) e ∙ bad_front k c cs s a b)

-- ---- the parse result of a character or byte literal

pub single_closes : (k : Kind) (t closing suffix : List ℕ) → is_single k ≡ true → unit_rest k t ≡ Some closing → closing
    ≡ 39 ∷ suffix → is_strict_suffix suffix ≡ true → ClosesUnits k t
single_closes k t closing suffix s u e h = (one_end k (ends_quoted 39 closing) t closing s u refl).0
    (ap (ends_quoted 39) e ∙ h)

pub single_suffix : (k : Kind) (f : FlawKind) (t closing suffix piece rest : List ℕ) → is_single k ≡ true
    → unit_rest k t ≡ Some closing → closing ≡ 39 ∷ suffix → Judges SingleForm suffix (Some (found_flaw f rest))
    → piece ≡ suffix_piece f closing suffix → StopsIn SingleForm k f t piece rest
single_suffix k f t closing suffix piece rest s u e judged spoiled =
    let none : ClosesUnits k t → ⊥ = λ c. both_ways (is_strict_suffix suffix) judged.0 (sym (ap (ends_quoted 39) e)
    ∙ (one_end k (ends_quoted 39 closing) t closing s u refl).1 c) in
    let flaw = single_closed k f t closing suffix piece rest s u e judged.1 spoiled in
    record { none = none; stops = flaw.stops; has = flaw.has }

pub single_unquoted_stops : (k : Kind) (f : FlawKind) (t closing piece rest : List ℕ) → is_single k ≡ true
    → unit_rest k t ≡ Some closing → ((x : List ℕ) → closing ≢ 39 ∷ x) → found_flaw f rest
    ≡ end_flaw_at Unclosed TwoCharacters closing → piece ≡ t → StopsIn SingleForm k f t piece rest
single_unquoted_stops k f t closing piece rest s u none same is =
    let flaw = single_unclosed k f t closing piece rest s u none same is in
    record {
      none = λ c. both_ways (ends_quoted 39 closing) (unquoted_ends 39 closing (no_front 39 closing none))
          ((one_end k (ends_quoted 39 closing) t closing s u refl).1 c);
      stops = flaw.stops;
      has = flaw.has;
    }

pub single_open_stops : (k : Kind) (f : FlawKind) (t piece rest : List ℕ) → is_single k ≡ true → unit_rest k t ≡ None
    → found_flaw f rest ≡ strict_unit_flaw_at k t → piece ≡ t → StopsIn SingleForm k f t piece rest
single_open_stops k f t piece rest s none same is =
    let flaw = single_open k f t piece rest s none same is in
    record {
      none = λ c. both_ways false refl ((one_none k t s none).1 c);
      stops = flaw.stops;
      has = flaw.has;
    }

-- A character or byte literal has the value of its one character or escape.
abbrev pub single_quoted : (kind : Kind) (t inside closing suffix v : List ℕ) (body : Body) → opener_at (chars t)
    ≡ found_opener SingleForm kind (chars inside) → is_single kind ≡ true
    → unit_at kind (chars inside) ≡ Some (v, chars closing) → chars closing ≡ 39 ∷ chars suffix → chars inside
    ≡ chars (body_in t body) ++ chars closing → suffix_in t body ≡ suffix → IsBodyWithin t body → body.plain ≡ false
    → IsUtf8 t → IsUtf8 inside → body.lo + length inside ≡ length t → IsQuotedAt kind t body
single_quoted kind t inside closing suffix v body front s unit quote cut suffix_is stands plain ut ui lo =
    form_at SingleForm kind t inside v suffix body front
    (single_found kind (chars inside) (v, chars closing) (chars (body_in t body)) (chars suffix) s unit cut quote)
    suffix_is stands plain (opener_lo SingleForm kind t inside body.lo (λ e. cc) ut ui front lo)

-- ---- a raw string

-- Let `takes` be a predicate of texts. If the longest prefix of a text that can be completed to satisfy `takes` isn't the
-- whole text, the text doesn't satisfy `takes`.
pub stuck_none : (takes : List ℕ → Type 0) (t rest cs : List ℕ) (c : ℕ) → StopsBefore takes t rest → rest ≡ c ∷ cs
    → takes t → ⊥
stuck_none takes t rest cs c s e y = s.stuck c cs cs e (subst takes (s.text_is ∙ ap (λ z. s.front ++ z) e) y)

pub raw_going : (k : Kind) (f : FlawKind) (t piece rest cs : List ℕ) (c : ℕ) → rest ≡ c ∷ cs
    → FlawInside RawForm k f t piece rest → StopsIn RawForm k f t piece rest
raw_going k f t piece rest cs c e flaw = record {
  none = stuck_none (ClosesForm RawForm k) t rest cs c flaw.stops e;
  stops = flaw.stops;
  has = flaw.has;
}

pub raw_ending : (k : Kind) (f : FlawKind) (t piece rest : List ℕ) → (ClosesRaw k t → ⊥)
    → FlawInside RawForm k f t piece rest → StopsIn RawForm k f t piece rest
raw_ending k f t piece rest none flaw = record { none = none; stops = flaw.stops; has = flaw.has }

pub raw_unopened_none : (k : Kind) (n : ℕ) (t rest : List ℕ) → t ≡ replicate n 35 ++ rest → rest ≡ [] → ClosesRaw k t
    → ⊥
raw_unopened_none k n t rest text end y =
    let after : rest ≡ after_run is_hash t = sym (ap (after_run is_hash) text
    ∙ hash_run n rest (ap (first_passes is_hash) end)) in
    both_ways false refl ((raw_unquoted k t rest after (λ x e. let bad : 34 ∷ x ≡ [] = sym e ∙ end in absurd (cc))).1 y)

suffix_no_quote : (x : List ℕ) → IsStrictSuffix x → list_all (λ c. not (c == 34)) x ≡ true
suffix_no_quote x (inl e) = subst (λ z. list_all (λ c. not (c == 34)) z ≡ true) (sym e) refl
suffix_no_quote x (inr w) = word_without 34 x (omega arith) refl w.identifier

hashes_no_quote : (n : ℕ) (x : List ℕ) → list_all (λ c. not (c == 34)) x ≡ true
    → list_all (λ c. not (c == 34)) (replicate n 35 ++ x) ≡ true
hashes_no_quote zero x h = h
hashes_no_quote (suc n) x h = hashes_no_quote n x h

held_raw : (k : Kind) (body : List ℕ) → list_all (is_raw_character k) body ≡ true → list_all (is_raw k) body ≡ true
held_raw k body h = all_weaker (is_raw_character k) (is_raw k) (one k) body h
  where
    one : (k : Kind) (c : ℕ) → is_raw_character k c ≡ true → is_raw k c ≡ true
    one Str c h = refl
    one ByteStr c h = (and_parts (nat_lt c 128) (not (c == 13)) h).0
    one CStr c h = (and_parts (not (c == 0)) (not (c == 13)) h).0
    one kind c h = absurd (cc)

pub raw_at : (kind : Kind) (n : ℕ) (t inside quote opened closing suffix hashes after : List ℕ) (c : ℕ) (body : Body) →
    opener_at (chars t) ≡ found_opener RawForm kind (chars inside) → is_string kind ≡ true → hashes ≡ replicate n 35 →
    chars inside ≡ hashes ++ quote → quote ≡ 34 ∷ chars opened → chars closing ≡ raw_stop kind hashes (chars opened) →
    chars closing ≡ c ∷ after → c ≡ 34 → after ≡ hashes ++ chars suffix → is_strict_suffix (chars suffix) ≡ true → chars
    opened ≡ chars (body_in t body) ++ chars closing → suffix_in t body ≡ suffix → IsBodyWithin t body → body.plain ≡
    true → IsUtf8 t → IsUtf8 opened → body.lo + length opened ≡ length t → IsQuotedAt kind t body
raw_at kind n t inside quote opened closing suffix hashes after c body front s are text quoted at is c_is more h cut
    suffix_is stands plain ut uo lo =
    let b : List ℕ = chars (body_in t body) in
    let no_hash : first_passes is_hash quote ≡ false = ap (first_passes is_hash) quoted in
    let rest_is : quote ≡ after_run is_hash (chars inside) = sym (ap (after_run is_hash)
    (text ∙ ap (λ z. z ++ quote) are) ∙ hash_run n quote no_hash) in
    let last : chars opened ≡ b ++ (34 ∷ after) = cut ∙ ap (λ z. b ++ z) (is ∙ ap (λ z. z ∷ after) c_is) in
    let walk = raw_body kind n hashes (chars opened) (chars closing) are at in
    let same : walk.0 ≡ b = append_cancel_right walk.0 b (chars closing) (sym walk.1 ∙ cut) in
    let held : list_all (is_raw kind) b ≡ true = ap (list_all (is_raw kind)) (sym same) ∙ held_raw kind walk.0 walk.2 in
    let none : list_all (λ d. not (d == 34)) after ≡ true = ap (list_all (λ d. not (d == 34)))
    (more ∙ ap (λ z. z ++ chars suffix) are) ∙ hashes_no_quote n (chars suffix)
    (suffix_no_quote (chars suffix) (strict_suffix_sound (chars suffix) h)) in
    let found = raw_found kind (chars inside) hashes quote rest_is text (chars opened) b after quoted last none
    (chars suffix) s more held in
    let count = (opens kind (chars inside) hashes quote rest_is text found.0 (chars suffix) found.1.0).0 in
    form_at RawForm kind t inside found.0 suffix body front found.1 suffix_is stands plain
    (raw_lo kind t inside opened hashes quote found.1.0.hashes body.lo ut uo front text quoted count lo)
