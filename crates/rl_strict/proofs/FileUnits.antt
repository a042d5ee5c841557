-- The characters and escapes of a quoted literal in a file, where CR LF is read as LF.
use Rattle.rl_strict.proofs.Names.{◌≡◌, ℕ, zero, suc, Bool, true, false, not, ◌==◌, ◌&&◌, cond, List, [], ◌∷◌, ◌++◌, Option, Some, None, refl, sym, ap, subst, ◌∙◌, append_cancel_right, list_all, option_map, or_from, replicate, Kind, Str, ByteStr, CStr, Byte, Char, after_run, first_passes, is_dropped_blank, is_plain, is_single, is_strict_unit, is_string, strict_text, StrictUnit, Itself, QuoteEscape, PlainEscape, AsciiEscape, ByteEscape, UnicodeEscape, LineBreak, begins, all_weaker, apart, escape_at, unit_at, BeginsStrictUnits, BreakEnds, SingleForm, run_ends, escape_rest, is_inside, is_strict_suffix, unit_rest, is_dropped, lf_text, IsRestOf, File}
use Rattle.rl_strict.proofs.StrictRowLemmas.{is_bare, quoted_single, quoted_string}
use Rattle.rl_strict.proofs.StrictUnitLemmas.{unit_rest_complete, unit_rest_sound}
use Rattle.rl_strict.proofs.StrictUnitRows.{breaks_to, row_join, row_none, row_unit}
use Rattle.rl_strict.proofs.FileTextLemmas.{by_first, closes_free, free_text, front_free, lacks_cr, other_kept, rest_free, row_rest, when_kept}
use Rattle.rl_strict.proofs.FileSuffixes.{both, run_rest}
use Rattle.rl_strict.proofs.FileEscapes.{escape_read, lf_pair}
use Rattle.rl_strict.proofs.ReadQuoted.{plain_row, single_closes, not_string}

-- ---- a CR LF that is read as LF

pub kept_read : (t rest : List ℕ) (c : ℕ) → t ≡ c ∷ rest → is_dropped c rest ≡ false → lf_text t ≡ c ∷ lf_text rest
kept_read t rest c e h = ap lf_text e ∙ when_kept c rest h

-- ---- white space after an escaped line end

-- After an escaped line end, the code skips white space in the text as written. This white space is also skipped in the text
-- with CR LF read as LF.
blanks_past : (t : List ℕ) → after_run is_dropped_blank (lf_text (after_run is_dropped_blank t))
    ≡ after_run is_dropped_blank (lf_text t)
blanks_past [] = refl
blanks_past (c ∷ cs) = go (blanks_past cs) (is_dropped_blank c) refl
  where
    go : after_run is_dropped_blank (lf_text (after_run is_dropped_blank cs)) ≡ after_run is_dropped_blank (lf_text cs)
        → (b : Bool) → is_dropped_blank c ≡ b → after_run is_dropped_blank (lf_text (cond b (after_run is_dropped_blank
        cs) (c ∷ cs))) ≡ after_run is_dropped_blank (lf_text (c ∷ cs))
    go ih true h = ih ∙ sym (ap (λ b. cond b (after_run is_dropped_blank (lf_text cs)) (c ∷ lf_text cs)) h) ∙ sym (ap
        (after_run is_dropped_blank) (when_kept c cs (other_kept c cs (apart is_dropped_blank c 13 h refl))))
    go ih false h = refl

pub blanks_first : (t rest : List ℕ) → rest ≡ after_run is_dropped_blank t → after_run is_dropped_blank (lf_text rest)
    ≡ after_run is_dropped_blank (lf_text t)
blanks_first t rest e = ap (λ z. after_run is_dropped_blank (lf_text z)) e ∙ blanks_past t

pub blanks_stop : (t rest : List ℕ) → rest ≡ after_run is_dropped_blank t → first_passes is_dropped_blank rest ≡ false
blanks_stop t rest e = ap (first_passes is_dropped_blank) e ∙ run_ends is_dropped_blank t

pub blanks_end : (t rest : List ℕ) → after_run is_dropped_blank (lf_text rest) ≡ after_run is_dropped_blank (lf_text t)
    → first_passes is_dropped_blank rest ≡ false → ((c : ℕ) (following : List ℕ) → rest ≡ c ∷ following → is_dropped c
    following ≡ false) → lf_text rest ≡ after_run is_dropped_blank (lf_text t)
blanks_end t rest same stops none = go rest stops none ∙ same
  where
    go : (z : List ℕ) → first_passes is_dropped_blank z ≡ false → ((c : ℕ) (following : List ℕ) → z ≡ c ∷ following →
        is_dropped c following ≡ false) → lf_text z ≡ after_run is_dropped_blank (lf_text z)
    go [] h n = refl
    go (c ∷ cs) h n =
        let e = when_kept c cs (n c cs refl) in
        e ∙ sym (ap (after_run is_dropped_blank) e
        ∙ ap (λ b. cond b (after_run is_dropped_blank (lf_text cs)) (c ∷ lf_text cs)) h)

pub blanks_in : (t rest : List ℕ) → rest ≡ after_run is_dropped_blank t → IsRestOf File t rest
blanks_in t rest e = subst (IsRestOf File t) (sym e) (run_rest is_dropped_blank refl t)

-- ---- escapes

map_map : (o : Option (List ℕ × List ℕ)) → option_map (λ (p : List ℕ × List ℕ). p.1) (option_map lf_pair o)
    ≡ option_map (λ (p : List ℕ × List ℕ). lf_text p.1) o
map_map None = refl
map_map (Some p) = refl

-- An escape other than an escaped line end ends at the same position in the text as written and in the text with CR LF read
-- as LF.
pub other_read : (k : Kind) (c : ℕ) (cs : List ℕ) → (c == 10) ≡ false → (c == 13) ≡ false
    → escape_rest k (c ∷ lf_text cs) ≡ option_map (λ (p : List ℕ × List ℕ). lf_text p.1) (escape_at k (c ∷ cs))
unfolding unit_at
other_read k c cs n m =
    let line : Option (List ℕ) = cond (is_string k) (Some (after_run is_dropped_blank (lf_text cs))) None in
    let other : Option (List ℕ) = option_map (λ (p : List ℕ × List ℕ). p.1) (escape_at k (c ∷ lf_text cs)) in
    ap (λ b. cond b line (cond (c == 13) None other)) n ∙ ap (λ b. cond b None other) m
    ∙ ap (option_map (λ (p : List ℕ × List ℕ). p.1)) (escape_read k c cs (or_from (c == 10) (c == 13) n m))
    ∙ map_map (escape_at k (c ∷ cs))

-- If the code finds an escape other than an escaped line end in the text as written, the text with CR LF read as LF begins
-- with an escape that ends at the same position.
pub other_some : (k : Kind) (t cs v rest : List ℕ) (c : ℕ) → t ≡ c ∷ cs → (c == 10) ≡ false → (c == 13) ≡ false
    → Some (v, rest) ≡ escape_at k t → Some (lf_text rest) ≡ escape_rest k (lf_text t)
other_some k t cs v rest c e n m is = sym (ap (escape_rest k) (kept_read t cs c e (other_kept c cs m))
    ∙ other_read k c cs n m ∙ ap (option_map (λ (p : List ℕ × List ℕ). lf_text p.1)) (sym (is ∙ ap (escape_at k) e)))

pub other_none : (k : Kind) (t cs : List ℕ) (c : ℕ) → t ≡ c ∷ cs → (c == 10) ≡ false → (c == 13) ≡ false
    → None ≡ escape_at k t → None ≡ escape_rest k (lf_text t)
other_none k t cs c e n m is = sym (ap (escape_rest k) (kept_read t cs c e (other_kept c cs m))
    ∙ other_read k c cs n m ∙ ap (option_map (λ (p : List ℕ × List ℕ). lf_text p.1)) (sym (is ∙ ap (escape_at k) e)))

-- The text after a character or escape of a string doesn't begin between a CR and its LF.
pub unit_in : (k : Kind) (t rest : List ℕ) → is_string k ≡ true → unit_rest k t ≡ Some rest → IsRestOf File t rest
unit_in k t rest s h =
    let found = row_rest k t rest s (row_unit k t t rest (row_none k t) (unit_rest_sound k t rest (quoted_string k s) h))
    in
    rest_free t found.0 rest found.1 found.2

pub other_in : (k : Kind) (t cs v rest : List ℕ) (c : ℕ) → is_string k ≡ true → t ≡ c ∷ cs → (c == 10) ≡ false
    → (c == 13) ≡ false → Some (v, rest) ≡ escape_at k t → IsRestOf File (92 ∷ t) rest
unfolding unit_rest unit_at
other_in k t cs v rest c s e n m is =
    let line : Option (List ℕ) = cond (is_string k) (Some (after_run is_dropped_blank cs)) None in
    let other : Option (List ℕ) = option_map (λ (p : List ℕ × List ℕ). p.1) (escape_at k (c ∷ cs)) in
    let left : escape_rest k (c ∷ cs) ≡ Some rest =
    ap (λ b. cond b line (cond (c == 13) None other)) n ∙ ap (λ b. cond b None other) m
    ∙ ap (option_map (λ (p : List ℕ × List ℕ). p.1)) (sym (is ∙ ap (escape_at k) e)) in
    unit_in k (92 ∷ t) rest s (ap (escape_rest k) e ∙ left)

-- ---- an escape, or a CR LF

pub feed_unit : (k : Kind) (x : List ℕ) → is_string k ≡ true → unit_rest k (10 ∷ x) ≡ Some x
unfolding unit_rest
feed_unit Str x s = refl
feed_unit ByteStr x s = refl
feed_unit CStr x s = refl
feed_unit k x s = absurd (cc)

-- ---- sequences of characters and escapes

no_cr_plain : (k : Kind) → is_string k ≡ true → is_plain k 13 ≡ false
no_cr_plain Str s = refl
no_cr_plain ByteStr s = refl
no_cr_plain CStr s = refl
no_cr_plain k s = absurd (cc)

plain_free : (k : Kind) (run : List ℕ) → is_string k ≡ true → list_all (is_plain k) run ≡ true → lacks_cr run ≡ true
plain_free k run s h = all_weaker (is_plain k) (λ c. not (c == 13))
    (λ c p. ap not (apart (is_plain k) c 13 p (no_cr_plain k s))) run h

pub bare_row : (k : Kind) (t run rest : List ℕ) → is_string k ≡ true → t ≡ run ++ rest → list_all (is_plain k) run ≡ true
    → BeginsStrictUnits k (lf_text t) (lf_text rest)
bare_row k t run rest s e h = plain_row k (lf_text t) run (lf_text rest) s
    (ap lf_text e ∙ free_text run rest (plain_free k run s h)) h

pub bare_in : (k : Kind) (t run rest : List ℕ) → is_string k ≡ true → t ≡ run ++ rest → list_all (is_plain k) run ≡ true
    → IsRestOf File t rest
bare_in k t run rest s e h = rest_free t run rest e (plain_free k run s h)

pub units_more : (k : Kind) (t a b c : List ℕ) → is_string k ≡ true → BeginsStrictUnits k t a → Some b ≡ unit_rest k a
    → BeginsStrictUnits k b c → BeginsStrictUnits k t c
units_more k t a b c s r e q = row_join k t b c
    (row_unit k t a b r (unit_rest_sound k a b (quoted_string k s) (sym e))) q

-- If a string's text with CR LF read as LF begins with no valid character or escape, neither does the text as written.
pub stuck_alone : (k : Kind) (t : List ℕ) → is_string k ≡ true → unit_rest k (lf_text t) ≡ None → unit_rest k t ≡ None
unfolding unit_rest
stuck_alone k t s h = go (unit_rest k t) refl
  where
    break : (z : List ℕ) → unit_rest k (92 ∷ 10 ∷ z) ≡ None → ⊥
    break z e =
        let some : Some (after_run is_dropped_blank z) ≡ None =
        sym (ap (λ b. cond {A = Option (List ℕ)} b (Some (after_run is_dropped_blank z)) None) s) ∙ e in
        absurd (cc)

    on : (u : StrictUnit) (x : List ℕ) → is_strict_unit k u ≡ true → BreakEnds u x
        → unit_rest k (strict_text u ++ x) ≡ None → ⊥
    on u x is ends e =
        let some : Some x ≡ None = sym (unit_rest_complete k u x is ends) ∙ e in
        absurd (cc)

    unit : (u : StrictUnit) (x : List ℕ) → is_strict_unit k u ≡ true → unit_rest k (strict_text u ++ x) ≡ None → ⊥
    unit (LineBreak blanks) x is e = break (blanks ++ x) e
    unit (Itself c) x is e = on (Itself c) x is tt e
    unit (QuoteEscape c) x is e = on (QuoteEscape c) x is tt e
    unit (PlainEscape c) x is e = on (PlainEscape c) x is tt e
    unit (AsciiEscape high low) x is e = on (AsciiEscape high low) x is tt e
    unit (ByteEscape high low) x is e = on (ByteEscape high low) x is tt e
    unit (UnicodeEscape digits) x is e = on (UnicodeEscape digits) x is tt e

    go : (o : Option (List ℕ)) → unit_rest k t ≡ o → unit_rest k t ≡ None
    go None e = e
    go (Some r) e =
        let front = unit_rest_sound k t r (quoted_string k s) e in
        let row = row_unit k t t r (row_none k t) front in
        let found = row_rest k (strict_text front.unit ++ r) r s
        (row_unit k (strict_text front.unit ++ r) (strict_text front.unit ++ r) r (row_none k (strict_text front.unit ++ r))
        (record { unit = front.unit; is_unit = front.is_unit; may_end = front.may_end; text_is = refl })) in
        absurd (unit front.unit (lf_text r) front.is_unit (sym (ap (unit_rest k) (ap lf_text front.text_is
        ∙ free_text (strict_text front.unit) r (same_front found.0 r (strict_text front.unit) found.1 found.2))) ∙ h))
      where
        same_front : (a x b : List ℕ) → b ++ x ≡ a ++ x → lacks_cr a ≡ true → lacks_cr b ≡ true
        same_front a x b e f = ap lacks_cr (append_cancel_right b a x e) ∙ f

-- ---- a character or byte literal

single_escape : (k : Kind) (t : List ℕ) → is_single k ≡ true → escape_rest k (lf_text t)
    ≡ option_map lf_text (escape_rest k t)
unfolding unit_at
single_escape k t s = by_first (λ z r. escape_rest k r ≡ option_map lf_text (escape_rest k z)) refl (λ cs. ap (λ b. cond
    {A = Option (List ℕ)} b (Some (after_run is_dropped_blank (lf_text cs))) None) (not_string k s)) kept t
  where
    Left : Type 0
    Left = Option (List ℕ)

    none : List ℕ → Left
    none z = cond (is_string k) (Some (after_run is_dropped_blank z)) None

    kept : (c : ℕ) (cs : List ℕ) → lf_text (c ∷ cs) ≡ c ∷ lf_text cs → escape_rest k (c ∷ lf_text cs)
        ≡ option_map lf_text (escape_rest k (c ∷ cs))
    kept c cs e = go (c == 10) refl (c == 13) refl
      where
        left : List ℕ → Left
        left z = option_map (λ (p : List ℕ × List ℕ). p.1) (escape_at k (c ∷ z))

        same : (o : Option (List ℕ × List ℕ)) → option_map (λ (p : List ℕ × List ℕ). lf_text p.1) o
            ≡ option_map lf_text (option_map (λ (p : List ℕ × List ℕ). p.1) o)
        same None = refl
        same (Some p) = refl

        go : (a : Bool) → (c == 10) ≡ a → (b : Bool) → (c == 13) ≡ b → cond a (none (lf_text cs)) (cond b None (left
            (lf_text cs))) ≡ option_map lf_text (cond a (none cs) (cond b None (left cs)))
        go true n b m = ap (λ b. cond {A = Left} b (Some (after_run is_dropped_blank (lf_text cs))) None) (not_string k s)
            ∙ sym (ap (λ b. option_map lf_text (cond {A = Left} b (Some (after_run is_dropped_blank cs)) None))
            (not_string k s))
        go false n true m = refl
        go false n false m = ap (option_map (λ (p : List ℕ × List ℕ). p.1)) (escape_read k c cs (or_from (c == 10) (c ==
            13) n m)) ∙ map_map (escape_at k (c ∷ cs)) ∙ same (escape_at k (c ∷ cs))

-- The one character or escape of a character or byte literal ends at the same position in the text as written and in the
-- text with CR LF read as LF.
pub single_read : (k : Kind) (t : List ℕ) → is_single k ≡ true → unit_rest k (lf_text t)
    ≡ option_map lf_text (unit_rest k t)
unfolding unit_rest
single_read k t s = by_first (λ z r. unit_rest k r ≡ option_map lf_text (unit_rest k z)) refl (line k s)
    (λ c cs e. both (option_map lf_text) (c == 92) (escape_rest k cs) (cond (is_bare k c) (Some cs) None)
    (escape_rest k (lf_text cs)) (cond (is_bare k c) (Some (lf_text cs)) None) (single_escape k cs s)
    (both (option_map lf_text) (is_bare k c) (Some cs) None (Some (lf_text cs)) None refl refl)) t
  where
    line : (k : Kind) → is_single k ≡ true → (cs : List ℕ) → unit_rest k (10 ∷ lf_text cs)
        ≡ option_map lf_text (unit_rest k (13 ∷ 10 ∷ cs))
    line Byte s cs = refl
    line Char s cs = refl
    line k s cs = absurd (cc)

pub single_in : (k : Kind) (t rest : List ℕ) → is_single k ≡ true → unit_rest k t ≡ Some rest → IsRestOf File t rest
unfolding is_strict_suffix
single_in k t rest s h =
    let front = unit_rest_sound k t rest (quoted_single k s) h in
    let text : List ℕ = strict_text front.unit in
    let ends = breaks_to (front.unit ∷ []) rest (39 ∷ []) (λ e. refl) (front.may_end, tt) in
    let closes = single_closes k (text ++ (39 ∷ [])) (39 ∷ []) [] s
    (unit_rest_complete k front.unit (39 ∷ []) front.is_unit ends.0) refl refl in
    rest_free t text rest front.text_is
    (front_free text (39 ∷ []) (closes_free SingleForm k (text ++ (39 ∷ [])) s closes))

-- ---- a raw string

pub hashes_free : (n : ℕ) → lacks_cr (replicate n 35) ≡ true
hashes_free zero = refl
hashes_free (suc n) = hashes_free n

hashes_read : (n : ℕ) (t : List ℕ) → begins (replicate n 35) (lf_text t) ≡ begins (replicate n 35) t
hashes_read zero t = refl
hashes_read (suc n) t = by_first (λ z r. begins (35 ∷ replicate n 35) r ≡ begins (35 ∷ replicate n 35) z) refl
    (λ cs. refl) (λ c cs e. ap (λ b. c == 35 && b) (hashes_read n cs)) t

pub closer_read : (n : ℕ) (hashes t : List ℕ) → hashes ≡ replicate n 35 → begins hashes (lf_text t) ≡ begins hashes t
closer_read n hashes t e = subst (λ z. begins z (lf_text t) ≡ begins z t) (sym e) (hashes_read n t)

no_cr_inside : (k : Kind) → is_inside k 13 ≡ false
no_cr_inside Str = refl
no_cr_inside k = refl

pub inside_free : (k : Kind) (run : List ℕ) → list_all (is_inside k) run ≡ true → lacks_cr run ≡ true
inside_free k run h = all_weaker (is_inside k) (λ c. not (c == 13))
    (λ c p. ap not (apart (is_inside k) c 13 p (no_cr_inside k))) run h
