-- The valid content of a quoted literal in a file, where CR LF is read as LF, consists of characters and escapes as written.
use Rattle.rl_flaws.proofs.Names.{◌≡◌, ℕ, Bool, true, false, ◌==◌, ◌||◌, cond, List, [], ◌∷◌, ◌++◌, Option, Some, None, refl, sym, ap, subst, ◌∙◌, append-nil, append_assoc, and_parts, eqb-true, flat_map, list_all, Kind, Str, ByteStr, CStr, QuotedUnit, StrictUnit, Itself, is_dropped_blank, is_strict_unit, is_string, strict_text, BreaksEnd, first_passes, lf_text, unit_rest_complete}
use Rattle.rl_syntax.specs.Quoted.{CrLf, EndsBefore, IsUnit, unit_text}
use Rattle.rl_syntax.proofs.Common.{or_right}
use Rattle.rl_syntax.proofs.StrictQuoted.{is_return, no_return, stands}
use Rattle.rl_cursors.specs.Segments.{AreUnitsIn}
use Rattle.rl_lenient.specs.Mirrors.UnitAt.{after_blanks, escape_at, unit_at}
use Rattle.rl_lenient.proofs.UnitLemmas.{unit_sound}
use Rattle.rl_strict.proofs.Names.{after_run, chosen_some, escape_rest, is_dropped}
use Rattle.rl_strict.specs.Mirrors.StrictAt.{unit_rest}
use Rattle.rl_strict.proofs.FileTextLemmas.{by_first, when_dropped, when_kept}
use Rattle.rl_strict.proofs.FileUnits.{other_none, other_some}

abbrev pub HasUnitsIn : Kind → Bool → List ℕ → Type 0
HasUnitsIn kind plain t = (units : List QuotedUnit) × AreUnitsIn kind plain t units

pub no_units : (kind : Kind) (plain : Bool) → HasUnitsIn kind plain []
no_units kind true = ([], refl)
no_units kind false = ([], record { each = tt; ends = tt; text_is = refl })

-- The text as written begins with a character or escape. `x` is the text after it, with CR LF read as LF.
record BeginsInFile (k : Kind) (t x : List ℕ) : Type 0 where
  pub unit : QuotedUnit
  pub is_unit : IsUnit k unit
  pub rest : List ℕ
  pub ends : EndsBefore unit rest
  pub text_is : t ≡ unit_text unit ++ rest
  pub reads : lf_text rest ≡ x

pub no_text : (t : List ℕ) → lf_text t ≡ [] → t ≡ []
no_text t = by_first (λ z r. r ≡ [] → z ≡ []) (λ h. refl) (λ cs h. absurd (cc)) (λ c cs e h. absurd (cc)) t

-- ---- an escaped line end

-- The white space after an escaped line end, up to a character other than CR, is the same in both texts.
abbrev HasSameBlanks : List ℕ → Type 0
HasSameBlanks t = first_passes is_return (after_run is_dropped_blank (lf_text t)) ≡ false
    → lf_text (after_blanks t) ≡ after_run is_dropped_blank (lf_text t)

kept_blank : (c : ℕ) (cs : List ℕ) (b : Bool) → lf_text (c ∷ cs) ≡ c ∷ lf_text cs → HasSameBlanks cs
    → first_passes is_return (cond b (after_run is_dropped_blank (lf_text cs)) (c ∷ lf_text cs)) ≡ false
    → lf_text (cond (b || c == 13) (after_blanks cs) (c ∷ cs)) ≡ cond b (after_run is_dropped_blank (lf_text cs)) (c ∷ lf_text cs)
kept_blank c cs true e more h = more h
kept_blank c cs false e more h = ap (λ b. lf_text (cond b (after_blanks cs) (c ∷ cs))) h ∙ e

blanks_same : (t : List ℕ) → HasSameBlanks t
unfolding after_blanks
blanks_same [] h = refl
blanks_same (c ∷ cs) h = go (blanks_same cs) (is_dropped c cs) refl
  where
    stops : (z : List ℕ) → lf_text (c ∷ cs) ≡ z → first_passes is_return (after_run is_dropped_blank z) ≡ false
    stops z e = ap (λ z. first_passes is_return (after_run is_dropped_blank z)) (sym e) ∙ h

    go : HasSameBlanks cs → (b : Bool) → is_dropped c cs ≡ b
        → lf_text (after_blanks (c ∷ cs)) ≡ after_run is_dropped_blank (lf_text (c ∷ cs))
    go more true is =
        let e = when_dropped c cs is in
        ap (λ b. lf_text (cond b (after_blanks cs) (c ∷ cs)))
        (or_right (is_dropped_blank c) (c == 13) (and_parts (c == 13) (first_passes (λ d. d == 10) cs) is).0)
        ∙ more (stops (lf_text cs) e) ∙ sym (ap (after_run is_dropped_blank) e)
    go more false is =
        let e = when_kept c cs is in
        kept_blank c cs (is_dropped_blank c) e more (stops (c ∷ lf_text cs) e) ∙ sym (ap (after_run is_dropped_blank) e)

-- ---- an escape

of_escape : (k : Kind) (t v r x : List ℕ) → escape_at k t ≡ Some (v, r) → lf_text r ≡ x → BeginsInFile k (92 ∷ t) x
unfolding unit_at
of_escape k t v r x e reads =
    let b = unit_sound k (92 ∷ t) (v, r) e in
    record { unit = b.unit; is_unit = b.allowed; rest = r; ends = b.ends; text_is = b.text_is; reads = reads }

-- `t` is LF and `cs`, or CR, LF and `cs`.
break_in_file : (k : Kind) (t cs x : List ℕ) → escape_at k t ≡ cond (is_string k) (Some ([], after_blanks cs)) None
    → cond (is_string k) (Some (after_run is_dropped_blank (lf_text cs))) None ≡ Some x → first_passes is_return x ≡ false
    → BeginsInFile k (92 ∷ t) x
break_in_file k t cs x at h n =
    let p = chosen_some (is_string k) (after_run is_dropped_blank (lf_text cs)) x h in
    of_escape k t [] (after_blanks cs) x
    (at ∙ ap (λ b. cond {A = Option (List ℕ × List ℕ)} b (Some ([], after_blanks cs)) None) p.0)
    (blanks_same cs (ap (first_passes is_return) p.1 ∙ n) ∙ p.1)

escape_in_file : (k : Kind) (t x : List ℕ) → escape_rest k (lf_text t) ≡ Some x → first_passes is_return x ≡ false
    → BeginsInFile k (92 ∷ t) x
unfolding escape_at after_blanks
escape_in_file k t x h n = by_first (λ z r. escape_rest k r ≡ Some x → BeginsInFile k (92 ∷ z) x) (λ h. absurd (cc))
    (λ cs h. break_in_file k (13 ∷ 10 ∷ cs) cs x refl h n) kept t h
  where
    kept : (c : ℕ) (cs : List ℕ) → lf_text (c ∷ cs) ≡ c ∷ lf_text cs → escape_rest k (c ∷ lf_text cs) ≡ Some x
        → BeginsInFile k (92 ∷ c ∷ cs) x
    kept c cs e h = line (c == 10) refl (c == 13) refl
      where
        read : escape_rest k (lf_text (c ∷ cs)) ≡ Some x
        read = ap (escape_rest k) e ∙ h

        other : (c == 10) ≡ false → (c == 13) ≡ false → (o : Option (List ℕ × List ℕ)) → escape_at k (c ∷ cs) ≡ o
            → BeginsInFile k (92 ∷ c ∷ cs) x
        other a b None at =
            let none : None ≡ Some x = other_none k (c ∷ cs) cs c refl a b (sym at) ∙ read in
            absurd (cc)
        other a b (Some (v, r)) at =
            let some : Some (lf_text r) ≡ Some x = other_some k (c ∷ cs) cs v r c refl a b (sym at) ∙ read in
            of_escape k (c ∷ cs) v r x at (cc)

        line : (a : Bool) → (c == 10) ≡ a → (b : Bool) → (c == 13) ≡ b → BeginsInFile k (92 ∷ c ∷ cs) x
        line true a b is =
            let same = eqb-true c 10 a in
            subst (λ z. BeginsInFile k (92 ∷ z ∷ cs) x) (sym same) (break_in_file k (10 ∷ cs) cs x refl
            (subst (λ z. escape_rest k (z ∷ lf_text cs) ≡ Some x) same h) n)
        line false a true b =
            let none : None ≡ Some x = subst (λ z. escape_rest k (z ∷ lf_text cs) ≡ Some x) (eqb-true c 13 b) h in
            absurd (cc)
        line false a false b = other a b (escape_at k (c ∷ cs)) refl

-- ---- a character or escape

line_feed : (k : Kind) → is_strict_unit k (Itself 10) ≡ true → is_string k ≡ true
line_feed Str h = refl
line_feed ByteStr h = refl
line_feed CStr h = refl
line_feed k h = absurd (cc)

unit_in_file : (k : Kind) (t x : List ℕ) → unit_rest k (lf_text t) ≡ Some x → first_passes is_return x ≡ false
    → BeginsInFile k t x
unfolding unit_rest
unit_in_file k t x h n = by_first (λ z r. unit_rest k r ≡ Some x → BeginsInFile k z x) (λ h. absurd (cc)) line kept t h
  where
    line : (cs : List ℕ) → unit_rest k (10 ∷ lf_text cs) ≡ Some x → BeginsInFile k (13 ∷ 10 ∷ cs) x
    line cs h =
        let p = chosen_some (is_strict_unit k (Itself 10)) (lf_text cs) x h in
        record { unit = CrLf; is_unit = line_feed k p.0; rest = cs; ends = tt; text_is = refl; reads = p.1 }

    kept : (c : ℕ) (cs : List ℕ) → lf_text (c ∷ cs) ≡ c ∷ lf_text cs → unit_rest k (c ∷ lf_text cs) ≡ Some x
        → BeginsInFile k (c ∷ cs) x
    kept c cs e h = go (c == 92) refl
      where
        bare : Option (List ℕ)
        bare = cond (is_strict_unit k (Itself c)) (Some (lf_text cs)) None

        go : (b : Bool) → (c == 92) ≡ b → BeginsInFile k (c ∷ cs) x
        go true a = subst (λ z. BeginsInFile k (z ∷ cs) x) (sym (eqb-true c 92 a))
            (escape_in_file k cs x (sym (ap (λ b. cond b (escape_rest k (lf_text cs)) bare) a) ∙ h) n)
        go false a =
            let p = chosen_some (is_strict_unit k (Itself c)) (lf_text cs) x
            (sym (ap (λ b. cond b (escape_rest k (lf_text cs)) bare) a) ∙ h) in
            let s = stands k (Itself c) p.0 in
            record { unit = s.unit; is_unit = s.is_unit; rest = cs; ends = s.ends_before cs tt; text_is = ap (λ z. z ++ cs) (sym s.text_is); reads = p.1 }

-- ---- a sequence of characters and escapes

pub file_units : (k : Kind) (us : List StrictUnit) (t : List ℕ) → list_all (is_strict_unit k) us ≡ true → BreaksEnd us []
    → lf_text t ≡ flat_map strict_text us ++ [] → HasUnitsIn k false t
file_units k [] t each ends e = subst (HasUnitsIn k false) (sym (no_text t e)) (no_units k false)
file_units k (u ∷ us) t each ends e =
    let p = and_parts (is_strict_unit k u) (list_all (is_strict_unit k) us) each in
    let x : List ℕ = flat_map strict_text us ++ [] in
    let past : unit_rest k (lf_text t) ≡ Some x =
    ap (unit_rest k) (e ∙ append_assoc (strict_text u) (flat_map strict_text us) []) ∙ unit_rest_complete k u x p.0 ends.0 in
    let first = unit_in_file k t x past (ap (first_passes is_return) (append-nil (flat_map strict_text us)) ∙ no_return k us p.1) in
    let more = file_units k us first.rest p.1 ends.1 first.reads in (
      first.unit ∷ more.0,
      record {
        each = (first.is_unit, more.1.each);
        ends = (subst (EndsBefore first.unit) more.1.text_is first.ends, more.1.ends);
        text_is = first.text_is ∙ ap (λ z. unit_text first.unit ++ z) more.1.text_is;
      },
    )
