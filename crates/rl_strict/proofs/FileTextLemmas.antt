-- Lemmas on texts with CR LF read as LF: each CR before an LF is dropped.
use Rattle.rl_strict.proofs.Names.{◌≡◌, ℕ, Bool, true, false, not, ◌==◌, cond, List, [], ◌∷◌, ◌++◌, refl, sym, ap, subst, ◌∙◌, append_assoc, and_parts, both_ways, eqb-true, flat_map, list_all, list_all-append, not-true, Kind, first_passes, is_string, strict_text, and-false, and_left, form_opener, has_form, BeginsStrictUnits, QuotedForm, CookedForm, is_strict_suffix, ClosesForm, IsToken, StopsBefore, is_dropped, lf_text, IsRestOf, File, is_seam}
use Rattle.rl_syntax.proofs.StrictReturns.{strict_holds_no_return}
use Rattle.rl_strict.proofs.StrictLemmas.{close_token}
use Rattle.rl_strict.proofs.StrictUnitRows.{breaks_to}
use Rattle.rl_strict.proofs.StrictCookedFlaws.{cooked_closes}

-- ---- `lf_text`, which drops each CR before an LF, for a text with one more character in front

pub when_dropped : (c : ℕ) (cs : List ℕ) → is_dropped c cs ≡ true → lf_text (c ∷ cs) ≡ lf_text cs
when_dropped c cs is = ap (λ b. cond b (lf_text cs) (c ∷ lf_text cs)) is

pub when_kept : (c : ℕ) (cs : List ℕ) → is_dropped c cs ≡ false → lf_text (c ∷ cs) ≡ c ∷ lf_text cs
when_kept c cs is = ap (λ b. cond b (lf_text cs) (c ∷ lf_text cs)) is

-- If the first character of a text is a CR that is dropped before an LF, the text begins with CR LF.
pub line_of : (c : ℕ) (cs : List ℕ) → is_dropped c cs ≡ true → (ds : List ℕ) × (c ∷ cs ≡ 13 ∷ 10 ∷ ds)
line_of c [] h = absurd (both_ways false refl (and_parts (c == 13) false h).1)
line_of c (d ∷ ds) h =
    let p = and_parts (c == 13) (d == 10) h in
    (ds, ap (λ z. z ∷ d ∷ ds) (eqb-true c 13 p.0) ∙ ap (λ z. 13 ∷ z ∷ ds) (eqb-true d 10 p.1))

-- A character other than CR is kept if CR LF is read as LF.
pub other_kept : (c : ℕ) (cs : List ℕ) → (c == 13) ≡ false → is_dropped c cs ≡ false
other_kept c cs h = and_left (c == 13) (first_passes (λ d. d == 10) cs) h

-- To prove a statement about a text and the text with CR LF read as LF, three cases suffice: the text is empty, begins with
-- CR LF, or begins with a character that is kept.
pub by_first : (P : List ℕ → List ℕ → Type 0) → P [] [] → ((cs : List ℕ) → P (13 ∷ 10 ∷ cs) (10 ∷ lf_text cs)) → ((c :
    ℕ) (cs : List ℕ) → lf_text (c ∷ cs) ≡ c ∷ lf_text cs → P (c ∷ cs) (c ∷ lf_text cs)) → (t : List ℕ) → P t (lf_text t)
by_first P end line kept [] = end
by_first P end line kept (c ∷ cs) = go (is_dropped c cs) refl
  where
    go : (b : Bool) → is_dropped c cs ≡ b → P (c ∷ cs) (lf_text (c ∷ cs))
    go true h =
        let found = line_of c cs h in
        let Of : List ℕ → Type 0 = λ z. P z (lf_text z) in
        subst Of (sym found.1) (line found.0)
    go false h = subst (P (c ∷ cs)) (sym (when_kept c cs h)) (kept c cs (when_kept c cs h))

-- ---- a text without a CR

abbrev pub lacks_cr : List ℕ → Bool
lacks_cr text = list_all (λ c. not (c == 13)) text

first_kept : (c : ℕ) (cs : List ℕ) → not (c == 13) ≡ true → is_dropped c cs ≡ false
first_kept c cs h = other_kept c cs (not-true (c == 13) h)

-- If a text without CR precedes another text, reading CR LF as LF changes only the other text.
pub free_text : (a b : List ℕ) → lacks_cr a ≡ true → lf_text (a ++ b) ≡ a ++ lf_text b
free_text [] b h = refl
free_text (c ∷ cs) b h =
    let p = and_parts (not (c == 13)) (lacks_cr cs) h in
    when_kept c (cs ++ b) (first_kept c (cs ++ b) p.0) ∙ ap (λ z. c ∷ z) (free_text cs b p.1)

pub same_text : (t : List ℕ) → lacks_cr t ≡ true → lf_text t ≡ t
same_text [] h = refl
same_text (c ∷ cs) h =
    let p = and_parts (not (c == 13)) (lacks_cr cs) h in
    when_kept c cs (first_kept c cs p.0) ∙ ap (λ z. c ∷ z) (same_text cs p.1)

free_seam : (a b : List ℕ) → lacks_cr a ≡ true → is_seam a b ≡ true
free_seam [] b h = refl
free_seam (c ∷ []) b h = ap not (first_kept c b (and_parts (not (c == 13)) true h).0)
free_seam (c ∷ d ∷ ds) b h = free_seam (d ∷ ds) b (and_parts (not (c == 13)) (lacks_cr (d ∷ ds)) h).1

pub front_free : (a b : List ℕ) → lacks_cr (a ++ b) ≡ true → lacks_cr a ≡ true
front_free a b h = (and_parts (lacks_cr a) (lacks_cr b) (sym (list_all-append (λ c. not (c == 13)) a b) ∙ h)).0

back_free : (a b : List ℕ) → lacks_cr (a ++ b) ≡ true → lacks_cr b ≡ true
back_free a b h = (and_parts (lacks_cr a) (lacks_cr b) (sym (list_all-append (λ c. not (c == 13)) a b) ∙ h)).1

-- ---- borders between two texts that aren't between a CR and an LF

-- If the border between two texts isn't between a CR and its LF, the texts can be joined before or after CR LF is read as
-- LF, with equal results.
pub seam_text : (a b : List ℕ) → is_seam a b ≡ true → lf_text (a ++ b) ≡ lf_text a ++ lf_text b
seam_text [] b h = refl
seam_text (c ∷ []) b h = when_kept c b (not-true (is_dropped c b) h)
    ∙ sym (ap (λ z. z ++ lf_text b) (when_kept c [] (and-false (c == 13))))
seam_text (c ∷ d ∷ ds) b h = go (seam_text (d ∷ ds) b h) (is_dropped c (d ∷ ds)) refl
  where
    go : lf_text (d ∷ (ds ++ b)) ≡ lf_text (d ∷ ds) ++ lf_text b → (x : Bool) → is_dropped c (d ∷ ds) ≡ x
        → lf_text (c ∷ d ∷ (ds ++ b)) ≡ lf_text (c ∷ d ∷ ds) ++ lf_text b
    go back true e = when_dropped c (d ∷ (ds ++ b)) e ∙ back ∙ sym (ap (λ z. z ++ lf_text b) (when_dropped c (d ∷ ds) e))
    go back false e = when_kept c (d ∷ (ds ++ b)) e ∙ ap (λ z. c ∷ z) back
        ∙ sym (ap (λ z. z ++ lf_text b) (when_kept c (d ∷ ds) e))

seam_join : (a m b : List ℕ) → is_seam a (m ++ b) ≡ true → is_seam m b ≡ true → is_seam (a ++ m) b ≡ true
seam_join [] m b p q = q
seam_join (c ∷ []) [] b p q = p
seam_join (c ∷ []) (d ∷ ds) b p q = q
seam_join (c ∷ d ∷ ds) m b p q = seam_join (d ∷ ds) m b p q

-- ---- ends of a text that don't begin between a CR and an LF

pub rest_self : (t : List ℕ) → IsRestOf File t t
rest_self t = record { front = []; text_is = refl; seam = refl }

pub rest_step : (a b d : List ℕ) → IsRestOf File a b → IsRestOf File b d → IsRestOf File a d
rest_step a b d p q = record {
  front = p.front ++ q.front;
  text_is = p.text_is ∙ ap (λ z. p.front ++ z) q.text_is ∙ sym (append_assoc p.front q.front d);
  seam = seam_join p.front q.front d (subst (λ z. is_seam p.front z ≡ true) q.text_is p.seam) q.seam;
}

-- The text after a prefix without CR doesn't begin between a CR and its LF.
pub rest_free : (t front rest : List ℕ) → t ≡ front ++ rest → lacks_cr front ≡ true → IsRestOf File t rest
rest_free t front rest e h = record { front = front; text_is = e; seam = free_seam front rest h }

-- The text after a CR LF doesn't begin between a CR and its LF.
pub rest_line : (t rest : List ℕ) → t ≡ 13 ∷ 10 ∷ rest → IsRestOf File t rest
rest_line t rest e = record { front = 13 ∷ 10 ∷ []; text_is = e; seam = refl }

-- If the first character of a text isn't the CR of a CR LF, the text after this character doesn't begin between a CR and its
-- LF.
pub rest_kept : (t rest : List ℕ) (c : ℕ) → t ≡ c ∷ rest → is_dropped c rest ≡ false → IsRestOf File t rest
rest_kept t rest c e h = record { front = c ∷ []; text_is = e; seam = ap not h }

-- Let `rest` be an end of a text that doesn't begin between a CR and its LF. The whole text with CR LF read as LF consists
-- of two parts: the text before `rest`, and `rest`, each with CR LF read as LF.
pub rest_text : (t rest : List ℕ) (r : IsRestOf File t rest) → lf_text t ≡ lf_text r.front ++ lf_text rest
rest_text t rest r = ap lf_text r.text_is ∙ seam_text r.front rest r.seam

-- ---- literal tokens contain no CR

pub token_free : (t : List ℕ) → IsToken t → lacks_cr t ≡ true
token_free t y = strict_holds_no_return t y.kind y.contents y.suffix y.strict

pub token_same : (t : List ℕ) → IsToken t → lf_text t ≡ t
token_same t y = same_text t (token_free t y)

-- The longest prefix of a text that can be completed to a literal token contains no CR. So the text after this prefix
-- doesn't begin between a CR and its LF.
pub stops_rest : (t rest : List ℕ) → StopsBefore IsToken t rest → IsRestOf File t rest
stops_rest t rest s = rest_free t s.front rest s.text_is
    (front_free s.front s.begins.ending (token_free (s.front ++ s.begins.ending) s.begins.is_taken))

pub closes_free : (form : QuotedForm) (k : Kind) (t : List ℕ) → has_form form k ≡ true → ClosesForm form k t
    → lacks_cr t ≡ true
closes_free form k t has c = back_free (form_opener form k) t
    (token_free (form_opener form k ++ t) (close_token form k (form_opener form k ++ t) t has refl c))

pub form_rest : (form : QuotedForm) (k : Kind) (t rest : List ℕ) → has_form form k ≡ true
    → StopsBefore (ClosesForm form k) t rest → IsRestOf File t rest
form_rest form k t rest has s = rest_free t s.front rest s.text_is
    (front_free s.front s.begins.ending (closes_free form k (s.front ++ s.begins.ending) has s.begins.is_taken))

-- The characters and escapes of a string contain no CR.
pub row_rest : (k : Kind) (t rest : List ℕ) → is_string k ≡ true → BeginsStrictUnits k t rest
    → (front : List ℕ) × (t ≡ front ++ rest) × (lacks_cr front ≡ true)
unfolding is_strict_suffix
row_rest k t rest s r =
    let front : List ℕ = flat_map strict_text r.units in
    let run : BeginsStrictUnits k (front ++ (34 ∷ [])) (34 ∷ []) = record {
      units = r.units;
      each = r.each;
      ends = breaks_to r.units rest (34 ∷ []) (λ h. refl) r.ends;
      text_is = refl;
    } in (
      front,
      r.text_is,
      front_free front (34 ∷ []) (closes_free CookedForm k (front ++ (34 ∷ [])) s
          (cooked_closes k (front ++ (34 ∷ [])) (34 ∷ []) [] s run refl refl)),
    )
