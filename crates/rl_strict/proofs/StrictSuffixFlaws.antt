-- The position where a text can't continue as the suffix of a quoted literal, and texts that complete the beginning of a
-- suffix.
use Rattle.rl_strict.proofs.Names.{Option, Some, None, ◌≡◌, ℕ, ◌||◌, ◌&&◌, Bool, true, false, not, ◌==◌, cond, List, [], ◌∷◌, ◌++◌, refl, sym, ap, subst, ◌∙◌, inl, inr, arith, append-nil, and_from, and_parts, both_ways, cases_Bool, eqb-true, list_all, list_all-append, AllByRecursion, is_xid_continue, is_xid_start, and_right, cond_both, after_run, first_passes, IsScalar, Kind, and_left, is_xid_start-ascii, is_xid_continue-ascii, is_continue, is_start, is_white, FlawKind, BadSuffix, TextAfterQuote, ExtraHash, UnderscoreSuffix, QuotedForm, StopsBefore, IsClosed, StrictQuotedFlaw, SuffixFlaw, form_quote, goes_on_with_suffix, is_raw_form, is_suffix_front, suffix_piece, ClosesForm, run, is_some_text, is_strict_suffix, begins_hash, suffix_rest, FoundFlaw, found_flaw, is_lone_underscore, suffix_end_read, suffix_read_at, run_all, run_ends, run_join, all_breaks}
use Rattle.rl_strict.proofs.Stops.{Flawed, Stops, lifted, stops_before}

-- ---- the first characters of a suffix

-- `t` is the first characters of a suffix, followed by `rest`. The suffix doesn't continue with the first character of
-- `rest`.
pub record SuffixCut (t rest : List ℕ) : Type 0 where
  pub front : List ℕ
  pub text_is : t ≡ front ++ rest
  pub is_front : is_suffix_front front ≡ true
  pub ends : goes_on_with_suffix front rest ≡ false

-- `suffix_rest` returns the text after the first characters of a suffix. The suffix doesn't continue with the first
-- character of the returned text.
pub suffix_cut : (t : List ℕ) → SuffixCut t (suffix_rest t)
unfolding suffix_rest
suffix_cut [] = record { front = []; text_is = refl; is_front = refl; ends = refl }
suffix_cut (c ∷ cs) = go (is_start c) refl
  where
    go : (b : Bool) → is_start c ≡ b → SuffixCut (c ∷ cs) (cond b (after_run is_continue cs) (c ∷ cs))
    go true e = record {
      front = c ∷ run is_continue cs;
      text_is = ap (λ z. c ∷ z) (run_join is_continue cs);
      is_front = and_from (is_start c) (list_all is_continue (run is_continue cs)) e (run_all is_continue cs);
      ends = run_ends is_continue cs;
    }
    go false e = record { front = []; text_is = refl; is_front = refl; ends = e }

-- Whether a text continues the first characters of a suffix depends only on the text's first character.
pub goes_on_first : (x cs e : List ℕ) (c : ℕ) → goes_on_with_suffix x (c ∷ cs) ≡ false → goes_on_with_suffix x (c ∷ e)
    ≡ false
goes_on_first [] cs e c h = h
goes_on_first (d ∷ ds) cs e c h = h

-- ---- the completion of a suffix

-- The letter `a` continues an identifier.
letter_continues : is_continue 97 ≡ true
letter_continues = and_from (is_xid_continue 97) (not (is_white 97)) (is_xid_continue-ascii 97 (omega arith)) refl

-- The ending that completes the first characters of a suffix to a suffix: the letter `a`. An empty text needs no ending.
pub suffix_ending : List ℕ → List ℕ
suffix_ending [] = []
suffix_ending (c ∷ cs) = 97 ∷ []

pub ending_characters : (x : List ℕ) → AllByRecursion IsScalar (suffix_ending x)
unfolding suffix_ending
ending_characters [] = tt
ending_characters (c ∷ cs) = (refl, tt)

-- A text with a letter appended isn't empty.
some_before : (cs : List ℕ) → is_some_text (cs ++ (97 ∷ [])) ≡ true
some_before [] = refl
some_before (c ∷ cs) = refl

pub suffix_begins : (x : List ℕ) → is_suffix_front x ≡ true → is_strict_suffix (x ++ suffix_ending x) ≡ true
unfolding is_strict_suffix suffix_ending
suffix_begins [] h = refl
suffix_begins (c ∷ cs) h =
    let p = and_parts (is_start c) (list_all is_continue cs) h in
    and_from (cond (c == 95) (is_some_text (cs ++ (97 ∷ []))) (is_start c)) (list_all is_continue (cs ++ (97 ∷ [])))
    (cond_both (c == 95) _ _ (λ b. b ≡ true) (λ e. some_before cs) (λ e. p.0))
    (list_all-append is_continue cs (97 ∷ [])
    ∙ and_from (list_all is_continue cs) (list_all is_continue (97 ∷ [])) p.1
    (and_from (is_continue 97) true letter_continues refl))

-- The beginning of a suffix is a suffix itself, unless it is `_`.
pub only_underscore : (x : List ℕ) → is_suffix_front x ≡ true → is_strict_suffix x ≡ false → x ≡ 95 ∷ []
unfolding is_strict_suffix
only_underscore [] h n = absurd (cc)
only_underscore (c ∷ cs) h n =
    let p = and_parts (is_start c) (list_all is_continue cs) h in
    elim (cases_Bool (c == 95)) [
      | inl a ↦ ap (λ z. z ∷ cs) (eqb-true c 95 a) ∙ ap (λ z. 95 ∷ z) (alone cs (λ s. both_ways
          (cond (c == 95) (is_some_text cs) (is_start c) && list_all is_continue cs) n
          (and_from (cond (c == 95) (is_some_text cs) (is_start c)) (list_all is_continue cs)
          (ap (λ b. cond b (is_some_text cs) (is_start c)) a ∙ s) p.1)))
      | inr a ↦ absurd (both_ways (cond (c == 95) (is_some_text cs) (is_start c) && list_all is_continue cs) n
          (and_from (cond (c == 95) (is_some_text cs) (is_start c)) (list_all is_continue cs)
          (ap (λ b. cond b (is_some_text cs) (is_start c)) a ∙ p.0) p.1))
    ]
  where
    alone : (cs : List ℕ) → (is_some_text cs ≡ true → ⊥) → cs ≡ []
    alone [] s = refl
    alone (d ∷ ds) s = absurd (s refl)

-- ---- the position where the suffix stops

-- A text whose first character begins no identifier isn't a suffix.
pub no_start_no_suffix : (c : ℕ) (e : List ℕ) → is_start c ≡ false → is_strict_suffix (c ∷ e) ≡ false
unfolding is_strict_suffix
no_start_no_suffix c e h =
    let At : ℕ → Type 0 = λ z. is_start z ≡ false in
    elim (cases_Bool (c == 95)) [
      | inl a ↦ absurd (both_ways (is_start 95) (subst At (eqb-true c 95 a) h) refl)
      | inr a ↦ and_left (cond (c == 95) (is_some_text e) (is_start c)) (list_all is_continue e)
          (ap (λ b. cond b (is_some_text e) (is_start c)) a ∙ h)
    ]

-- Let `c` be a character that can't continue the first characters `x` of a suffix. No text that begins with `x` and `c` is a
-- suffix.
pub suffix_stuck : (x : List ℕ) (c : ℕ) (e : List ℕ) → goes_on_with_suffix x (c ∷ e) ≡ false
    → is_strict_suffix (x ++ (c ∷ e)) ≡ false
unfolding is_strict_suffix
suffix_stuck [] c e h = no_start_no_suffix c e h
suffix_stuck (d ∷ ds) c e h = and_right (cond (d == 95) (is_some_text (ds ++ (c ∷ e))) (is_start d))
    (list_all is_continue (ds ++ (c ∷ e))) (all_breaks is_continue ds c e h)

-- A hash doesn't begin an identifier.
hash_no_start : is_start 35 ≡ false
hash_no_start = and_left (35 == 95 || is_xid_start 35) (not (is_white 35)) (is_xid_start-ascii 35 (omega arith))

-- ---- the flaw after a closing delimiter

-- The text `t` after a closing delimiter has a flaw of the kind `k` at `rest`. The text before `rest` can be completed to a
-- suffix, and no longer prefix can.
pub record SuffixSpoiled (form : QuotedForm) (k : FlawKind) (t rest : List ℕ) : Type 0 where
  pub stops : Stops (λ x. is_strict_suffix x ≡ true) (λ x. is_strict_suffix x ≡ false) t rest
  pub spoils : SuffixFlaw form k stops.front rest

-- A text that begins with one more hash after a raw string's closing delimiter isn't a suffix.
hash_no_suffix : (form : QuotedForm) (t : List ℕ) → begins_hash form t ≡ true → is_strict_suffix t ≡ false
hash_no_suffix form [] h = absurd (both_ways false refl (and_parts (is_raw_form form) false h).1)
hash_no_suffix form (c ∷ cs) h =
    let At : ℕ → Type 0 = λ z. is_start z ≡ false in
    no_start_no_suffix c cs
    (subst At (sym (eqb-true c 35 (and_parts (is_raw_form form) (c == 35) h).1)) hash_no_start)

hash_spoils : (form : QuotedForm) (t : List ℕ) → begins_hash form t ≡ true → SuffixSpoiled form ExtraHash t t
unfolding is_strict_suffix
hash_spoils form t h =
    let p = and_parts (is_raw_form form) (first_passes (λ c. c == 35) t) h in
    record {
      stops = record {
        front = [];
        text_is = refl;
        begins = record { ending = []; are_characters = tt; is_taken = refl };
        stuck = λ c cs e same. hash_no_suffix form (c ∷ e) (and_from (is_raw_form form) (c == 35) p.0
            (sym (ap (first_passes (λ c. c == 35)) same) ∙ p.1));
      };
      spoils = (p.0, refl, p.1);
    }

-- If the first characters of a suffix don't continue with `rest`, they are the longest prefix of the text that can be
-- completed to a suffix.
cut_stops : (t rest : List ℕ) (k : SuffixCut t rest)
    → Stops (λ x. is_strict_suffix x ≡ true) (λ x. is_strict_suffix x ≡ false) t rest
cut_stops t rest k = record {
  front = k.front;
  text_is = k.text_is;
  begins = record { ending = suffix_ending k.front; are_characters = ending_characters k.front; is_taken = suffix_begins k.front k.is_front };
  stuck = λ c cs e h. suffix_stuck k.front c e (goes_on_first k.front cs e c
      (ap (goes_on_with_suffix k.front) (sym h) ∙ k.ends));
}

lone_is : (t : List ℕ) → is_lone_underscore t ≡ true → t ≡ 95 ∷ []
lone_is [] h = absurd (cc)
lone_is (c ∷ []) h = ap (λ z. z ∷ []) (eqb-true c 95 h)
lone_is (c ∷ d ∷ ds) h = absurd (cc)

-- The result of the code for the text after a closing delimiter is correct: no flaw if the text is a suffix, and the text's
-- flaw otherwise.
abbrev pub Judges : QuotedForm → List ℕ → Option FoundFlaw → Type 0
Judges form t None = is_strict_suffix t ≡ true
Judges form t (Some f) = (is_strict_suffix t ≡ false) × SuffixSpoiled form f.0 t f.1

-- Unless one more hash follows a raw string's closing delimiter, the result of `suffix_end_read` is correct: no flaw, or the
-- flaw at the end of the suffix's first characters.
judged_end : (form : QuotedForm) (t rest : List ℕ) → SuffixCut t rest → begins_hash form t ≡ false
    → Judges form t (suffix_end_read form t rest)
unfolding cut_stops is_strict_suffix
judged_end form t [] k hash = go (is_lone_underscore t) refl
  where
    same : k.front ≡ t
    same = sym (append-nil k.front) ∙ sym k.text_is

    go : (b : Bool) → is_lone_underscore t ≡ b → Judges form t (cond b (Some (found_flaw UnderscoreSuffix [])) None)
    go true h =
        let e = lone_is t h in
        (ap is_strict_suffix e, record { stops = cut_stops t [] k; spoils = (same ∙ e, refl) })
    go false h = elim (cases_Bool (is_strict_suffix t)) [
      | inl a ↦ a
      | inr a ↦
          let e = only_underscore t (subst (λ z. is_suffix_front z ≡ true) same k.is_front) a in
          absurd (both_ways (is_lone_underscore t) h (ap is_lone_underscore e))
    ]
judged_end form t (c ∷ cs) k hash = (
  ap is_strict_suffix k.text_is ∙ suffix_stuck k.front c cs k.ends,
  cond_both (c == form_quote form) _ _ (λ (f : FoundFlaw). SuffixSpoiled form f.0 t f.1) quote other,
)
  where
    quote : (c == form_quote form) ≡ true → SuffixSpoiled form TextAfterQuote t (c ∷ cs)
    quote e = record { stops = cut_stops t (c ∷ cs) k; spoils = (k.is_front, e) }

    other : (c == form_quote form) ≡ false → SuffixSpoiled form BadSuffix t (c ∷ cs)
    other e = record {
      stops = cut_stops t (c ∷ cs) k;
      spoils = (
        k.is_front,
        (λ n. absurd (cc)),
        k.ends,
        e,
        λ x.
            let at : t ≡ c ∷ cs = k.text_is ∙ ap (λ z. z ++ (c ∷ cs)) x.1 in
            both_ways (begins_hash form t) hash (and_from (is_raw_form form) (first_passes (λ c. c == 35) t) x.0
            (ap (first_passes (λ c. c == 35)) at ∙ x.2)),
      );
    }

pub suffix_judged : (form : QuotedForm) (t : List ℕ) → Judges form t (suffix_read_at form t)
unfolding suffix_read_at
suffix_judged form t = go (begins_hash form t) refl
  where
    go : (b : Bool) → begins_hash form t ≡ b
        → Judges form t (cond b (Some (found_flaw ExtraHash t)) (suffix_end_read form t (suffix_rest t)))
    go true h = (hash_no_suffix form t h, hash_spoils form t h)
    go false h = judged_end form t (suffix_rest t) (suffix_cut t) h

-- ---- the flaw of a suffix is a flaw of the whole literal

-- The text `inside` after an opening delimiter has a flaw of the kind `k` at `rest`. The text to show for the flaw begins at
-- `piece`.
abbrev pub FlawInside : QuotedForm → Kind → FlawKind → List ℕ → List ℕ → List ℕ → Type 0
FlawInside form kind k inside piece rest =
    Flawed (ClosesForm form kind) inside rest (StrictQuotedFlaw form kind k inside piece rest)

-- Replaces the kind and the texts of a quoted literal's flaw by equal ones.
pub same_flaw : (form : QuotedForm) (kind : Kind) (k l : FlawKind) (inside p q r z : List ℕ) → k ≡ l → q ≡ p → z ≡ r
    → FlawInside form kind l inside p r → FlawInside form kind k inside q z
same_flaw form kind k l inside p q r z is piece place h = subst (λ y. FlawInside form kind y inside q z) (sym is) (subst
    (λ y. FlawInside form kind l inside y z) (sym piece) (subst (FlawInside form kind l inside p) (sym place) h))

-- `before` is a quoted literal without its opening delimiter and its suffix. With the text `x` after `before`, the literal
-- is valid if and only if `x` is a suffix.
pub record Closer (form : QuotedForm) (kind : Kind) : Type 0 where
  pub before : List ℕ
  pub good : (x : List ℕ) → is_strict_suffix x ≡ true → ClosesForm form kind (before ++ x)
  pub bad : (x : List ℕ) → is_strict_suffix x ≡ false → ClosesForm form kind (before ++ x) → ⊥

-- If a quoted literal is closed, the flaw of its suffix is the flaw of the literal.
pub closed_flaw : (form : QuotedForm) (kind : Kind) (k : FlawKind) (inside closing suffix piece rest : List ℕ) (c :
    Closer form kind) → inside ≡ c.before ++ suffix → IsClosed form kind inside closing suffix → SuffixSpoiled form k
    suffix rest → piece ≡ suffix_piece k closing suffix → FlawInside form kind k inside piece rest
closed_flaw form kind k inside closing suffix piece rest c text closed f spoiled =
    let s = f.stops in
    record {
      stops = subst (λ z. StopsBefore (ClosesForm form kind) z rest) (sym text)
          (stops_before (ClosesForm form kind) (c.before ++ suffix) rest (lifted c.before suffix rest s
          (λ h. c.good (s.front ++ s.begins.ending) h) (λ d ds e h n y. c.bad (s.front ++ (d ∷ e)) n y)));
      has = inr (record {
        closing = closing;
        front = s.front;
        closed = subst (IsClosed form kind inside closing) s.text_is closed;
        spoils = f.spoils;
        piece_is = spoiled ∙ ap (suffix_piece k closing) s.text_is;
      });
    }
