-- Sequences of digits without the underscores at their end, and with an underscore before a suffix.
use Rattle.rl_syntax.proofs.Common.{◌≡◌, ℕ, inl, inr, ◌||◌, ◌&&◌, Bool, true, false, not, ◌==◌, cond, List, [], ◌∷◌, ◌++◌, Some, None, refl, sym, ap, ◌∙◌, append-nil, and_from, and_parts, cases_Bool, eqb-true, is_ascii_digit, list_all, list_any, list_all-append, flat_map}
use Rattle.std.specs.Prelude.{Option, filter}
use Rattle.std.proofs.lemmas.List.Elements.{filter-append}
use Rattle.rl_syntax.specs.Classes.{after_run}
use Rattle.rl_syntax.specs.Texts.{first_passes, is_run_part, is_underscore}
use Rattle.rl_lexer.proofs.LexemeRows.{not_among}
use Rattle.rl_lexer.specs.Lexemes.{is_base_letter}
use Rattle.rl_syntax.specs.Strict.{IsDigits}
use Rattle.rl_style.specs.declared.style.Separator.{Separator}
use Rattle.rl_style.specs.declared.style.Separator.TheVariants.{Nothing, Underscore}
use Rattle.rl_style.specs.declared.style.Style.{Style}
use Rattle.rl_style.specs.Cases.{is_padding, kept_run, or_zero, separator_by, significant, trimmed, trims_by}
use Rattle.rl_style.proofs.CaseLemmas.{none_right}
use Rattle.rl_style.proofs.NumberCharacters.{RowKeeps}

abbrev pub only : List ℕ → Bool
only cs = list_all is_underscore cs

-- ---- the part of a sequence that remains without the underscores at its end

only_all : (test : ℕ → Bool) (cs : List ℕ) → list_all test cs ≡ true → list_all test (trimmed cs) ≡ true
only_all test [] h = refl
only_all test (c ∷ cs) h =
    let p = and_parts (test c) (list_all test cs) h in
    go (only (c ∷ cs)) p.0 (only_all test cs p.1)
  where
    go : (b : Bool) → test c ≡ true → list_all test (trimmed cs) ≡ true
        → list_all test (cond b [] (c ∷ trimmed cs)) ≡ true
    go true k more = refl
    go false k more = and_from (test c) (list_all test (trimmed cs)) k more

pub trimmed_all : (test : ℕ → Bool) (cs : List ℕ) → list_all test cs ≡ true → list_all test (trimmed cs) ≡ true
trimmed_all test cs h = only_all test cs h

none_in : (test : ℕ → Bool) (cs : List ℕ) → test 95 ≡ false → only cs ≡ true → list_any test cs ≡ false
none_in test [] n h = refl
none_in test (c ∷ cs) n h =
    let p = and_parts (c == 95) (only cs) h in
    ap (λ b. b || list_any test cs) (ap test (eqb-true c 95 p.0) ∙ n) ∙ none_in test cs n p.1

pub trimmed_some : (test : ℕ → Bool) (cs : List ℕ) → test 95 ≡ false → list_any test (trimmed cs) ≡ list_any test cs
trimmed_some test [] n = refl
trimmed_some test (c ∷ cs) n = go (only (c ∷ cs)) refl (trimmed_some test cs n)
  where
    go : (b : Bool) → only (c ∷ cs) ≡ b → list_any test (trimmed cs) ≡ list_any test cs
        → list_any test (cond b [] (c ∷ trimmed cs)) ≡ list_any test (c ∷ cs)
    go true h more = sym (none_in test (c ∷ cs) n h)
    go false h more = ap (λ b. test c || b) more

-- The characters of a text that pass a test.
abbrev pub passing_chars : (ℕ → Bool) → List ℕ → List ℕ
passing_chars test cs = filter test cs

pub none_of : (test : ℕ → Bool) (cs : List ℕ) → test 95 ≡ false → only cs ≡ true → passing_chars test cs ≡ []
none_of test [] n h = refl
none_of test (c ∷ cs) n h =
    let p = and_parts (c == 95) (only cs) h in
    ap (λ b. cond b (c ∷ passing_chars test cs) (passing_chars test cs)) (ap test (eqb-true c 95 p.0) ∙ n) ∙ none_of test cs n p.1

pub trimmed_filter : (test : ℕ → Bool) (cs : List ℕ) → test 95 ≡ false → passing_chars test (trimmed cs) ≡ passing_chars test cs
trimmed_filter test [] n = refl
trimmed_filter test (c ∷ cs) n = go (only (c ∷ cs)) refl (trimmed_filter test cs n)
  where
    go : (b : Bool) → only (c ∷ cs) ≡ b → passing_chars test (trimmed cs) ≡ passing_chars test cs
        → passing_chars test (cond b [] (c ∷ trimmed cs)) ≡ passing_chars test (c ∷ cs)
    go true h more = sym (none_of test (c ∷ cs) n h)
    go false h more = ap (λ z. cond (test c) (c ∷ z) z) more

digit_first : (c : ℕ) (cs : List ℕ) → is_ascii_digit c ≡ true → trimmed (c ∷ cs) ≡ c ∷ trimmed cs
digit_first c cs h = ap (λ b. cond (b && only cs) [] (c ∷ trimmed cs)) (not_among c 95 is_ascii_digit h refl)

pub trimmed_first : (cs : List ℕ) → first_passes is_ascii_digit cs ≡ true → first_passes is_ascii_digit (trimmed cs)
    ≡ true
trimmed_first [] h = h
trimmed_first (c ∷ cs) h = ap (first_passes is_ascii_digit) (digit_first c cs h) ∙ h

pub trimmed_digits : (cs : List ℕ) → IsDigits cs → IsDigits (trimmed cs)
trimmed_digits cs h = (trimmed_first cs h.0, trimmed_all (is_run_part is_ascii_digit) cs h.1)

-- ---- the underscores at the end of two joined sequences

pub only_join : (a b : List ℕ) → only b ≡ false → only (a ++ b) ≡ false
only_join [] b h = h
only_join (c ∷ a) b h = ap (λ z. (c == 95) && z) (only_join a b h) ∙ none_right (c == 95)

pub trimmed_join : (a b : List ℕ) → only b ≡ false → trimmed (a ++ b) ≡ a ++ trimmed b
trimmed_join [] b h = refl
trimmed_join (c ∷ a) b h =
    ap (λ z. cond z [] (c ∷ trimmed (a ++ b))) (only_join (c ∷ a) b h) ∙ ap (λ z. c ∷ z) (trimmed_join a b h)

pub some_not_only : (test : ℕ → Bool) (cs : List ℕ) → test 95 ≡ false → list_any test cs ≡ true → only cs ≡ false
some_not_only test cs n h =
    elim (cases_Bool (only cs)) [
      | inl a ↦ absurd (let e : true ≡ false = sym h ∙ none_in test cs n a in cc)
      | inr a ↦ a
    ]

-- ---- if the underscores at the end are dropped again, nothing changes

abbrev pub IsTrim : List ℕ → Type 0
IsTrim cs = trimmed cs ≡ cs

pub none_trim : (c : ℕ) (cs : List ℕ) → IsTrim (c ∷ cs) → only (c ∷ cs) ≡ false
none_trim c cs h =
    elim (cases_Bool (only (c ∷ cs))) [
      | inl a ↦ absurd (let e : [] ≡ c ∷ cs = sym (ap (λ b. cond b [] (c ∷ trimmed cs)) a) ∙ h in cc)
      | inr a ↦ a
    ]

pub trim_tail : (c : ℕ) (cs : List ℕ) → IsTrim (c ∷ cs) → IsTrim cs
trim_tail c cs h =
    let e : c ∷ trimmed cs ≡ c ∷ cs = sym (ap (λ b. cond b [] (c ∷ trimmed cs)) (none_trim c cs h)) ∙ h in
    cc

trim_more : (c : ℕ) (cs : List ℕ) → only (c ∷ cs) ≡ false → IsTrim cs → IsTrim (c ∷ cs)
trim_more c cs n h = ap (λ b. cond b [] (c ∷ trimmed cs)) n ∙ ap (λ z. c ∷ z) h

only_trimmed : (cs : List ℕ) → only cs ≡ false → only (trimmed cs) ≡ false
only_trimmed [] h = h
only_trimmed (c ∷ cs) h = ap (λ b. only (cond b [] (c ∷ trimmed cs))) h ∙ go (c == 95) h (only_trimmed cs)
  where
    go : (b : Bool) → (b && only cs) ≡ false → (only cs ≡ false → only (trimmed cs) ≡ false)
        → (b && only (trimmed cs)) ≡ false
    go true k more = more k
    go false k more = refl

pub trimmed_again : (cs : List ℕ) → IsTrim (trimmed cs)
trimmed_again [] = refl
trimmed_again (c ∷ cs) = go (only (c ∷ cs)) refl (trimmed_again cs)
  where
    go : (b : Bool) → only (c ∷ cs) ≡ b → IsTrim (trimmed cs) → IsTrim (cond b [] (c ∷ trimmed cs))
    go true h more = refl
    go false h more = trim_more c (trimmed cs) (sym (ap (λ b. only (cond b [] (c ∷ trimmed cs))) h)
        ∙ only_trimmed (c ∷ cs) h) more

run_trim : (test : ℕ → Bool) (cs : List ℕ) → IsTrim cs → IsTrim (after_run test cs)
run_trim test [] h = refl
run_trim test (c ∷ cs) h = go (test c) (run_trim test cs (trim_tail c cs h))
  where
    go : (b : Bool) → IsTrim (after_run test cs) → IsTrim (cond b (after_run test cs) (c ∷ cs))
    go true more = more
    go false more = h

zero_trim : (cs : List ℕ) → IsTrim cs → IsTrim (or_zero cs)
zero_trim [] h = refl
zero_trim (c ∷ cs) h = h

pub significant_trim : (cs : List ℕ) → IsTrim cs → IsTrim (significant cs)
significant_trim cs h = zero_trim (after_run is_padding cs) (run_trim is_padding cs h)

-- If a rewritten sequence consists only of underscores, the old sequence consists only of underscores too.
only_mapped : (f : ℕ → List ℕ) (cs : List ℕ) → RowKeeps f cs → only cs ≡ false → only (flat_map f cs) ≡ false
only_mapped f [] k h = h
only_mapped f (c ∷ cs) k h =
    elim k.0 [
      | inl a ↦ ap (λ z. only (z ++ flat_map f cs)) a.0
          ∙ only_mapped f cs k.1 (sym (ap (λ b. b && only cs) a.1) ∙ h)
      | inr a ↦ ap (λ z. only (z ++ flat_map f cs)) a.1 ∙ ap (λ b. b && only (flat_map f cs)) a.3
          ∙ go (c == 95) h (only_mapped f cs k.1)
    ]
  where
    go : (b : Bool) → (b && only cs) ≡ false → (only cs ≡ false → only (flat_map f cs) ≡ false)
        → (b && only (flat_map f cs)) ≡ false
    go true n more = more n
    go false n more = refl

pub mapped_trim : (f : ℕ → List ℕ) (cs : List ℕ) → RowKeeps f cs → IsTrim cs → IsTrim (flat_map f cs)
mapped_trim f [] k h = refl
mapped_trim f (c ∷ cs) k h =
    let more = mapped_trim f cs k.1 (trim_tail c cs h) in
    let some : only (flat_map f (c ∷ cs)) ≡ false = only_mapped f (c ∷ cs) k (none_trim c cs h) in
    elim k.0 [
      | inl a ↦ ap (λ z. trimmed (z ++ flat_map f cs)) a.0 ∙ more ∙ ap (λ z. z ++ flat_map f cs) (sym a.0)
      | inr a ↦ ap (λ z. trimmed (z ++ flat_map f cs)) a.1
          ∙ trim_more a.0 (flat_map f cs) (sym (ap (λ z. only (z ++ flat_map f cs)) a.1) ∙ some) more
          ∙ ap (λ z. z ++ flat_map f cs) (sym a.1)
    ]

-- An underscore that is appended to a sequence of digits is dropped with the other underscores at its end.
one_after : (cs : List ℕ) → trimmed (cs ++ (95 ∷ [])) ≡ trimmed cs
one_after [] = refl
one_after (c ∷ cs) =
    ap (λ b. cond ((c == 95) && b) [] (c ∷ trimmed (cs ++ (95 ∷ [])))) (same (list_all-append is_underscore cs
    (95 ∷ [])))
    ∙ ap (λ z. cond (only (c ∷ cs)) [] (c ∷ z)) (one_after cs)
  where
    same : only (cs ++ (95 ∷ [])) ≡ (only cs && true) → only (cs ++ (95 ∷ [])) ≡ only cs
    same e = e ∙ both (only cs)
      where
        both : (b : Bool) → (b && true) ≡ b
        both true = refl
        both false = refl

pub trimmed_end : (front u : List ℕ) → IsTrim front → only u ≡ true → trimmed (front ++ u) ≡ front
trimmed_end [] [] h k = refl
trimmed_end [] (c ∷ u) h k = ap (λ b. cond b [] (c ∷ trimmed u)) k
trimmed_end (c ∷ f) u h k =
    let some : only ((c ∷ f) ++ u) ≡ false = list_all-append is_underscore (c ∷ f) u
    ∙ ap (λ b. b && only u) (none_trim c f h) in
    ap (λ b. cond b [] (c ∷ trimmed (f ++ u))) some ∙ ap (λ z. c ∷ z) (trimmed_end f u (trim_tail c f h) k)

pub other_trims : (a : List ℕ) (c : ℕ) → (c == 95) ≡ false → IsTrim (a ++ (c ∷ []))
other_trims a c h =
    let some : only (c ∷ []) ≡ false = ap (λ b. b && true) h in
    trimmed_join a (c ∷ []) some ∙ ap (λ b. a ++ cond b [] (c ∷ [])) some

pub under_only : (u : List ℕ) (c : ℕ) → only u ≡ true → (c == 95) ≡ true → only (u ++ (c ∷ [])) ≡ true
under_only u c h k = list_all-append is_underscore u (c ∷ []) ∙ and_from (only u) _ h (and_from (c == 95) true k refl)

-- ---- the digits that remain without the underscores at the end

pub kept_first : (style : Style) (x run : List ℕ) → first_passes is_ascii_digit run ≡ true
    → first_passes is_ascii_digit (kept_run style x run) ≡ true
kept_first style x run h = go (trims_by style.suffix_separator x)
  where
    go : (k : Bool) → first_passes is_ascii_digit (cond k (trimmed run) run) ≡ true
    go true = trimmed_first run h
    go false = h

-- ---- the separator before the suffix

pub separator_all : (test : ℕ → Bool) (s : Option Separator) (x : List ℕ)
    → list_all (is_run_part test) (separator_by s x)
    ≡ true
separator_all test None x = refl
separator_all test (Some Nothing) x = refl
separator_all test (Some Underscore) [] = refl
separator_all test (Some Underscore) (c ∷ cs) = and_from (test 95 || true) true (or_true (test 95)) refl
  where
    or_true : (b : Bool) → (b || true) ≡ true
    or_true true = refl
    or_true false = refl

pub separator_gone : (test : ℕ → Bool) (s : Option Separator) (x cs : List ℕ) → test 95 ≡ false
    → passing_chars test (cs ++ separator_by s x) ≡ passing_chars test cs
separator_gone test None x cs n = ap (passing_chars test) (append-nil cs)
separator_gone test (Some Nothing) x cs n = ap (passing_chars test) (append-nil cs)
separator_gone test (Some Underscore) [] cs n = ap (passing_chars test) (append-nil cs)
separator_gone test (Some Underscore) (c ∷ x) cs n =
    filter-append test cs (95 ∷ []) ∙ ap (λ b. passing_chars test cs ++ cond b (95 ∷ []) []) n
    ∙ append-nil (passing_chars test cs)

-- If the suffix begins with the letter of a base, the underscores before it aren't dropped, and no separator is written.
pub base_kept : (s : Option Separator) (x : List ℕ) → first_passes is_base_letter (separator_by s x ++ x) ≡ true
    → (trims_by s x ≡ false) × (separator_by s x ≡ []) × (first_passes is_base_letter x ≡ true)
base_kept None x h = (refl, refl, h)
base_kept (Some Nothing) x h = (ap not h, refl, h)
base_kept (Some Underscore) [] h = absurd (cc)
base_kept (Some Underscore) (c ∷ cs) h = absurd (cc)

-- If the underscores at the end of a rewritten number are dropped again, the digits don't change.
pub row_again : (s : Option Separator) (x run : List ℕ) → (trims_by s x ≡ true → IsTrim run)
    → cond (trims_by s x) (trimmed (run ++ separator_by s x)) (run ++ separator_by s x) ≡ run
row_again None x run h = append-nil run
row_again (Some Nothing) x run h = go (not (first_passes is_base_letter x)) h
  where
    go : (b : Bool) → (b ≡ true → IsTrim run) → cond b (trimmed (run ++ [])) (run ++ []) ≡ run
    go true k = ap trimmed (append-nil run) ∙ k refl
    go false k = append-nil run
row_again (Some Underscore) [] run h = ap trimmed (append-nil run) ∙ h refl
row_again (Some Underscore) (c ∷ cs) run h = one_after run ∙ h refl

pub any_left : (test : ℕ → Bool) (a b : List ℕ) → list_any test a ≡ true → list_any test (a ++ b) ≡ true
any_left test [] b h = absurd (cc)
any_left test (c ∷ a) b h = go (test c) h (any_left test a b)
  where
    go : (k : Bool) → (k || list_any test a) ≡ true → (list_any test a ≡ true → list_any test (a ++ b) ≡ true)
        → (k || list_any test (a ++ b)) ≡ true
    go true n more = refl
    go false n more = more n

pub digits_join : (a b : List ℕ) → IsDigits a → list_all (is_run_part is_ascii_digit) b ≡ true → IsDigits (a ++ b)
digits_join [] b h k = absurd (let e : false ≡ true = h.0 in cc)
digits_join (c ∷ a) b h k = (h.0, list_all-append (is_run_part is_ascii_digit) (c ∷ a) b ∙ and_from _ _ h.1 k)
