-- The position where a text that begins neither with a digit nor as a quoted literal can't continue as a literal token.
use Rattle.rl_strict.proofs.Names.{◌≡◌, ◌≢◌, ℕ, Bool, true, false, ◌==◌, List, [], ◌∷◌, ◌++◌, None, refl, sym, ap, subst, ◌∙◌, inl, inr, both_ways, eqb-true, or_from, append_cancel_right, is_ascii_digit, AllByRecursion, IsScalar, ByteStr, CStr, first_passes, truth_text, FlawKind, Empty, NotALiteral, UnexpectedEnd, Minus, CookedForm, IsCompletable, HasKind, IsStrictWordFlaw, BeginsWord, IsWordFlaw, IsToken, is_number_front, opener_at, is_strict_suffix, FoundFlaw, word_flaw_at, front_not_quoted, goes_on}
use Rattle.rl_strict.proofs.StrictCookedFlaws.{quote_closes}
use Rattle.rl_strict.proofs.Stops.{Flawed}
use Rattle.rl_strict.proofs.StrictLemmas.{close_token, truth_token}
use Rattle.rl_strict.proofs.StrictRowLemmas.{quote_stops}
use Rattle.rl_strict.proofs.StrictTokens.{no_token, token_reads}
use Rattle.rl_strict.proofs.WordFlawLemmas.{truth_characters, word_place}

-- The longest prefix of the text that can be completed to a literal token ends at the flaw, and the flaw's kind describes
-- the error.
abbrev pub IsStrictFlaw : (FlawKind → List ℕ → List ℕ → Type 0) → List ℕ → FoundFlaw → Type 0
IsStrictFlaw says t flaw = Flawed IsToken t flaw.1 (HasKind (says flaw.0) t flaw.1)

-- ---- the completion of the words `true` and `false`

by_truth : (b : Bool) (front more : List ℕ) → truth_text b ≡ front ++ more → AllByRecursion IsScalar more
    → IsCompletable IsToken front
by_truth b front more e all = record { ending = more; are_characters = all; is_taken = truth_token (front ++ more) b (sym e) }

-- If a word consists of Unicode scalar values, each end of the word does too.
left_characters : (front more : List ℕ) → AllByRecursion IsScalar (front ++ more) → AllByRecursion IsScalar more
left_characters [] more a = a
left_characters (c ∷ cs) more a = left_characters cs more a.1

begun : (front : List ℕ) → BeginsWord front → IsCompletable IsToken front
unfolding is_strict_suffix
begun front (inl e) = record {
  ending = 34 ∷ 34 ∷ [];
  are_characters = (refl, (refl, tt));
  is_taken = close_token CookedForm ByteStr (front ++ (34 ∷ 34 ∷ [])) (34 ∷ []) refl (ap (λ z. z ++ (34 ∷ 34 ∷ [])) e)
      (quote_closes ByteStr (34 ∷ []) refl (quote_stops ByteStr [] refl) refl);
}
begun front (inr (inl e)) = record {
  ending = 34 ∷ 34 ∷ [];
  are_characters = (refl, (refl, tt));
  is_taken = close_token CookedForm CStr (front ++ (34 ∷ 34 ∷ [])) (34 ∷ []) refl (ap (λ z. z ++ (34 ∷ 34 ∷ [])) e)
      (quote_closes CStr (34 ∷ []) refl (quote_stops CStr [] refl) refl);
}
begun front (inr (inr w)) = by_truth w.truth front w.more w.word_is
    (left_characters front w.more (subst (AllByRecursion IsScalar) w.word_is (truth_characters w.truth)))

empty_begun : (front : List ℕ) → front ≡ [] → IsCompletable IsToken front
empty_begun front e = by_truth true front (truth_text true) (sym (ap (λ z. z ++ truth_text true) e))
    (truth_characters true)

completable : (k : FlawKind) (front rest : List ℕ) → IsWordFlaw k front rest → IsCompletable IsToken front
completable Empty front rest h = empty_begun front h.0
completable UnexpectedEnd front rest h = begun front h.0
completable NotALiteral front rest h = begun front h.0
completable k front rest h = absurd h

-- ---- the kinds of flaws

kind_is : (k : FlawKind) (front rest : List ℕ) → (front ≡ [] → first_passes (λ c. c == 45) rest ≡ false)
    → IsWordFlaw k front rest → IsStrictWordFlaw k front rest
kind_is NotALiteral front rest n h = (h.0, h.1, n)
kind_is Minus front rest n h = absurd h
kind_is k front rest n h = h

-- A text that begins with neither a digit nor a minus doesn't begin as a number of `syn`'s grammar.
no_minus : (t : List ℕ) → first_passes is_ascii_digit t ≡ false → first_passes (λ c. c == 45) t ≡ false
    → first_passes is_number_front t ≡ false
no_minus [] d m = refl
no_minus (c ∷ cs) d m = or_from (c == 45) (is_ascii_digit c) m d

pub strict_word : (t : List ℕ) (flaw : FoundFlaw) → first_passes is_ascii_digit t ≡ false → first_passes (λ c. c == 45)
    t ≡ false → opener_at t ≡ None → flaw ≡ word_flaw_at t → IsStrictFlaw IsStrictWordFlaw t flaw
strict_word t flaw d m none same =
    let f = word_place t flaw (no_minus t d m) none same in
    let s = f.stops in
    record {
      stops = record {
        front = s.front;
        text_is = s.text_is;
        begins = completable flaw.0 s.front flaw.1 (f.has s.front s.text_is);
        stuck = λ c cs e h y. s.stuck c cs e h (token_reads (s.front ++ (c ∷ e))
            (goes_on is_ascii_digit s.front flaw.1 t c cs e s.text_is h d) y);
      };
      has = λ front is. kind_is flaw.0 front flaw.1
          (λ e. ap (first_passes (λ c. c == 45)) (sym (is ∙ ap (λ z. z ++ flaw.1) e)) ∙ m) (f.has front is);
    }

-- Neither `true` nor `false` begins with a minus.
truth_other : (e : List ℕ) (b : Bool) → 45 ∷ e ≢ truth_text b
truth_other e true h = both_ways false refl (sym (ap (first_passes (λ z. z == 45)) h))
truth_other e false h = both_ways false refl (sym (ap (first_passes (λ z. z == 45)) h))

pub minus_no_token : (e : List ℕ) → IsToken (45 ∷ e) → ⊥
minus_no_token e y = no_token (45 ∷ e) (front_not_quoted (45 ∷ e) refl) refl (truth_other e) y

-- A text that begins with a minus has the flaw `Minus` at its beginning.
pub strict_minus : (t : List ℕ) (k : FlawKind) (rest : List ℕ) → first_passes (λ c. c == 45) t ≡ true → k ≡ Minus → rest
    ≡ t → IsStrictFlaw IsStrictWordFlaw t (k, rest)
strict_minus t k rest m kind place =
    let there : IsStrictFlaw IsStrictWordFlaw t (Minus, t) = record {
      stops = record {
        front = [];
        text_is = refl;
        begins = empty_begun [] refl;
        stuck = λ c cs e h y. minus_stuck c e (sym (ap (first_passes (λ z. z == 45)) h) ∙ m) y;
      };
      has = λ front is. (append_cancel_right front [] t (sym is), m);
    } in
    subst (λ z. IsStrictFlaw IsStrictWordFlaw t (z, rest)) (sym kind)
    (subst (λ z. IsStrictFlaw IsStrictWordFlaw t (Minus, z)) (sym place) there)
  where
    minus_stuck : (c : ℕ) (e : List ℕ) → (c == 45) ≡ true → IsToken (c ∷ e) → ⊥
    minus_stuck c e h y =
        minus_no_token e (subst (λ z. IsToken (z ∷ e)) (eqb-true c 45 h) y)
