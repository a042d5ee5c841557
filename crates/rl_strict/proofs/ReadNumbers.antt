-- The code's parser of numbers returns what the grammar defines: a number, or the position where the text can't continue.
use Rattle.rl_strict.proofs.Names.{None, ◌≡◌, ◌≢◌, ◌||◌, ℕ, Bool, true, false, ◌==◌, cond, List, [], ◌∷◌, ◌++◌, Some, refl, ap, subst, sym, ◌∙◌, append_cancel_right, and_from, both_ways, is_ascii_digit, first_passes, or_left, Result, Ok, Err, IfOk, IfErr, chars, after_digits, radix_at, is_some_text, passes_more, IsToken, FlawKind, BadSuffix, NoFractionDigit, Number, IsDigitFlaw, IsStrictNumberFlaw, IsNumberRead, IsStop, suffix_rest, Ending, NumberRead, digits_end_at, ended, fraction_end_at, number_outcome, number_read_at, stopped, suffix_end_at}
use Rattle.rl_strict.specs.declared.read_numbers.Number.TheVariants.{Integer, Float}
use Rattle.rl_strict.specs.declared.read_numbers.Stop.{Stop}
use Rattle.rl_strict.proofs.NumberEnds.{Fails, Passes, decimal_is, end_of, is_read, number_end_at, whole_plain}
use Rattle.rl_strict.proofs.NumberTokens.{number_passes}
use Rattle.rl_strict.proofs.StrictNumberFlaws.{ReadJudged, Says, TailFlaw, number_is_token, number_judged}
use Rattle.rl_strict.proofs.StrictNumberKinds.{digit_kind}
use Rattle.rl_strict.proofs.StrictTokens.{token_number}
use Rattle.rl_strict.proofs.Stops.{Stops}

-- ---- results of the functions that parse a number's parts

pub empty_end : (t : List ℕ) → is_some_text t ≡ false → ended t ≡ suffix_end_at t
unfolding suffix_end_at suffix_rest
empty_end [] h = refl
empty_end (c ∷ cs) h = absurd (both_ways true h refl)

pub fraction_empty : (t : List ℕ) → is_some_text t ≡ false → ended t ≡ fraction_end_at t
unfolding fraction_end_at
fraction_empty [] h = refl
fraction_empty (c ∷ cs) h = absurd (both_ways true h refl)

pub fraction_stops : (t : List ℕ) → is_some_text t ≡ true → first_passes is_ascii_digit t ≡ false
    → stopped NoFractionDigit t ≡ fraction_end_at t
unfolding fraction_end_at
fraction_stops [] some h = absurd (both_ways true (sym some) refl)
fraction_stops (c ∷ cs) some h = sym (ap (λ b. cond b (digits_end_at (after_digits 10 (c ∷ cs)))
    (stopped NoFractionDigit (c ∷ cs))) h)

pub word_end : (t : List ℕ) → suffix_rest t ≡ [] → ended t ≡ suffix_end_at t
unfolding suffix_end_at
word_end t h = sym (ap (λ z. cond (is_some_text z) (stopped BadSuffix z) (ended t)) h)

-- ---- the position where a number stops

-- A digit alone is a number.
pub one_digit : (c : ℕ) → is_ascii_digit c ≡ true → IsToken (c ∷ [])
unfolding radix_at suffix_end_at suffix_rest
one_digit c h = number_is_token (c ∷ []) h (ap is_read (decimal_is (c ∷ []) (c ∷ []) [] refl refl
    (h, and_from (is_ascii_digit c || (c == 95)) true (or_left (is_ascii_digit c) (c == 95) h) refl) refl
    ∙ whole_plain [] refl))

-- If a text begins with a digit, the text before its flaw begins with a digit too.
pub goes_on : (t front rest : List ℕ) → t ≡ front ++ rest → ((c : ℕ) (cs e : List ℕ) → rest ≡ c ∷ cs
    → IsToken (front ++ (c ∷ e)) → ⊥) → first_passes is_ascii_digit t ≡ true → first_passes is_ascii_digit front ≡ true
goes_on t (c ∷ cs) rest e stuck h = sym (ap (first_passes is_ascii_digit) e) ∙ h
goes_on t [] [] e stuck h = absurd (both_ways false refl (sym (ap (first_passes is_ascii_digit) e) ∙ h))
goes_on t [] (c ∷ cs) e stuck h = absurd
    (stuck c cs [] refl (one_digit c (sym (ap (first_passes is_ascii_digit) e) ∙ h)))

-- Replacing the text after a character of a text doesn't change whether the text's first character passes a test.
starts : (test : ℕ → Bool) (front rest t : List ℕ) (c : ℕ) (cs e : List ℕ) → t ≡ front ++ rest → rest ≡ c ∷ cs
    → first_passes test t ≡ true → first_passes test (front ++ (c ∷ e)) ≡ true
starts test [] rest t c cs e a b k = sym (ap (first_passes test) (a ∙ b)) ∙ k
starts test (x ∷ xs) rest t c cs e a b k = sym (ap (first_passes test) a) ∙ k

-- If the parser of numbers stops with a kind of flaw, the definition of this kind holds for the text before the flaw and the
-- text from the flaw on.
kind_says : (k : FlawKind) (front rest : List ℕ) → first_passes is_ascii_digit front ≡ true
    → (k ≡ BadSuffix → Passes number_end_at front × (rest ≢ [])) → number_end_at (front ++ rest) ≡ stopped k rest
    → Says k front rest → IsStrictNumberFlaw k front rest
kind_says BadSuffix front rest digit whole code says =
    let w = whole refl in (
      number_is_token front digit w.0,
      w.1,
      λ k h. none k (ap (λ (e : Ending). e.0) (sym code ∙ digit_kind k front rest h)) h,
    )
  where
    none : (k : FlawKind) → Some BadSuffix ≡ Some k → IsDigitFlaw k front rest → ⊥
    none k e h = let same : BadSuffix ≡ k = cc in subst (λ z. IsDigitFlaw z front rest) (sym same) h
kind_says k front rest digit whole code says = says

pub number_stop : (t : List ℕ) (k : FlawKind) (rest : List ℕ) → first_passes is_ascii_digit t ≡ true
    → stopped k rest ≡ number_end_at t → TailFlaw number_end_at [] t k rest → IsStop t k rest
number_stop t k rest d code f = record {
  none = λ y. both_ways (is_read (number_end_at t)) (sym (ap is_read code)) (number_passes t (token_number t d y));
  stops = record {
    front = s.front;
    text_is = s.text_is;
    begins = record {
      ending = s.begins.ending;
      are_characters = s.begins.are_characters;
      is_taken = number_is_token (s.front ++ s.begins.ending)
          (passes_more is_ascii_digit s.front s.begins.ending digit) s.begins.is_taken;
    };
    stuck = stuck;
  };
  kind = λ front is.
      let at : s.front ≡ front = append_cancel_right s.front front rest (sym s.text_is ∙ is) in
      subst (λ z. IsStrictNumberFlaw k z rest) at (kind_says k s.front rest digit f.whole
      (ap number_end_at (sym s.text_is) ∙ sym code) f.says);
}
  where
    s : Stops (Passes number_end_at) (Fails number_end_at) t rest
    s = f.stops

    stuck : (c : ℕ) (cs e : List ℕ) → rest ≡ c ∷ cs → IsToken (s.front ++ (c ∷ e)) → ⊥
    stuck c cs e h y =
        let z : List ℕ = s.front ++ (c ∷ e) in
        both_ways (is_read (number_end_at z)) (s.stuck c cs e h)
        (number_passes z (token_number z (starts is_ascii_digit s.front rest t c cs e s.text_is h d) y))

    digit : first_passes is_ascii_digit s.front ≡ true
    digit = goes_on t s.front rest s.text_is stuck d

-- ---- the parse result or the flaw of a number, from the result of the executable model

judged : (t : List ℕ) (r : NumberRead) → first_passes is_ascii_digit t ≡ true → r ≡ number_read_at t
    → ReadJudged t number_end_at [] t r
judged t r d e = subst (ReadJudged t number_end_at [] t) (sym e) (number_judged t d)

pub stop_of : (t : List ℕ) (k : FlawKind) (rest : List ℕ) → first_passes is_ascii_digit t ≡ true
    → ◌≡◌ {A = NumberRead} (Some k, None, rest) (number_read_at t) → IsStop t k rest
stop_of t k rest d e = number_stop t k rest d (ap end_of e) (judged t (Some k, None, rest) d e)

pub read_ok : (t : List ℕ) (r : Result Number Stop) → first_passes is_ascii_digit t ≡ true → number_outcome r
    ≡ number_read_at t → IfOk r (IsNumberRead t)
read_ok t (Ok (Integer m x)) d e = judged t (number_outcome (Ok (Integer m x))) d e
read_ok t (Ok (Float x)) d e = judged t (number_outcome (Ok (Float x))) d e
read_ok t (Err s) d e = tt

pub read_err : (t : List ℕ) (r : Result Number Stop) → first_passes is_ascii_digit t ≡ true → number_outcome r
    ≡ number_read_at t → IfErr r (λ s. IsStop t s.kind (chars s.rest.now))
read_err t (Ok (Integer m x)) d e = tt
read_err t (Ok (Float x)) d e = tt
read_err t (Err s) d e = stop_of t s.kind (chars s.rest.now) d e

pub read_token : (t : List ℕ) (r : Result Number Stop) → first_passes is_ascii_digit t ≡ true → number_outcome r
    ≡ number_read_at t → IfOk r (λ n. IsToken t)
read_token t (Ok (Integer m x)) d e = number_is_token t d (ap is_read (sym (ap end_of e)))
read_token t (Ok (Float x)) d e = number_is_token t d (ap is_read (sym (ap end_of e)))
read_token t (Err s) d e = tt
