-- The position where a text that begins with a minus can't continue as a literal token or as a negative number.
use Rattle.rl_strict.proofs.Names.{◌≡◌, ℕ, ◌==◌, true, false, List, [], ◌∷◌, ◌++◌, refl, sym, ap, subst, ◌∙◌, inl, inr, both_ways, is_ascii_digit, first_passes, NoNumber, UnexpectedEnd, StopsBefore, IsMinusFlawOf, IsSignedToken, IsToken, FoundFlaw, passes_more, end_flaw_at}
use Rattle.rl_strict.proofs.ReadNumbers.{goes_on as digit_goes_on, one_digit}
use Rattle.rl_strict.proofs.StrictWordFlaws.{minus_no_token}
use Rattle.rl_strict.proofs.Stops.{Flawed, raised}

-- ---- the text after a minus

-- In a negative number, the text after the minus is a number: it begins with a digit, and is a literal token.
pub number_of : (t : List ℕ) → IsSignedToken (45 ∷ t) → (first_passes is_ascii_digit t ≡ true) × IsToken t
number_of t (inl c) = absurd (minus_no_token t c)
number_of t (inr (n, e, d, c)) =
    let same : n ≡ t = cc in
    (subst (λ z. first_passes is_ascii_digit z ≡ true) same d, subst IsToken same c)

-- ---- the position where the number after a minus stops

pub number_stops : (t rest : List ℕ) → first_passes is_ascii_digit t ≡ true → StopsBefore IsToken t rest
    → StopsBefore IsSignedToken (45 ∷ t) rest
number_stops t rest d s = raised IsToken IsSignedToken (45 ∷ []) t rest s
    (λ y. inr (
      s.front ++ s.begins.ending,
      refl,
      passes_more is_ascii_digit s.front s.begins.ending
          (digit_goes_on t s.front rest s.text_is s.stuck d),
      y,
    ))
    (λ c cs e h y. (number_of (s.front ++ (c ∷ e)) y).1)

-- The flaw of a text that begins with a minus. The argument is the text after the minus.
abbrev pub AfterMinus : List ℕ → FoundFlaw → Type 0
AfterMinus t flaw = Flawed IsSignedToken (45 ∷ t) flaw.1 (IsMinusFlawOf flaw.0 t flaw.1)

no_digit_stops : (t : List ℕ) → first_passes is_ascii_digit t ≡ false → StopsBefore IsSignedToken (45 ∷ t) t
no_digit_stops t n = record {
  front = 45 ∷ [];
  text_is = refl;
  begins = record { ending = 49 ∷ []; are_characters = (refl, tt); is_taken = inr (49 ∷ [], refl, refl, one_digit 49 refl) };
  stuck = λ c cs e h y. both_ways (is_ascii_digit c) (sym (ap (first_passes is_ascii_digit) h) ∙ n)
      (number_of (c ∷ e) y).0;
}

no_digit_flaw : (t : List ℕ) → first_passes is_ascii_digit t ≡ false → AfterMinus t (end_flaw_at UnexpectedEnd NoNumber t)
no_digit_flaw [] n = record { stops = no_digit_stops [] n; has = inr (n, refl, refl) }
no_digit_flaw (c ∷ cs) n = record { stops = no_digit_stops (c ∷ cs) n; has = inr (n, refl, λ e. absurd (cc)) }

pub no_digit : (t : List ℕ) (flaw : FoundFlaw) → first_passes is_ascii_digit t ≡ false → flaw
    ≡ end_flaw_at UnexpectedEnd NoNumber t → AfterMinus t flaw
no_digit t flaw n same = subst (AfterMinus t) (sym same) (no_digit_flaw t n)

-- ---- texts without a minus

-- If a text that begins with no minus is a literal token or a negative number, it is a literal token.
pub unsigned : (t : List ℕ) → first_passes (λ c. c == 45) t ≡ false → IsSignedToken t → IsToken t
unsigned t n (inl c) = c
unsigned t n (inr (m, e, d, c)) = absurd (both_ways (first_passes (λ c. c == 45) t) n
    (ap (first_passes (λ c. c == 45)) e))

-- ---- the number of bytes of a text with a minus, before and after the flaw
