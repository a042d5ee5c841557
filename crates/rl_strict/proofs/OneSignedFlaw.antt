-- At most one flaw explains why a text is neither a literal token nor a minus and a number. At most one flaw explains why a
-- text is an integer above 128 bits.
use Rattle.rl_strict.proofs.Names.{◌≡◌, ℕ, ◌+◌, ◌==◌, false, List, [], ◌∷◌, ◌++◌, refl, sym, ap, subst, ◌∙◌, inl, inr, append_cancel_right, both_ways, is_ascii_digit, byte_len, first_passes, front_passes, int_once, IsToken, Flaw, FlawKind, NoNumber, UnexpectedEnd, IsCompletable, StopsBefore, first_len, ExplainsValue, IsLimitFlaw, IsExplainedOnce, ExplainsSigned, IsMinusFlawOf, IsSignedFlawOf, IsSignedToken, LacksNumber}
use Rattle.rl_strict.proofs.OneStrictFlaw.{Explained, explained_once, flaw_same, kinds_once, number_once}
use Rattle.rl_strict.proofs.ReadNumbers.{one_digit}
use Rattle.rl_strict.proofs.SignedFlaws.{unsigned}

-- ---- texts without a minus

-- If a text doesn't begin with a minus, and can be completed to a literal token or to a minus and a number, it can be
-- completed to a literal token.
completed : (front : List ℕ) → first_passes (λ c. c == 45) front ≡ false → IsCompletable IsSignedToken front
    → IsCompletable IsToken front
completed [] n b = record { ending = 49 ∷ []; are_characters = (refl, tt); is_taken = one_digit 49 refl }
completed (c ∷ cs) n b = record {
  ending = b.ending;
  are_characters = b.are_characters;
  is_taken = unsigned (c ∷ (cs ++ b.ending)) n b.is_taken;
}

unsigned_stops : (t rest : List ℕ) → first_passes (λ c. c == 45) t ≡ false → StopsBefore IsSignedToken t rest
    → StopsBefore IsToken t rest
unsigned_stops t rest n s = record {
  front = s.front;
  text_is = s.text_is;
  begins = completed s.front (front_passes (λ c. c == 45) s.front rest t s.text_is n) s.begins;
  stuck = λ c cs e h y. s.stuck c cs e h (inl y);
}

-- ---- texts that begin with a minus

-- If a text begins with a minus, the longest prefix that can be completed contains the minus.
number_cut : (t number rest : List ℕ) → t ≡ 45 ∷ number → StopsBefore IsSignedToken t rest
    → (front : List ℕ) × (number ≡ front ++ rest)
number_cut t number rest e s = go s.front (sym e ∙ s.text_is) s.stuck
  where
    go : (front : List ℕ) → 45 ∷ number ≡ front ++ rest → ((c : ℕ) (cs ending : List ℕ) → rest ≡ c ∷ cs → IsSignedToken
        (front ++ (c ∷ ending)) → ⊥) → (f : List ℕ) × (number ≡ f ++ rest)
    go [] h stuck = absurd (stuck 45 number (49 ∷ []) (sym h) (inr (49 ∷ [], refl, refl, one_digit 49 refl)))
    go (c ∷ cs) h stuck = let same : 45 ∷ number ≡ c ∷ (cs ++ rest) = h in (cs, cc)

-- The kind of flaw if no digit follows a minus. The argument is the text after the minus.
lack_of : List ℕ → FlawKind
lack_of [] = UnexpectedEnd
lack_of (c ∷ cs) = NoNumber

lack_is : (k : FlawKind) (rest : List ℕ) → LacksNumber k rest → k ≡ lack_of rest
unfolding lack_of
lack_is NoNumber [] h = absurd (h refl)
lack_is NoNumber (c ∷ cs) h = refl
lack_is UnexpectedEnd [] h = refl
lack_is UnexpectedEnd (c ∷ cs) h = absurd (cc)
lack_is k rest h = absurd h

minus_once : (k l : FlawKind) (t number rest : List ℕ) → t ≡ 45 ∷ number → StopsBefore IsSignedToken t rest
    → IsMinusFlawOf k number rest → IsMinusFlawOf l number rest → k ≡ l
minus_once k l t number rest e s p q = go p q
  where
    go : IsMinusFlawOf k number rest → IsMinusFlawOf l number rest → k ≡ l
    go (inl a) (inl b) =
        let cut = number_cut t number rest e s in
        number_once k l cut.0 rest (a.1 cut.0 cut.1) (b.1 cut.0 cut.1)
    go (inl a) (inr b) = absurd (both_ways (first_passes is_ascii_digit number) b.0 a.0)
    go (inr a) (inl b) = absurd (both_ways (first_passes is_ascii_digit number) a.0 b.0)
    go (inr a) (inr b) = lack_is k rest a.2 ∙ sym (lack_is l rest b.2)

-- ---- texts with or without a minus

signed_kinds : (k l : FlawKind) (t pa pb rest : List ℕ) → StopsBefore IsSignedToken t rest
    → IsSignedFlawOf k t pa rest → IsSignedFlawOf l t pb rest → (k ≡ l) × (pa ≡ pb)
signed_kinds k l t pa pb rest s p q = go p q
  where
    minus : (number : List ℕ) → t ≡ 45 ∷ number → first_passes (λ c. c == 45) t ≡ false → ⊥
    minus number e n = both_ways (first_passes (λ c. c == 45) t) n (ap (first_passes (λ c. c == 45)) e)

    go : IsSignedFlawOf k t pa rest → IsSignedFlawOf l t pb rest → (k ≡ l) × (pa ≡ pb)
    go (inl a) (inl b) = kinds_once k l t pa pb rest (unsigned_stops t rest a.0 s) a.1 b.1
    go (inl a) (inr b) = absurd (minus b.0 b.1 a.0)
    go (inr a) (inl b) = absurd (minus a.0 a.1 b.0)
    go (inr (m, e, x, pe)) (inr (n, h, y, qe)) =
        let joined : 45 ∷ m ≡ 45 ∷ n = sym e ∙ h in
        let same : m ≡ n = cc in
        (minus_once k l t m rest e s x (subst (λ z. IsMinusFlawOf l z rest) (sym same) y), pe ∙ sym qe)

pub signed_once : (t : List ℕ) → IsExplainedOnce ExplainsSigned t
signed_once t a b p q =
    explained_once IsSignedToken (λ k piece rest. IsSignedFlawOf k t piece rest) t
    (λ k l pa pb rest s. signed_kinds k l t pa pb rest s) a b (of a p) (of b q)
  where
    of : (flaw : Flaw) → ExplainsSigned t flaw
        → Explained IsSignedToken (λ k piece rest. IsSignedFlawOf k t piece rest) t flaw
    of flaw x = record {
      place = x.place;
      before = x.before;
      piece = x.piece;
      text_is = x.text_is;
      from_is = x.from_is;
      kind = x.kind;
    }

-- ---- integers above 128 bits

pub limit_once : (t : List ℕ) (a b : Flaw) → IsLimitFlaw t a → IsLimitFlaw t b → a ≡ b
limit_once t a b p q =
    let x = p.past in
    let y = q.past in
    let suffix = (int_once t x.suffix y.suffix x.sign y.sign x.magnitude y.magnitude x.reads y.reads).2 in
    let number = append_cancel_right p.number q.number y.suffix
    (ap (λ z. p.number ++ z) (sym suffix) ∙ sym p.text_is ∙ q.text_is) in
    let lo = p.lo_is ∙ ap byte_len number ∙ sym q.lo_is in
    let hi = p.hi_is ∙ ap (λ z. z + first_len x.suffix) lo ∙ ap (λ z. b.lo + first_len z) suffix ∙ sym q.hi_is in
    flaw_same a b (p.kind_is ∙ sym q.kind_is) (p.from_is ∙ sym q.from_is) lo hi

-- At most one flaw explains why a text has no value, since a text that isn't a literal token isn't an integer above 128
-- bits.
pub value_once : (t : List ℕ) → IsExplainedOnce ExplainsValue t
value_once t a b p q = go p q
  where
    go : ExplainsValue t a → ExplainsValue t b → a ≡ b
    go (inl x) (inl y) = signed_once t a b x y
    go (inl x) (inr y) = absurd (x.no_token y.0)
    go (inr x) (inl y) = absurd (y.no_token x.0)
    go (inr x) (inr y) = limit_once t a b x.1 y.1
