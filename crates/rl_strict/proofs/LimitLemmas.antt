-- Integers above 128 bits: the byte offset of their suffix. Any other literal token parses by `syn`'s grammar.
use Rattle.rl_strict.proofs.Names.{◌≡◌, ℕ, ◌+◌, ◌-◌, ◌<◌, ◌≤◌, ◌⊎◌, ◌||◌, ◌==◌, Bool, true, false, cond, List, [], ◌∷◌, ◌++◌, length, take, Some, None, refl, sym, ap, subst, ◌∙◌, inl, inr, cases_Bool, cases_lt, is_ascii_digit, IsUtf8, IsUtf8-take, Int, Float, Contents, Digits, NoSign, Sign, first_passes, limit, HasNoReading, HasReading, IsPast, byte_len, drop, IsCharBoundary, le-leb, lt-leb, IsTail, IntReads, dec, StrictFloat, StrictInt, begins_number, int_front, float_strict_reads, minus_int, signed_float, strict_float, strict_int, suffix_in, is_number_front, only_number, Reading, Unit, Integer, AFloat, Truth, suffix_at_if_above_128_bits, IsSignedToken, capped, IsSignedRead, IsToken, cut_boundary, cut_chars, within_reads, place_value}
use Rattle.rl_syntax.proofs.Common.{chars}
use Rattle.rl_lenient.proofs.Names.{Minus}
use Rattle.rl_lenient.proofs.NumberLemmas.{past_number}
use Rattle.rl_strict.proofs.DecLemmas.{dec_spells}
use Rattle.rl_strict.proofs.StrictLemmas.{truth_token}
use Rattle.rl_strict.specs.declared.strict_reading.Reading.TheVariants.{Text}
use Rattle.rl_strict.proofs.StrictExplainLemmas.{cut_bytes}
use Rattle.rl_strict.proofs.StrictTokens.{token_number, token_reads, truth_no_digit}

-- ---- the byte offset of the suffix

-- A text is a prefix followed by an end of the text. The text has as many bytes as the prefix and the end together.
pub front_of : (t rest : List ℕ) → IsUtf8 t → IsTail t rest → (front : List ℕ) × (chars t ≡ front ++ chars rest)
    × (length t ≡ byte_len front + length rest)
front_of t rest u tail =
    let front : List ℕ = take (length t - length rest) t in
    let cut = cut_chars t front rest (IsUtf8-take t (length t - length rest) u (cut_boundary t rest tail)) tail refl in
    (chars front, cut, cut_bytes t rest (chars front) u tail.is_text cut)

-- ---- literal tokens

either_int : (t x : List ℕ) (v : Contents) → StrictInt t v x → HasReading t ⊎ IsPast t
either_int t x v s =
    let i = strict_int t x v s in
    elim (cases_lt limit i.magnitude) [
      | inl past ↦ inr (record { sign = NoSign; magnitude = i.magnitude; suffix = x; reads = i.reads; past = past })
      | inr small ↦
          let r = within_reads t x i.magnitude (record { sign = NoSign; reads = i.reads; within = small }) in
          inl (Int, (r.0, x, r.1))
    ]

either_minus : (t x : List ℕ) (v : Contents) → StrictInt t v x → HasReading (45 ∷ t) ⊎ IsPast (45 ∷ t)
either_minus t x v s =
    let i = strict_int t x v s in
    let reads = minus_int t x i.magnitude i.reads in
    elim (cases_lt limit i.magnitude) [
      | inl past ↦ inr (record { sign = Minus; magnitude = i.magnitude; suffix = x; reads = reads; past = past })
      | inr small ↦
          let r = within_reads (45 ∷ t) x i.magnitude (record { sign = Minus; reads = reads; within = small }) in
          inl (Int, (r.0, x, r.1))
    ]

float_minus : (t x : List ℕ) (v : Contents) → StrictFloat t v x → HasReading (45 ∷ t)
float_minus t x v s = (Float, (_, x, signed_float Minus t x v (strict_float t x v s)))

unsigned_reads : (t : List ℕ) → IsToken t → HasReading t ⊎ IsPast t
unsigned_reads t y = elim (cases_Bool (first_passes is_ascii_digit t)) [
  | inl digit ↦
      let (contents, suffix, strict) = token_number t digit y in
      elim strict [
        | inl s ↦ either_int t suffix contents s
        | inr s ↦ inl (Float, (contents, suffix, float_strict_reads t suffix contents s))
      ]
  | inr none ↦ inl (token_reads t none y)
]

minus_reads : (number : List ℕ) → first_passes is_ascii_digit number ≡ true → IsToken number
    → HasReading (45 ∷ number) ⊎ IsPast (45 ∷ number)
minus_reads number digit y =
    let (contents, suffix, strict) = token_number number digit y in
    elim strict [
      | inl s ↦ either_minus number suffix contents s
      | inr s ↦ inl (float_minus number suffix contents s)
    ]

-- A literal token, or a minus and a number, either parses by `syn`'s grammar or is an integer above 128 bits.
pub either : (t : List ℕ) → IsSignedToken t → HasReading t ⊎ IsPast t
either t (inl y) = unsigned_reads t y
either t (inr (number, text, digit, y)) =
    subst (λ z. HasReading z ⊎ IsPast z) (sym text) (minus_reads number digit y)

pub unread_past : (t : List ℕ) → HasNoReading t → IsSignedToken t → IsPast t
unread_past t none y = elim (either t y) [
  | inl r ↦ absurd (none r.0 r.1.0 r.1.1 r.1.2)
  | inr p ↦ p
]

-- ---- conclusions from the parse result

-- An integer above 128 bits doesn't parse by `syn`'s grammar.
past_none : (t : List ℕ) → IsPast t → HasNoReading t
past_none t p = only_number t (number_front t (int_front t p.suffix p.sign p.magnitude p.reads)) (past_number t p)
  where
    number_front : (t : List ℕ) → begins_number t ≡ true → first_passes is_number_front t ≡ true
    number_front [] h = h
    number_front (c ∷ cs) h = swap (is_ascii_digit c) (c == 45) h
      where
        swap : (a b : Bool) → (a || b) ≡ true → (b || a) ≡ true
        swap true true h = refl
        swap true false h = refl
        swap false true h = refl
        swap false false h = h

-- A text that parses by `syn`'s grammar isn't an integer above 128 bits.
pub read_within : (t : List ℕ) → HasReading t → IsPast t → ⊥
read_within t r p = past_none t p r.0 r.1.0 r.1.1 r.1.2

-- If the value of an integer without a minus is the decimal digits of `n`, the integer's magnitude is `n` by `syn`'s
-- grammar.
digits_read : (t x : List ℕ) (n : ℕ) → StrictInt t (Digits (dec n)) x → IntReads t NoSign n x
digits_read t x n s =
    let i = strict_int t x (Digits (dec n)) s in
    let e : Digits (dec n) ≡ Digits (dec i.magnitude) = i.contents_is in
    let same : dec n ≡ dec i.magnitude = cc in
    let number : i.magnitude ≡ n = sym (dec_spells i.magnitude) ∙ ap (place_value 10) (sym same) ∙ dec_spells n in
    subst (λ z. IntReads t NoSign z x) number i.reads

minus_read : (t number x : List ℕ) (n : ℕ) → chars t ≡ 45 ∷ number → StrictInt number (Digits (dec n)) x
    → IntReads (chars t) Minus n x
minus_read t number x n text s =
    subst (λ z. IntReads z Minus n x) (sym text) (minus_int number x n (digits_read number x n s))

over : (n : ℕ) → None ≡ capped n → limit < n
over n h = elim (cases_lt limit n) [
  | inl past ↦ past
  | inr small ↦ let some : None ≡ Some n = h ∙ ap (λ b. cond b (Some n) None) (le-leb n limit small) in absurd (cc)
]

under : (n m : ℕ) → Some m ≡ capped n → n ≤ limit
under n m h = elim (cases_lt limit n) [
  | inl past ↦ let none : Some m ≡ None = h ∙ ap (λ b. cond b (Some n) None) (lt-leb n limit past) in absurd (cc)
  | inr small ↦ small
]

past_of : (t x : List ℕ) (s : Sign) (n : ℕ) → IntReads t s n x → None ≡ capped n → (past : IsPast t)
    × (past.suffix ≡ x)
past_of t x s n r h = (record { sign = s; magnitude = n; suffix = x; reads = r; past = over n h }, refl)

within_of : (t x : List ℕ) (s : Sign) (n m : ℕ) → IntReads t s n x → Some m ≡ capped n → HasReading t
within_of t x s n m r h =
    let w = within_reads t x n (record { sign = s; reads = r; within = under n m h }) in
    (Int, (w.0, x, w.1))

-- An integer whose parse result has the magnitude `None` is above 128 bits. The byte offset in the parse result is where the
-- integer's suffix begins.
pub signed_past : (t : List ℕ) (r : Reading) (at : ℕ) → IsSignedRead t r → suffix_at_if_above_128_bits r ≡ Some at → IsCharBoundary t at
    × ((past : IsPast (chars t)) × (past.suffix ≡ chars (drop at t)))
signed_past t (Integer None k) at y e =
    let same : k ≡ at = cc in
    subst (λ z. IsCharBoundary t z × ((past : IsPast (chars t)) × (past.suffix ≡ chars (drop z t)))) same (elim y [
      | inl u ↦ (
        u.0,
        past_of (chars t) (chars (drop k t)) NoSign u.1.0
            (digits_read (chars t) (chars (drop k t)) u.1.0 u.1.1) u.1.2,
      )
      | inr m ↦ (
        m.2,
        past_of (chars t) (chars (drop k t)) Minus m.3.0 (minus_read t m.0 (chars (drop k t)) m.3.0 m.1 m.3.1) m.3.2,
      )
    ])
signed_past t r at y e = absurd (cc)

-- The parse result of an integer above 128 bits is an integer with the magnitude `None`.
pub signed_within : (t : List ℕ) (r : Reading) → IsSignedRead t r → suffix_at_if_above_128_bits r ≡ None → IsPast (chars t) → ⊥
signed_within t r y e p = read_within (chars t) (reading t r y e) p
  where
    reading : (t : List ℕ) (r : Reading) → IsSignedRead t r → suffix_at_if_above_128_bits r ≡ None → HasReading (chars t)
    reading t (Text kind body) (inl f) e = (kind, (f.reads.0, chars (suffix_in t body), f.reads.1))
    reading t (Unit kind body unit) (inl f) e = (kind, (f.reads.0, chars (suffix_in t body), f.reads.1))
    reading t (Integer (Some m) at) (inl (b, i)) e = within_of (chars t) (chars (drop at t)) NoSign i.0 m
        (digits_read (chars t) (chars (drop at t)) i.0 i.1) i.2
    reading t (Integer None at) y e = absurd (cc)
    reading t (AFloat at) (inl (b, f)) e =
        (Float, (f.0, chars (drop at t), float_strict_reads (chars t) (chars (drop at t)) f.0 f.1))
    reading t (Truth b) (inl same) e = token_reads (chars t) (ap (first_passes is_ascii_digit) same ∙ truth_no_digit b)
        (truth_token (chars t) b same)
    reading t (Integer (Some m) at) (inr (number, text, b, i)) e = within_of (chars t) (chars (drop at t)) Minus i.0 m
        (minus_read t number (chars (drop at t)) i.0 text i.1) i.2
    reading t (AFloat at) (inr (number, text, b, f)) e =
        subst HasReading (sym text) (float_minus number (chars (drop at t)) f.0 f.1)
    reading t r (inr y) e = absurd y
