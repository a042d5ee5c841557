-- The last byte of a text decides whether its last character is `#` or `.`.
use Rattle.rl_syntax.proofs.Common.{◌≡◌, ℕ, suc, ◌<◌, ◌≤◌, ◌-◌, ◌||◌, Bool, true, false, not, ◌==◌, List, [], ◌∷◌, ◌++◌, length, get_or, refl, sym, ap, ◌∙◌, inl, inr, arith, nat_tests, append-nil, cases_lt, encode_utf8, encode_utf8_all, encodes-chars, encode_ascii, IsUtf8}
use Rattle.std.specs.Str.{chars}
use Rattle.rl_syntax.proofs.LowBytes.{AllHigh, encode_is_high}
use Rattle.rl_style.specs.Around.{may_precede_quote}

abbrev is_end : ℕ → Bool
is_end b = b == 35 || b == 46

abbrev last_byte : List ℕ → ℕ
last_byte [] = 0
last_byte (b ∷ []) = b
last_byte (b ∷ c ∷ t) = last_byte (c ∷ t)

last_is : (xs : List ℕ) → get_or xs (length xs - 1) 0 ≡ last_byte xs
last_is [] = refl
last_is (b ∷ []) = refl
last_is (b ∷ c ∷ t) =
    let e : suc (suc (length t)) - 1 ≡ suc (length t) = omega arith in
    let f : length t ≡ suc (length t) - 1 = omega arith in
    ap (λ n. get_or (b ∷ c ∷ t) n 0) e ∙ ap (λ n. get_or (c ∷ t) n 0) f ∙ last_is (c ∷ t)

last_join : (xs : List ℕ) (y : ℕ) (ys : List ℕ) → last_byte (xs ++ (y ∷ ys)) ≡ last_byte (y ∷ ys)
last_join [] y ys = refl
last_join (x ∷ []) y ys = refl
last_join (x ∷ z ∷ xs) y ys = last_join (z ∷ xs) y ys

-- The UTF-8 bytes of the character `c`: `first`, and the others. The last byte is `#` or `.` if and only if the character is.
record Bytes (c : ℕ) : Type 0 where
  first : ℕ
  more : List ℕ
  same : encode_utf8 c ≡ first ∷ more
  ends : is_end c ≡ is_end (last_byte (first ∷ more))

no_end : (b : ℕ) → 128 ≤ b → is_end b ≡ false
no_end b h = grind (arith, nat_tests)

high_end : (b : ℕ) (bs : List ℕ) → 128 ≤ b → AllHigh bs → is_end (last_byte (b ∷ bs)) ≡ false
high_end b [] h more = no_end b h
high_end b (x ∷ bs) h (is, more) = high_end x bs is more

bytes_of : (c : ℕ) → Bytes c
bytes_of c =
    elim (cases_lt c 128) [
      | inl low ↦ record { first = c; more = []; same = encode_ascii c low; ends = refl }
      | inr wide ↦
          let (b, bs, same, high, more) = encode_is_high c wide in
          record { first = b; more = bs; same = same; ends = no_end c wide ∙ sym (high_end b bs high more) }
    ]

ends_so : (c : ℕ) (cs : List ℕ) → may_precede_quote (c ∷ cs) ≡ not (is_end (last_byte (encode_utf8_all (c ∷ cs))))
ends_so c [] =
    let b = bytes_of c in
    ap not (b.ends ∙ ap (λ z. is_end (last_byte z)) (sym (append-nil (encode_utf8 c) ∙ b.same)))
ends_so c (d ∷ cs) =
    let b = bytes_of d in
    let rest : encode_utf8_all (d ∷ cs) ≡ b.first ∷ (b.more ++ encode_utf8_all cs) =
    ap (λ z. z ++ encode_utf8_all cs) b.same in
    ends_so d cs ∙ ap (λ z. not (is_end z)) (ap last_byte rest
    ∙ sym (ap (λ z. last_byte (encode_utf8 c ++ z)) rest ∙ last_join (encode_utf8 c) b.first (b.more
    ++ encode_utf8_all cs)))

-- A nonempty text satisfies `may_precede_quote` if and only if its last byte is neither `#` nor `.`.
pub ends_by_byte : (t : List ℕ) → IsUtf8 t → 1 ≤ length t
    → may_precede_quote (chars t) ≡ not (is_end (get_or t (length t - 1) 0))
ends_by_byte t u some = go (chars t) (encodes-chars t u)
  where
    go : (cs : List ℕ) → encode_utf8_all cs ≡ t → may_precede_quote cs ≡ not (is_end (get_or t (length t - 1) 0))
    go [] e = let n : 0 ≡ length t = ap length e in absurd (omega (arith, n, some))
    go (c ∷ cs) e = ends_so c cs ∙ ap (λ z. not (is_end z)) (ap last_byte e ∙ sym (last_is t))

-- The empty text satisfies `may_precede_quote`.
pub empty_ends : (t : List ℕ) → length t < 1 → true ≡ may_precede_quote (chars t)
unfolding chars
empty_ends [] h = refl
empty_ends (b ∷ t) h = absurd (omega (arith, h))
