-- A text is an integer exactly if `int_at` returns a result.
use Rattle.rl_syntax.proofs.Common.{◌≡◌, ℕ, ◌<◌, ◌≤◌, ◌⊎◌, Bool, true, false, not, ◌&&◌, ◌||◌, ◌==◌, cond, List, [], ◌∷◌, ◌++◌, Option, Some, None, refl, sym, ap, subst, ◌∙◌, arith, inl, inr, and_parts, and_from, both_ways, eqb-true, not-true, not_from_false, nat_tests, is_ascii_digit, list_all, list_any, IsTrue}
use Rattle.rl_lenient.proofs.Names.{false_from_ne_true, first_passes, xid_ok, is_run_part, place_value, without_underscores, Base, Binary, Octal, Decimal, Hexadecimal, radix, prefix, Sign, NoSign, Minus, sign_text, IsAfterPrefix, IsSuffix, is_exponent_letter, IntReads, limit, decimal, Contents, Digits, HasNoInteger, IsPast, after_run}
use Rattle.rl_syntax.specs.Texts.{begins}
use Rattle.rl_syntax.specs.Numbers.{begins_base, IsExponentSuffix, AllowsSuffix, capped}
use Rattle.rl_syntax.specs.Reading.{ReadsInt}
use Rattle.rl_syntax.proofs.Basics.{any_same, digit_is_ten}
use Rattle.rl_syntax.proofs.StrictNumbers.{no_part}
use Rattle.rl_lenient.specs.NumberShapes.{HasMagnitude}
use Rattle.rl_lenient.specs.Mirrors.NumberAt.{run, has_value, is_suffix, digit_run_at, has_digit_at, magnitude_at, after_digits, is_exponent_suffix, after_minus, sign_at, radix_at, may_begin_number, may_end, based_at, with_sign, int_at, capped_int}
use Rattle.rl_lenient.proofs.DigitRowLemmas.{within_or_past, capped_within, capped_past}
use Rattle.rl_lenient.proofs.RunLemmas.{run_all, run_ends, run_join, run_past, suffix_complete, suffix_sound}

-- If the text after the digits of an exponent is empty or an identifier, the text is a suffix.
rest_suffix : (x : List ℕ) → (x ≡ []) ⊎ IsTrue (xid_ok x) → first_passes (is_run_part (has_value 10)) x ≡ false
    → is_suffix x ≡ true
rest_suffix [] h k = refl
rest_suffix (c ∷ cs) h k = suffix_complete (c ∷ cs) (h, go (has_value 10 c) k)
  where
    go : (a : Bool) → (a || (c == 95)) ≡ false → (c == 95) ≡ false
    go true e = absurd (cc)
    go false e = e

-- A suffix that begins with an exponent (`IsExponentSuffix`) passes the test `is_exponent_suffix`.
pub exponent_suffix_complete : (x : List ℕ) → IsExponentSuffix x → is_exponent_suffix x ≡ true
unfolding is_exponent_suffix
exponent_suffix_complete x e =
    let p = run_past (is_run_part (has_value 10)) e.run e.rest e.each e.whole in
    let some : has_digit_at 10 (e.run ++ e.rest) ≡ true = ap (list_any (has_value 10)) p.0
    ∙ sym (any_same is_ascii_digit (has_value 10) digit_is_ten e.run) ∙ e.some in
    let ends : is_suffix (after_digits 10 (e.run ++ e.rest)) ≡ true = ap is_suffix p.1
    ∙ rest_suffix e.rest e.is_rest e.whole in
    ap is_exponent_suffix e.text_is ∙ and_from (is_exponent_letter e.letter) _ e.is_letter
    (and_from (has_digit_at 10 (e.run ++ e.rest)) _ some ends)

-- A text that passes the test `is_exponent_suffix` begins with an exponent (`IsExponentSuffix`).
pub exponent_suffix_sound : (x : List ℕ) → is_exponent_suffix x ≡ true → IsExponentSuffix x
unfolding is_exponent_suffix
exponent_suffix_sound [] h = absurd (cc)
exponent_suffix_sound (c ∷ cs) h =
    let a = and_parts (is_exponent_letter c) (has_digit_at 10 cs && is_suffix (after_digits 10 cs)) h in
    let b = and_parts (has_digit_at 10 cs) (is_suffix (after_digits 10 cs)) a.1 in
    record {
      letter = c;
      run = digit_run_at 10 cs;
      rest = after_digits 10 cs;
      is_letter = a.0;
      each = run_all (is_run_part (has_value 10)) cs;
      some = any_same is_ascii_digit (has_value 10) digit_is_ten (digit_run_at 10 cs) ∙ b.0;
      whole = run_ends (is_run_part (has_value 10)) cs;
      is_rest = (suffix_sound (after_digits 10 cs) b.1).0;
      text_is = ap (λ z. c ∷ z) (run_join (is_run_part (has_value 10)) cs);
    }

-- The functions `after_minus` and `sign_at` split off a sign before a text that begins with a digit.
pub minus_past : (s : Sign) (u : List ℕ) → first_passes is_ascii_digit u ≡ true → (after_minus (sign_text s ++ u) ≡ u)
    × (sign_at (sign_text s ++ u) ≡ s)
minus_past Minus u h = (refl, refl)
minus_past NoSign [] h = absurd (cc)
minus_past NoSign (c ∷ cs) h =
    let e : (c == 45) ≡ false = grind (arith, nat_tests) in
    (ap (λ b. cond b cs (c ∷ cs)) e, ap (λ b. cond b Minus NoSign) e)

-- For a text that doesn't begin with the prefix of another base, `radix_at` returns the base ten, and the text itself.
pub not_based : (t : List ℕ) → begins_base t ≡ false → radix_at t ≡ (10, t)
unfolding radix_at
not_based [] h = refl
not_based (z ∷ []) h = refl
not_based (z ∷ c ∷ cs) h = go (z == 48) (c == 98) (c == 111) (c == 120) h
  where
    go : (a b o x : Bool) → ((a && (b && true)) || (a && (o && true)) || (a && (x && true))) ≡ false
        → ◌≡◌ {A = ℕ × List ℕ} (cond {A = ℕ × List ℕ} (a && not (cond b 2 (cond o 8 (cond x 16 10)) == 10))
        (cond b 2 (cond o 8 (cond x 16 10)), cs) (10, z ∷ c ∷ cs)) (10, z ∷ c ∷ cs)
    go false b o x e = refl
    go true true o x e = absurd (cc)
    go true false true x e = absurd (cc)
    go true false false true e = absurd (cc)
    go true false false false e = refl

-- For the text of a number in a base, `radix_at` returns the base and the text after its prefix.
pub radix_past : (base : Base) (w : List ℕ) → IsAfterPrefix base w → (radix_at (prefix base ++ w) ≡ (radix base, w))
    × (first_passes is_ascii_digit (prefix base ++ w) ≡ true)
unfolding radix_at
radix_past Binary w h = (refl, refl)
radix_past Octal w h = (refl, refl)
radix_past Hexadecimal w h = (refl, refl)
radix_past Decimal w h = (not_based w h.1, h.0)

-- If a text may follow the prefix of a base (`IsAfterPrefix`), the text passes the test `may_begin_number`.
base_begins : (base : Base) (w : List ℕ) → IsAfterPrefix base w → may_begin_number (radix base) w ≡ true
base_begins Binary w h = refl
base_begins Octal w h = refl
base_begins Decimal w h = h.0
base_begins Hexadecimal w h = refl

-- If a base allows a suffix, the test `may_end` is true for the suffix.
base_ends : (base : Base) (x : List ℕ) → IsSuffix x → AllowsSuffix base x → may_end (radix base) x ≡ true
base_ends Binary x h k = and_from (is_suffix x) true (suffix_complete x h) refl
base_ends Octal x h k = and_from (is_suffix x) true (suffix_complete x h) refl
base_ends Hexadecimal x h k = and_from (is_suffix x) true (suffix_complete x h) refl
base_ends Decimal x h k = and_from (is_suffix x) (not (is_exponent_suffix x)) (suffix_complete x h)
    (not_from_false (is_exponent_suffix x) (false_from_ne_true (is_exponent_suffix x)
    (λ e. k (exponent_suffix_sound x e))))

-- `based_at` parses the digits of a number, and returns their value and the suffix after them.
based_past : (r : ℕ) (ds x : List ℕ) → may_begin_number r (ds ++ x) ≡ true → list_all (is_run_part (has_value r)) ds
    ≡ true → list_any (has_value r) ds ≡ true → first_passes (is_run_part (has_value r)) x ≡ false → may_end r x ≡ true
    → based_at r (ds ++ x) ≡ Some (place_value r (without_underscores ds), x)
unfolding based_at
based_past r ds x front each some stops ends =
    let p = run_past (is_run_part (has_value r)) ds x each stops in
    let Found : List ℕ → List ℕ → Option (ℕ × List ℕ) = λ row rest. cond
    (may_begin_number r (ds ++ x) && (list_any (has_value r) row && may_end r rest))
    (Some (place_value r (without_underscores row), rest)) None in
    ap (λ row. Found row (after_digits r (ds ++ x))) p.0
    ∙ ap (Found ds) p.1
    ∙ ap (λ b. cond b (Some (place_value r (without_underscores ds), x)) None)
    (and_from (may_begin_number r (ds ++ x)) _ front (and_from (list_any (has_value r) ds) _ some ends))

-- For each integer literal, `int_at` returns its sign, magnitude and suffix.
pub int_past : (t : List ℕ) (s : Sign) (m : ℕ) (x : List ℕ) → IntReads t s m x → int_at t ≡ Some (s, m, x)
unfolding int_at
int_past t s m x h =
    let w : List ℕ = h.digits ++ x in
    let u : List ℕ = prefix h.base ++ w in
    let q = radix_past h.base w h.front in
    let p = minus_past s u q.1 in
    let b = based_past (radix h.base) h.digits x (base_begins h.base w h.front) h.each h.some
    (no_part h.base x h.is_suffix h.is_suffix_of) (base_ends h.base x h.is_suffix h.is_suffix_of) in
    let Of : Sign → ℕ × List ℕ → Option (Sign × ℕ × List ℕ) = λ sg k. with_sign sg (based_at k.0 k.1) in
    ap int_at h.text_is
    ∙ ap (λ sg. Of sg (radix_at (after_minus (sign_text s ++ u)))) p.1
    ∙ ap (λ v. Of s (radix_at v)) p.0
    ∙ ap (Of s) q.0
    ∙ ap (with_sign s) b
    ∙ ap (λ n. Some (s, n, x)) (sym h.magnitude_is)

-- The base of a number with the text `t`, and the text after the base's prefix, as `radix_at` returns them. `t` is the
-- prefix and then that text.
pub record Based (t : List ℕ) : Type 0 where
  pub base : Base
  pub rest : List ℕ
  pub at : radix_at t ≡ (radix base, rest)
  pub text_is : t ≡ prefix base ++ rest
  pub front : may_begin_number (radix base) rest ≡ true → IsAfterPrefix base rest

-- If the test `begins` finds the given characters at the start of a text, the text is these characters, followed by another
-- text.
pub begins_is : (p t : List ℕ) → begins p t ≡ true → (rest : List ℕ) × (t ≡ p ++ rest)
begins_is [] t h = (t, refl)
begins_is (k ∷ p) [] h = absurd (cc)
begins_is (k ∷ p) (c ∷ cs) h =
    let b = and_parts (c == k) (begins p cs) h in
    let ih = begins_is p cs b.1 in
    let front : ℕ → List ℕ → List ℕ = λ a z. a ∷ z in
    (ih.0, ap (λ a. front a cs) (eqb-true c k b.0) ∙ ap (front k) ih.1)

-- A text that begins with `0b` is in base two.
based_binary : (cs : List ℕ) → Based (48 ∷ 98 ∷ cs)
unfolding radix_at
based_binary cs = record { base = Binary; rest = cs; at = refl; text_is = refl; front = λ h. tt }

-- A text that begins with `0o` is in base eight.
based_octal : (cs : List ℕ) → Based (48 ∷ 111 ∷ cs)
unfolding radix_at
based_octal cs = record { base = Octal; rest = cs; at = refl; text_is = refl; front = λ h. tt }

-- A text that begins with `0x` is in base sixteen.
based_hexadecimal : (cs : List ℕ) → Based (48 ∷ 120 ∷ cs)
unfolding radix_at
based_hexadecimal cs = record { base = Hexadecimal; rest = cs; at = refl; text_is = refl; front = λ h. tt }

-- A text without the prefix of a base is in base ten.
based_decimal : (t : List ℕ) → begins_base t ≡ false → Based t
based_decimal t h = record { base = Decimal; rest = t; at = not_based t h; text_is = refl; front = λ d. (d, h) }

-- For each text, `radix_at` returns a base and the text after the base's prefix.
pub based : (t : List ℕ) → Based t
based t = go (begins (prefix Binary) t) (begins (prefix Octal) t) (begins (prefix Hexadecimal) t) refl refl refl
  where
    go : (b o x : Bool) → begins (prefix Binary) t ≡ b → begins (prefix Octal) t ≡ o → begins (prefix Hexadecimal) t ≡ x
        → Based t
    go true o x hb ho hx = let w = begins_is (prefix Binary) t hb in subst (λ (z : List ℕ). Based z) (sym w.1)
        (based_binary w.0)
    go false true x hb ho hx = let w = begins_is (prefix Octal) t ho in subst (λ (z : List ℕ). Based z) (sym w.1)
        (based_octal w.0)
    go false false true hb ho hx = let w = begins_is (prefix Hexadecimal) t hx in subst (λ (z : List ℕ). Based z)
        (sym w.1) (based_hexadecimal w.0)
    go false false false hb ho hx = based_decimal t (ap (λ z. z || begins (prefix Octal) t
        || begins (prefix Hexadecimal) t) hb ∙ ap (λ z. false || z || begins (prefix Hexadecimal) t) ho
        ∙ ap (λ z. false || false || z) hx)

-- A text is its sign and the text after the sign.
pub sign_join : (t : List ℕ) → t ≡ sign_text (sign_at t) ++ after_minus t
sign_join [] = refl
sign_join (c ∷ cs) = go (c == 45) refl
  where
    go : (b : Bool) → (c == 45) ≡ b → c ∷ cs ≡ sign_text (cond b Minus NoSign) ++ cond b cs (c ∷ cs)
    go true h = ap (λ z. z ∷ cs) (eqb-true c 45 h)
    go false h = refl

-- If the first character of a text fails the test for hexadecimal digits and underscores, it fails the test for hexadecimal
-- digits.
pub hex_stops : (x : List ℕ) → first_passes (is_run_part (has_value 16)) x ≡ false → first_passes (has_value 16) x
    ≡ false
hex_stops [] h = refl
hex_stops (c ∷ cs) h = go (has_value 16 c) h
  where
    go : (a : Bool) → (a || (c == 95)) ≡ false → a ≡ false
    go true e = e
    go false e = refl

-- If the text after the digits of a number passes the test `may_end`, the base allows this suffix.
suffix_of : (base : Base) (x : List ℕ) → first_passes (is_run_part (has_value (radix base))) x ≡ false
    → may_end (radix base) x ≡ true → AllowsSuffix base x
suffix_of Binary x h k = tt
suffix_of Octal x h k = tt
suffix_of Hexadecimal x h k = hex_stops x h
suffix_of Decimal x h k = λ e. both_ways (is_exponent_suffix x)
    (not-true (is_exponent_suffix x) (and_parts (is_suffix x) (not (is_exponent_suffix x)) k).1)
    (exponent_suffix_complete x e)

-- A text that passes the test `may_end`, so that it can end an integer, is a suffix.
end_suffix : (r : ℕ) (x : List ℕ) → may_end r x ≡ true → is_suffix x ≡ true
end_suffix r x h = (and_parts (is_suffix x) _ h).0

-- A text is an integer if the text after its sign and its base's prefix may begin a number, contains a digit, and has a
-- suffix that may end a number. The models return the sign, the magnitude and the suffix of the integer.
int_built : (t : List ℕ) (b : Based (after_minus t)) → may_begin_number (radix b.base) b.rest ≡ true
    → has_digit_at (radix b.base) b.rest ≡ true → may_end (radix b.base) (after_digits (radix b.base) b.rest) ≡ true
    → IntReads t (sign_at t) (magnitude_at (radix b.base) b.rest) (after_digits (radix b.base) b.rest)
int_built t b front some ends =
    let part = is_run_part (has_value (radix b.base)) in
    record {
      base = b.base;
      digits = run part b.rest;
      front = subst (λ (z : List ℕ). IsAfterPrefix b.base z) (run_join part b.rest) (b.front front);
      each = run_all part b.rest;
      some = some;
      is_suffix = suffix_sound (after_run part b.rest) (end_suffix (radix b.base) (after_run part b.rest) ends);
      is_suffix_of = suffix_of b.base (after_run part b.rest) (run_ends part b.rest) ends;
      text_is = sign_join t ∙ ap (λ z. sign_text (sign_at t) ++ z)
          (b.text_is ∙ ap (λ z. prefix b.base ++ z) (run_join part b.rest));
      magnitude_is = refl;
    }

-- If a choice between a value and `None` returns the value, the condition of the choice is true.
pub chosen_some : {A : Type 0} (b : Bool) (q p : A) → cond b (Some q) None ≡ Some p → (b ≡ true) × (q ≡ p)
chosen_some true q p h = (refl, cc)
chosen_some false q p h = absurd (cc)

-- The conditions on a text from which `based_at` parses an integer: the text may begin a number of the base, it has a digit, and
-- the text after its digits may end an integer.
record Read (r : ℕ) (t : List ℕ) (p : ℕ × List ℕ) : Type 0 where
  front : may_begin_number r t ≡ true
  some : has_digit_at r t ≡ true
  ends : may_end r (after_digits r t) ≡ true
  is : (magnitude_at r t, after_digits r t) ≡ p

-- If `based_at` returns a result for a text, the text meets the conditions of an integer (`Read`).
based_sound : (r : ℕ) (t : List ℕ) (p : ℕ × List ℕ) → based_at r t ≡ Some p → Read r t p
unfolding based_at
based_sound r t p h =
    let k = chosen_some (may_begin_number r t && (has_digit_at r t && may_end r (after_digits r t)))
    (magnitude_at r t, after_digits r t) p h in
    let a = and_parts (may_begin_number r t) _ k.0 in
    let b = and_parts (has_digit_at r t) _ a.1 in
    record { front = a.0; some = b.0; ends = b.1; is = k.1 }

-- If `with_sign` returns a parse result with a sign, its argument is the parse result without the sign.
pub sign_of_some : (s : Sign) (o : Option (ℕ × List ℕ)) (p : Sign × ℕ × List ℕ) → with_sign s o ≡ Some p
    → (q : ℕ × List ℕ) × (o ≡ Some q) × ((s, q.0, q.1) ≡ p)
sign_of_some s None p h = absurd (cc)
sign_of_some s (Some q) p h = (q, refl, cc)

-- If `int_at` returns a result, the text is an integer with that result.
pub int_sound : (t : List ℕ) (p : Sign × ℕ × List ℕ) → int_at t ≡ Some p → IntReads t p.0 p.1 p.2
unfolding int_at
int_sound t p h =
    let b = based (after_minus t) in
    let k = sign_of_some (sign_at t) _ p h in
    let Of : ℕ × List ℕ → Option (ℕ × List ℕ) = λ q. based_at q.0 q.1 in
    let r = based_sound (radix b.base) b.rest k.0 (sym (ap Of b.at) ∙ k.1) in
    let whole : (sign_at t, magnitude_at (radix b.base) b.rest, after_digits (radix b.base) b.rest)
    ≡ p = ap (λ q. (sign_at t, q.0, q.1)) r.is ∙ k.2 in
    subst (λ (q : Sign × ℕ × List ℕ). IntReads t q.0 q.1 q.2) whole (int_built t b r.front r.some r.ends)

-- If `capped` returns `None` for a number, the number is above the limit of 128 bits.
capped_none : (n : ℕ) → capped n ≡ None → limit < n
capped_none n h = elim (within_or_past n limit) [
  | inl k ↦ let e = capped_within n k in absurd (cc)
  | inr k ↦ k
]

-- If `capped` returns a number, this is its argument, and is within the limit of 128 bits.
capped_some : (n k : ℕ) → capped n ≡ Some k → (n ≤ limit) × (n ≡ k)
capped_some n k h = elim (within_or_past n limit) [
  | inl l ↦ let e = capped_within n l in (l, cc)
  | inr l ↦ let e = capped_past n l in absurd (cc)
]

-- If `capped_int` returns `None`, its argument is `None`.
none_int : (o : Option (Sign × ℕ × List ℕ)) → None ≡ capped_int o → o ≡ None
none_int None h = refl
none_int (Some p) h = absurd (cc)

-- If `capped_int` returns a magnitude and a suffix, its argument is an integer with this suffix, and with this magnitude
-- before it was limited to 128 bits.
some_int : (o : Option (Sign × ℕ × List ℕ)) (q : Option ℕ × List ℕ) → Some q ≡ capped_int o → (p : Sign × ℕ × List ℕ)
    × (o ≡ Some p) × (q ≡ (capped p.1, p.2))
some_int None q h = absurd (cc)
some_int (Some p) q h = (p, refl, cc)

-- If `int_at` returns no result for a text, the text isn't an integer.
pub no_int : (t : List ℕ) → None ≡ capped_int (int_at t) → HasNoInteger t
no_int t h = λ s m x r. let e = none_int (int_at t) h in let f = int_past t s m x r in absurd (cc)

-- An integer that is parsed without a magnitude is above the limit of 128 bits.
pub is_past : (t x : List ℕ) → Some (None, x) ≡ capped_int (int_at t) → IsPast t
is_past t x h =
    let k = some_int (int_at t) (None, x) h in
    record { sign = k.0.0; magnitude = k.0.1; suffix = k.0.2; reads = int_sound t k.0 k.1; past = capped_none k.0.1 (sym (ap (λ q. q.0) k.2)) }

-- An integer that is parsed with a magnitude is within the limit of 128 bits, and the magnitude is that of the literal.
pub is_within : (t x : List ℕ) (m : ℕ) → Some (Some m, x) ≡ capped_int (int_at t) → HasMagnitude t m x
is_within t x m h =
    let k = some_int (int_at t) (Some m, x) h in
    let c = capped_some k.0.1 m (sym (ap (λ q. q.0) k.2)) in
    record {
      sign = k.0.0;
      reads = subst (λ (n : ℕ). IntReads t k.0.0 n x) c.1 (subst (λ (y : List ℕ). IntReads t k.0.0 k.0.1 y)
          (sym (ap (λ q. q.1) k.2)) (int_sound t k.0 k.1));
      within = subst (λ (n : ℕ). n ≤ limit) c.1 c.0;
    }

-- The lemma `is_past`, with equations for the parse result: an integer that is parsed without a magnitude is above the limit.
pub is_past_at : (t x : List ℕ) (k : Option ℕ) → Some (k, x) ≡ capped_int (int_at t) → k ≡ None → IsPast t
is_past_at t x k h e = is_past t x (sym (ap (λ o. Some (o, x)) e) ∙ h)

-- The lemma `is_within`, with equations for the parse result: an integer that is parsed with a magnitude is within the limit.
pub is_within_at : (t x y : List ℕ) (m : ℕ) (k : Option ℕ) → Some (k, x) ≡ capped_int (int_at t) → k ≡ Some m → y ≡ x
    → HasMagnitude t m y
is_within_at t x y m k h e q = is_within t y m (ap (λ z. Some (Some m, z)) q ∙ sym (ap (λ o. Some (o, x)) e) ∙ h)

-- If a text is an integer within the limit of 128 bits (`HasMagnitude`), it has a parse result as an integer literal.
pub within_reads : (t x : List ℕ) (m : ℕ) → HasMagnitude t m x → (v : Contents) × ReadsInt t v x
within_reads t x m w =
    (Digits (sign_text w.sign ++ decimal m), record { sign = w.sign; magnitude = m; reads = w.reads; within = w.within; contents_is = refl })
