-- A text is a float exactly if `float_at` returns a suffix.
use Rattle.rl_syntax.proofs.Common.{◌≡◌, ℕ, Bool, true, false, not, ◌&&◌, ◌||◌, ◌==◌, cond, List, [], ◌∷◌, ◌++◌, Some, None, refl, sym, ap, subst, ◌∙◌, arith, append_assoc, and_parts, and_from, both_ways, eqb-true, not-true, nat_tests, is_ascii_digit, list_all, list_any, is_xid_continue}
use Rattle.rl_lenient.proofs.Names.{false_from_ne_true, first_passes, is_underscore, xid_ok, is_run_part, sign_text, is_exponent_letter, Fraction, NoFraction, Dot, fraction_text, IsFraction, FloatReads, after_run}
use Rattle.rl_syntax.specs.Numbers.{Exponent, NoExponent, Power, exponent_text, IsExponent, is_power_sign, BeginsExponent}
use Rattle.rl_syntax.proofs.Basics.{any_same, continue_not, digit_is_ten, word_continues, word_without}
use Rattle.rl_syntax.proofs.StrictNumbers.{letter_no_part, suffix_no_part}
use Rattle.rl_lenient.specs.Mirrors.NumberAt.{run, has_value, is_suffix, digit_run_at, has_digit_at, after_digits, after_minus, sign_at, after_fraction, after_power_sign, power_at, after_exponent, float_at}
use Rattle.rl_lenient.proofs.DigitRowLemmas.{run_yes, run_no}
use Rattle.rl_lenient.proofs.RunLemmas.{run_all, run_ends, run_join, run_past, suffix_complete, suffix_sound}
use Rattle.rl_lenient.proofs.IntegerLemmas.{minus_past, chosen_some, sign_join}
use Rattle.rl_lenient.proofs.TestLemmas.{passes_more}

-- The letter of an exponent, `e` or `E`, isn't a dot.
pub letter_no_dot : (c : ℕ) → is_exponent_letter c ≡ true → (c == 46) ≡ false
letter_no_dot c h = go (c == 101) refl
  where
    go : (b : Bool) → (c == 101) ≡ b → (c == 46) ≡ false
    go true e = ap (λ z. z == 46) (eqb-true c 101 e)
    go false e = ap (λ z. z == 46) (eqb-true c 69 (sym (ap (λ b. b || (c == 69)) e) ∙ h))

-- If all characters of `row` pass a test, `after_run` skips them: for `row ++ t` it returns what it returns for `t`.
pub run_off : (test : ℕ → Bool) (row t : List ℕ) → list_all test row ≡ true → after_run test (row ++ t)
    ≡ after_run test t
run_off test [] t h = refl
run_off test (c ∷ row) t h =
    let b = and_parts (test c) (list_all test row) h in
    (run_yes test c (row ++ t) b.0).1 ∙ run_off test row t b.1

-- The text of a float's exponent and suffix doesn't begin with a digit or an underscore.
exponent_stops : (e : Exponent) (x : List ℕ) → is_suffix x ≡ true → IsExponent e x
    → first_passes (is_run_part (has_value 10)) (exponent_text e ++ x) ≡ false
exponent_stops NoExponent x h k = suffix_no_part x (suffix_sound x h)
exponent_stops (Power letter us sg row) x h k = letter_no_part letter k.0

-- If the text after a fraction begins with neither a digit nor an underscore, the fraction and that text, joined, don't
-- begin with one either. The fraction may be empty.
pub fraction_stops : (f : Fraction) (z : List ℕ) → first_passes (is_run_part (has_value 10)) z ≡ false
    → first_passes (is_run_part (has_value 10)) (fraction_text f ++ z) ≡ false
fraction_stops NoFraction z h = h
fraction_stops (Dot row) z h = refl

-- The text of a float's exponent and suffix doesn't begin with a dot.
no_dot : (e : Exponent) (x : List ℕ) → is_suffix x ≡ true → IsExponent e x
    → first_passes (λ c. c == 46) (exponent_text e ++ x) ≡ false
no_dot NoExponent [] h k = refl
no_dot NoExponent (c ∷ cs) h k =
    let w = word_without 46 (c ∷ cs) (omega arith) refl (and_parts (not (c == 95)) (xid_ok (c ∷ cs)) h).1 in
    not-true (c == 46) (and_parts (not (c == 46)) (list_all (λ c. not (c == 46)) cs) w).0
no_dot (Power letter us sg row) x h k = letter_no_dot letter k.0

-- If a text doesn't begin with a dot, `after_fraction` returns the text itself.
no_fraction : (z : List ℕ) → first_passes (λ c. c == 46) z ≡ false → after_fraction z ≡ z
no_fraction [] h = refl
no_fraction (c ∷ cs) h = ap (λ b. cond b (after_digits 10 cs) (c ∷ cs)) h

-- If a text begins with the fraction of a float, `after_fraction` returns the text after the whole fraction.
fraction_past : (f : Fraction) (z : List ℕ) → IsFraction f → first_passes (is_run_part (has_value 10)) z ≡ false
    → first_passes (λ c. c == 46) z ≡ false → after_fraction (fraction_text f ++ z) ≡ z
fraction_past NoFraction z k h d = no_fraction z d
fraction_past (Dot row) z k h d = (run_past (is_run_part (has_value 10)) row z k h).1

-- If one of two conditions holds, and the second doesn't, the first does.
digit_part : (a b : Bool) → (a || b) ≡ true → b ≡ false → a ≡ true
digit_part true b p q = refl
digit_part false b p q = absurd (cc)

-- `more` is the sequence of digits and underscores `row` without its leading underscores. It begins with a digit.
record Trimmed (row x : List ℕ) : Type 0 where
  more : List ℕ
  is : after_run is_underscore (row ++ x) ≡ more ++ x
  each : list_all (is_run_part (has_value 10)) more ≡ true
  some : list_any (has_value 10) more ≡ true
  first : first_passes is_ascii_digit more ≡ true

-- If a sequence of digits and underscores contains a digit, dropping its leading underscores leaves a sequence that begins
-- with a digit.
trimmed : (row x : List ℕ) → list_all (is_run_part (has_value 10)) row ≡ true → list_any (has_value 10) row ≡ true
    → Trimmed row x
trimmed [] x h k = absurd (cc)
trimmed (c ∷ cs) x h k = go (λ m. trimmed cs x (and_parts (is_run_part (has_value 10) c)
    (list_all (is_run_part (has_value 10)) cs) h).1 m) (c == 95) refl
  where
    go : (list_any (has_value 10) cs ≡ true → Trimmed cs x) → (b : Bool) → (c == 95) ≡ b → Trimmed (c ∷ cs) x
    go rec true e =
        let q : c ≡ 95 = eqb-true c 95 e in
        let m : list_any (has_value 10) cs ≡ true = sym (ap (λ z. has_value 10 z || list_any (has_value 10) cs) q)
        ∙ k in
        let r = rec m in
        record { more = r.more; is = (run_yes is_underscore c (cs ++ x) e).1 ∙ r.is; each = r.each; some = r.some; first = r.first }
    go rec false e =
        let a = and_parts (is_run_part (has_value 10) c) (list_all (is_run_part (has_value 10)) cs) h in
        let d : has_value 10 c ≡ true = digit_part (has_value 10 c) (c == 95) a.0 e in
        record { more = c ∷ cs; is = (run_no is_underscore c (cs ++ x) e).1; each = h; some = k; first = digit_is_ten c ∙ d }

-- A digit isn't an underscore.
pub digit_no_mark : (c : ℕ) → is_ascii_digit c ≡ true → (c == 95) ≡ false
digit_no_mark c h = grind (arith, nat_tests)

-- A text that begins with a digit has no sign.
pub digit_no_sign : (t : List ℕ) → first_passes is_ascii_digit t ≡ true → after_power_sign t ≡ t
digit_no_sign [] h = refl
digit_no_sign (c ∷ cs) h =
    let e : (c == 43 || c == 45) ≡ false = grind (arith, nat_tests) in
    ap (λ b. cond b cs (c ∷ cs)) e

-- For the text `t`, `power_at` returns the digits and underscores `more`, and the text x after them. `more` contains a
-- digit.
record Powered (t x : List ℕ) : Type 0 where
  more : List ℕ
  is : power_at t ≡ more ++ x
  each : list_all (is_run_part (has_value 10)) more ≡ true
  some : list_any (has_value 10) more ≡ true

-- `power_at` skips underscores and the sign after them.
pub signed_past : (c : ℕ) (us w : List ℕ) → (c == 43 || c == 45) ≡ true → list_all is_underscore us ≡ true
    → power_at (us ++ (c ∷ w)) ≡ w
unfolding power_at
signed_past c us w h k =
    let n : (c == 95) ≡ false = grind (arith, nat_tests) in
    ap after_power_sign (run_off is_underscore us (c ∷ w) k ∙ (run_no is_underscore c w n).1)
    ∙ ap (λ b. cond b w (c ∷ w)) h

-- `power_at` skips the underscores and the sign before an exponent's digits.
powered : (us sg row x : List ℕ) → list_all is_underscore us ≡ true → is_power_sign sg ≡ true
    → list_all (is_run_part (has_value 10)) row ≡ true → list_any (has_value 10) row ≡ true
    → Powered (us ++ (sg ++ (row ++ x))) x
unfolding power_at
powered us [] row x a b each some =
    let r = trimmed row x each some in
    record {
      more = r.more;
      is = ap after_power_sign (run_off is_underscore us (row ++ x) a ∙ r.is)
          ∙ digit_no_sign (r.more ++ x) (passes_more is_ascii_digit r.more x r.first);
      each = r.each;
      some = r.some;
    }
powered us (c ∷ []) row x a b each some = record { more = row; is = signed_past c us (row ++ x) b a; each = each; some = some }
powered us (c ∷ d ∷ sg) row x a b each some = absurd (cc)

-- `after_exponent` returns the text after a whole exponent, if the exponent has a digit.
power_past : (letter : ℕ) (cs x : List ℕ) → is_exponent_letter letter ≡ true
    → first_passes (is_run_part (has_value 10)) x ≡ false → Powered cs x → after_exponent (letter ∷ cs) ≡ x
unfolding after_exponent
power_past letter cs x l stops p =
    let y = run_past (is_run_part (has_value 10)) p.more x p.each stops in
    let some : has_digit_at 10 (power_at cs) ≡ true = ap (has_digit_at 10) p.is ∙ ap (list_any (has_value 10)) y.0
    ∙ p.some in
    ap (λ b. cond b (after_digits 10 (power_at cs)) (letter ∷ cs)) (and_from (is_exponent_letter letter) _ l some)
    ∙ ap (after_digits 10) p.is ∙ y.1

-- If a text consists of identifier characters, so does the text without its leading underscores.
all_continue_run : (t : List ℕ) → list_all is_xid_continue t ≡ true
    → list_all is_xid_continue (after_run is_underscore t) ≡ true
all_continue_run [] h = refl
all_continue_run (c ∷ cs) h = go (all_continue_run cs (and_parts (is_xid_continue c) _ h).1) (c == 95)
  where
    go : list_all is_xid_continue (after_run is_underscore cs) ≡ true → (b : Bool)
        → list_all is_xid_continue (cond b (after_run is_underscore cs) (c ∷ cs)) ≡ true
    go ih true = ih
    go ih false = h

-- An identifier contains neither `+` nor `-`.
no_sign : (t : List ℕ) → list_all is_xid_continue t ≡ true → after_power_sign t ≡ t
no_sign [] h = refl
no_sign (c ∷ cs) h =
    let b = and_parts (is_xid_continue c) (list_all is_xid_continue cs) h in
    let e : (c == 43 || c == 45) ≡ false = ap (λ z. z || (c == 45)) (continue_not 43 c (omega arith) refl b.0)
    ∙ continue_not 45 c (omega arith) refl b.0 in
    ap (λ z. cond z cs (c ∷ cs)) e

-- The digits and underscores at the start of a text contain a digit. If the text doesn't begin with an underscore, the text
-- begins with a digit.
first_digit : (t : List ℕ) → first_passes is_underscore t ≡ false → has_digit_at 10 t ≡ true → (d : ℕ) × (rest : List ℕ)
    × (is_ascii_digit d ≡ true) × (t ≡ d ∷ rest)
unfolding run
first_digit [] h k = absurd (cc)
first_digit (c ∷ cs) h k = go (has_value 10 c) refl
  where
    go : (b : Bool) → has_value 10 c ≡ b → (d : ℕ) × (rest : List ℕ) × (is_ascii_digit d ≡ true) × (c ∷ cs ≡ d ∷ rest)
    go true e = (c, cs, digit_is_ten c ∙ e, refl)
    go false e =
        let n : is_run_part (has_value 10) c ≡ false = ap (λ z. z || (c == 95)) e ∙ h in
        let m = sym (ap (list_any (has_value 10)) (run_no (is_run_part (has_value 10)) c cs n).0) ∙ k in
        absurd (cc)

-- If the code's test for an exponent is true for a suffix, the suffix begins like an exponent.
suffix_begins : (c : ℕ) (cs : List ℕ) → is_suffix (c ∷ cs) ≡ true → is_exponent_letter c ≡ true
    → has_digit_at 10 (power_at cs) ≡ true → BeginsExponent (c ∷ cs)
unfolding power_at
suffix_begins c cs h l k =
    let a = and_parts (is_xid_continue c) (list_all is_xid_continue cs)
    (word_continues (c ∷ cs) (and_parts (not (c == 95)) (xid_ok (c ∷ cs)) h).1) in
    let n = no_sign (after_run is_underscore cs) (all_continue_run cs a.1) in
    let f = first_digit (after_run is_underscore cs) (run_ends is_underscore cs) (ap (has_digit_at 10) (sym n) ∙ k) in
    record {
      letter = c;
      underscores = run is_underscore cs;
      digit = f.0;
      rest = f.1;
      is_letter = l;
      all_underscores = run_all is_underscore cs;
      is_digit = f.2;
      text_is = ap (λ z. c ∷ z) (run_join is_underscore cs ∙ ap (λ z. run is_underscore cs ++ z) f.3);
    }

-- If a suffix doesn't begin with an exponent, `after_exponent` returns the suffix itself.
no_exponent : (x : List ℕ) → is_suffix x ≡ true → (BeginsExponent x → ⊥) → after_exponent x ≡ x
unfolding after_exponent
no_exponent [] h k = refl
no_exponent (c ∷ cs) h k =
    ap (λ b. cond b (after_digits 10 (power_at cs)) (c ∷ cs))
    (false_from_ne_true (is_exponent_letter c && has_digit_at 10 (power_at cs))
    (λ e. let b = and_parts (is_exponent_letter c) _ e in k (suffix_begins c cs h b.0 b.1)))

-- The text of an exponent, joined with a text x, is the exponent's letter, underscores, sign and digits, and then x.
power_text : (letter : ℕ) (us sg row x : List ℕ) → exponent_text (Power letter us sg row) ++ x
    ≡ letter ∷ (us ++ (sg ++ (row ++ x)))
power_text letter us sg row x = ap (λ z. letter ∷ z) (append_assoc us (sg ++ row) x
    ∙ ap (λ z. us ++ z) (append_assoc sg row x))

-- `after_exponent` returns the suffix after a float's exponent, or the suffix itself if the float has no exponent.
exponent_past : (e : Exponent) (x : List ℕ) → is_suffix x ≡ true → IsExponent e x
    → after_exponent (exponent_text e ++ x) ≡ x
exponent_past NoExponent x h k = no_exponent x h k
exponent_past (Power letter us sg row) x h (l, a, b, each, some) =
    ap after_exponent (power_text letter us sg row x)
    ∙ power_past letter (us ++ (sg ++ (row ++ x))) x l (suffix_no_part x (suffix_sound x h))
    (powered us sg row x a b each (sym (any_same is_ascii_digit (has_value 10) digit_is_ten row) ∙ some))

-- The text of a float's parts is the same, whether the parts are joined from the left or from the right.
float_text : (s w f e x : List ℕ) → (s ++ (w ++ (f ++ e))) ++ x ≡ s ++ (w ++ (f ++ (e ++ x)))
float_text s w f e x = simp append_assoc

-- For each float literal, `float_at` returns its suffix.
pub float_past : (t n x : List ℕ) → FloatReads t n x → float_at t ≡ Some x
unfolding float_at
float_past t n x h =
    let ok : is_suffix x ≡ true = suffix_complete x h.is_suffix in
    let z : List ℕ = exponent_text h.exponent ++ x in
    let y : List ℕ = fraction_text h.fraction ++ z in
    let u : List ℕ = h.whole ++ y in
    let stops : first_passes (is_run_part (has_value 10)) z ≡ false = exponent_stops h.exponent x ok h.is_exponent in
    let is : t ≡ sign_text h.sign ++ u = h.text_is ∙ ap (λ k. k ++ x) h.numeral_is
    ∙ float_text (sign_text h.sign) h.whole (fraction_text h.fraction) (exponent_text h.exponent) x in
    let first : first_passes is_ascii_digit u ≡ true = passes_more is_ascii_digit h.whole y h.first in
    let unsigned : after_minus t ≡ u = ap after_minus is ∙ (minus_past h.sign u first).0 in
    let rest : after_exponent (after_fraction (after_digits 10 u)) ≡ x =
    ap (λ k. after_exponent (after_fraction k)) (run_past (is_run_part (has_value 10)) h.whole y h.each
    (fraction_stops h.fraction z stops)).1
    ∙ ap after_exponent (fraction_past h.fraction z h.is_fraction stops (no_dot h.exponent x ok h.is_exponent))
    ∙ exponent_past h.exponent x ok h.is_exponent in
    ap (λ k. cond (first_passes is_ascii_digit k && is_suffix (after_exponent (after_fraction (after_digits 10 k))))
    (Some (after_exponent (after_fraction (after_digits 10 k)))) None) unsigned
    ∙ ap (λ k. cond (first_passes is_ascii_digit u && is_suffix k) (Some k) None) rest
    ∙ ap (λ b. cond b (Some x) None) (and_from (first_passes is_ascii_digit u) (is_suffix x) first ok)

-- The text `y` consists of a fraction, perhaps an empty one, and the text that `after_fraction` returns for `y`.
record Fractioned (y : List ℕ) : Type 0 where
  fraction : Fraction
  is : IsFraction fraction
  text_is : y ≡ fraction_text fraction ++ after_fraction y

-- For each text, the part that `after_fraction` skips is a fraction, perhaps an empty one.
fraction_sound : (y : List ℕ) → Fractioned y
fraction_sound [] = record { fraction = NoFraction; is = tt; text_is = refl }
fraction_sound (c ∷ cs) = go (c == 46) refl
  where
    go : (b : Bool) → (c == 46) ≡ b → Fractioned (c ∷ cs)
    go true e = record {
      fraction = Dot (digit_run_at 10 cs);
      is = run_all (is_run_part (has_value 10)) cs;
      text_is = ap (λ k. k ∷ cs) (eqb-true c 46 e) ∙ ap (λ z. 46 ∷ z) (run_join (is_run_part (has_value 10)) cs)
          ∙ ap (λ z. 46 ∷ (digit_run_at 10 cs ++ z)) (sym (ap (λ b. cond b (after_digits 10 cs) (c ∷ cs)) e));
    }
    go false e = record { fraction = NoFraction; is = tt; text_is = sym (ap (λ b. cond b (after_digits 10 cs) (c ∷ cs)) e) }

-- Returns the sign at the start of the digits of an exponent, or an empty text.
abbrev power_sign : List ℕ → List ℕ
power_sign [] = []
power_sign (c ∷ cs) = cond (c == 43 || c == 45) (c ∷ []) []

-- A text consists of the sign at its start, perhaps an empty one, and the text after the sign.
sign_splits : (v : List ℕ) → (v ≡ power_sign v ++ after_power_sign v) × (is_power_sign (power_sign v) ≡ true)
sign_splits [] = (refl, refl)
sign_splits (c ∷ cs) = go (c == 43 || c == 45) refl
  where
    go : (b : Bool) → (c == 43 || c == 45) ≡ b → (c ∷ cs ≡ cond b (c ∷ []) [] ++ cond b cs (c ∷ cs))
        × (is_power_sign (cond b (c ∷ []) []) ≡ true)
    go true e = (refl, e)
    go false e = (refl, refl)

-- If a text begins like an exponent, the code's test for an exponent is true.
begins_true : (c : ℕ) (cs : List ℕ) → BeginsExponent (c ∷ cs) → (is_exponent_letter c && has_digit_at 10 (power_at cs))
    ≡ true
unfolding power_at
begins_true c cs b =
    let text = b.text_is in
    let q : c ≡ b.letter = cc in
    let w : cs ≡ b.underscores ++ (b.digit ∷ b.rest) = cc in
    let d : has_value 10 b.digit ≡ true = sym (digit_is_ten b.digit) ∙ b.is_digit in
    let n : (b.digit == 95) ≡ false = digit_no_mark b.digit b.is_digit in
    let p : power_at cs ≡ b.digit ∷ b.rest =
    ap power_at w ∙ ap after_power_sign (run_off is_underscore b.underscores (b.digit ∷ b.rest) b.all_underscores
    ∙ (run_no is_underscore b.digit b.rest n).1) ∙ digit_no_sign (b.digit ∷ b.rest) b.is_digit in
    let y = run_yes (is_run_part (has_value 10)) b.digit b.rest (ap (λ z. z || (b.digit == 95)) d) in
    and_from (is_exponent_letter c) _ (ap is_exponent_letter q ∙ b.is_letter)
    (ap (has_digit_at 10) p ∙ ap (list_any (has_value 10)) y.0
    ∙ ap (λ z. z || list_any (has_value 10) (run (is_run_part (has_value 10)) b.rest)) d)

-- The text `z` consists of an exponent, perhaps none, and the text that `after_exponent` returns for `z`.
record Powers (z : List ℕ) : Type 0 where
  exponent : Exponent
  is : IsExponent exponent (after_exponent z)
  text_is : z ≡ exponent_text exponent ++ after_exponent z

-- For each text, the part that `after_exponent` skips is an exponent, perhaps none.
exponent_sound : (z : List ℕ) → Powers z
unfolding after_exponent power_at
exponent_sound [] = record { exponent = NoExponent; is = λ b. let e = b.text_is in absurd (cc); text_is = refl }
exponent_sound (c ∷ cs) = go (is_exponent_letter c && has_digit_at 10 (power_at cs)) refl
  where
    go : (b : Bool) → (is_exponent_letter c && has_digit_at 10 (power_at cs)) ≡ b → Powers (c ∷ cs)
    go false e =
        let k : after_exponent (c ∷ cs) ≡ c ∷ cs = ap (λ b. cond b (after_digits 10 (power_at cs)) (c ∷ cs)) e in
        record { exponent = NoExponent; is = subst (λ (z : List ℕ). BeginsExponent z → ⊥) (sym k) (λ b. both_ways _ e (begins_true c cs b)); text_is = sym k }
    go true e =
        let k : after_exponent (c ∷ cs) ≡ after_digits 10 (power_at cs) = ap
        (λ b. cond b (after_digits 10 (power_at cs)) (c ∷ cs)) e in
        let a = and_parts (is_exponent_letter c) (has_digit_at 10 (power_at cs)) e in
        let us : List ℕ = run is_underscore cs in
        let v : List ℕ = after_run is_underscore cs in
        let sg = sign_splits v in
        let row : List ℕ = digit_run_at 10 (power_at cs) in
        let x : List ℕ = after_digits 10 (power_at cs) in
        record {
          exponent = Power c us (power_sign v) row;
          is = (
            a.0,
            run_all is_underscore cs,
            sg.1,
            run_all (is_run_part (has_value 10)) (power_at cs),
            any_same
                is_ascii_digit (has_value 10) digit_is_ten row ∙ a.1,
          );
          text_is =
              ap (λ z. c ∷ z) (run_join is_underscore cs ∙ ap (λ z. us ++ z)
              (sg.0 ∙ ap (λ z. power_sign v ++ z) (run_join (is_run_part (has_value 10)) (power_at cs))))
              ∙ sym (power_text c us (power_sign v) row x)
              ∙ ap (λ z. exponent_text (Power c us (power_sign v) row) ++ z) (sym k);
        }

-- If a text begins with a digit, so do the digits and underscores at its start.
pub run_first : (t : List ℕ) → first_passes is_ascii_digit t ≡ true → first_passes is_ascii_digit (digit_run_at 10 t)
    ≡ true
unfolding run
run_first [] h = absurd (cc)
run_first (c ∷ cs) h =
    let d : has_value 10 c ≡ true = sym (digit_is_ten c) ∙ h in
    ap (first_passes is_ascii_digit) (run_yes (is_run_part (has_value 10)) c cs (ap (λ z. z || (c == 95)) d)).0 ∙ h

-- A text begins with a digit after its sign, and the text x follows its digits, fraction and exponent. If x is a suffix, the
-- text is a float with the suffix x.
float_built : (t : List ℕ) (x : List ℕ) → first_passes is_ascii_digit (after_minus t) ≡ true → is_suffix x ≡ true
    → after_exponent (after_fraction (after_digits 10 (after_minus t))) ≡ x → (n : List ℕ) × FloatReads t n x
float_built t x first ok is =
    let u : List ℕ = after_minus t in
    let w : List ℕ = digit_run_at 10 u in
    let y : List ℕ = after_digits 10 u in
    let f = fraction_sound y in
    let z : List ℕ = after_fraction y in
    let e = exponent_sound z in
    let ft : List ℕ = fraction_text f.fraction in
    let et : List ℕ = exponent_text e.exponent in (
      sign_text (sign_at t) ++ (w ++ (ft ++ et)),
      record {
        sign = sign_at t;
        whole = w;
        fraction = f.fraction;
        exponent = e.exponent;
        first = run_first u first;
        each = run_all (is_run_part (has_value 10)) u;
        is_fraction = f.is;
        is_exponent = subst (λ (k : List ℕ). IsExponent e.exponent k) is e.is;
        is_suffix = suffix_sound x ok;
        numeral_is = refl;
        text_is =
            sign_join t
            ∙ ap (λ k. sign_text (sign_at t) ++ k) (run_join (is_run_part (has_value 10)) u
            ∙ ap (λ k. w ++ k) (f.text_is ∙ ap (λ k. ft ++ k) (e.text_is ∙ ap (λ k. et ++ k) is)))
            ∙ sym (float_text (sign_text (sign_at t)) w ft et x);
      },
    )

-- If `float_at` returns a suffix, the text is a float with this suffix.
pub float_sound : (t x : List ℕ) → float_at t ≡ Some x → (n : List ℕ) × FloatReads t n x
unfolding float_at
float_sound t x h =
    let rest : List ℕ = after_exponent (after_fraction (after_digits 10 (after_minus t))) in
    let k = chosen_some (first_passes is_ascii_digit (after_minus t) && is_suffix rest) rest x h in
    let a = and_parts (first_passes is_ascii_digit (after_minus t)) (is_suffix rest) k.0 in
    float_built t x a.0 (ap is_suffix (sym k.1) ∙ a.1) k.1

-- If `float_at` returns `None`, the text isn't a float.
pub no_float : (t : List ℕ) → None ≡ float_at t → (n x : List ℕ) → FloatReads t n x → ⊥
no_float t h n x r = let f = float_past t n x r in absurd (cc)
