-- The result of parsing a number: the number, or the position where the text can't continue as a number, and the reason.
use Rattle.rl_strict.proofs.Names.{◌≡◌, ◌≢◌, ℕ, ◌⊎◌, ◌||◌, ◌&&◌, Bool, true, false, not, ◌==◌, cond, List, [], ◌∷◌, ◌++◌, Option, Some, None, refl, sym, ap, subst, ◌∙◌, inl, inr, arith, append_assoc, append-nil, and_from, and_parts, both_ways, eqb-true, not_from_false, or_parts, or_right, is_ascii_digit, is_ascii_hexdigit, list_all, list_all-append, list_any, and_right, cond_both, first_passes, is_underscore, Base, Binary, Octal, Decimal, Hexadecimal, radix, prefix, IsAfterPrefix, is_exponent_letter, Contents, Digits, or_left, ⊤, is_continue, is_start, is_power_sign, dec, IsDigits, IsDecimalText, IsNumberSuffix, BasedPrefix, StrictInt, IsStrictExponent, IsDotAlone, IsPointed, IsScientific, StrictFloat, digit_is_ten, hex_is_sixteen, passes_same, after_digits, after_power_sign, capped, digit_run_at, has_digit_at, has_value, magnitude_at, radix_at, is_some_text, based, hex_stops, not_based, run_all, run_ends, run_join, front_passes, goes_on, is_number_suffix, is_strict_suffix, IsToken, FlawKind, NoExponentDigit, BadSuffix, NoDigits, InvalidDigit, BasedFloat, NoFractionDigit, goes_on_with_suffix, is_suffix_front, IsBasedRun, IsDigitFlaw, IsStrictFraction, is_float_mark, suffix_rest, Ending, NumberRead, as_float, as_integer, based_read_at, digits_end_at, fraction_end_at, number_read_at, power_end_at, stopped, suffix_end_at, whole_read_at, place_value, without_underscores}
use Rattle.std.proofs.lemmas.List.Folds.{list_any-append}
use Rattle.rl_strict.proofs.StrictLemmas.{number_token}
use Rattle.rl_strict.proofs.StrictWordLemmas.{number_suffix_sound}
use Rattle.rl_strict.proofs.NumberEnds.{Fails, IsSign, Passes, SignCut, based_is, both_fail, digits_plain, digits_power, each_fails, end_of, fraction_is, fraction_none, front_digits, in_base, in_row, is_read, is_sign, names, names_none, number_end_at, of_base, part_row, power_is, row_bare, row_part, row_plain, row_tail, sign_cut, some_value, suffix_reads, suffix_whole, ten_first, ten_is, whole_digits, whole_dot, whole_end_at, whole_plain}
use Rattle.rl_strict.proofs.Stops.{Stops, lifted}
use Rattle.rl_strict.proofs.StrictSuffixFlaws.{goes_on_first, suffix_cut, suffix_stuck}

-- ---- a flaw after a prefix of a number

-- The kind of flaw describes the error in the digits of a number. The arguments are the kind, the text before the flaw, and
-- the text from the flaw on. `BadSuffix` isn't an error in digits, so nothing is required for it.
abbrev pub Says : FlawKind → List ℕ → List ℕ → Type 0
Says BadSuffix front rest = ⊤
Says k front rest = IsDigitFlaw k front rest

-- A number has a flaw of the kind `k` at `rest`. The parser `read` found the flaw in the part `t` of the number. `before` is
-- the text of the number before this part.
pub record TailFlaw (read : List ℕ → Ending) (before t : List ℕ) (k : FlawKind) (rest : List ℕ) : Type 0 where
  pub stops : Stops (Passes read) (Fails read) t rest
  pub fits : stops.front ≡ [] → stops.begins.ending ≡ []
  pub whole : k ≡ BadSuffix → Passes read stops.front × (rest ≢ [])
  pub says : Says k (before ++ stops.front) rest

-- The result of parsing the part `t` of a number with the parser `read` is correct. `before` is the text of the number
-- before this part. If the parser found no flaw, `good` holds for the suffix. Otherwise the flaw satisfies `TailFlaw`.
abbrev pub NextFlaw : (List ℕ → Type 0) → (List ℕ → Ending) → List ℕ → List ℕ → Ending → Type 0
NextFlaw good read before t (None, x) = good x
NextFlaw good read before t (Some k, rest) = TailFlaw read before t k rest

no_end : (a b : List ℕ) → a ++ b ≡ [] → b ≡ []
no_end [] b e = e
no_end (c ∷ cs) b e = absurd (cc)

-- If the first character of a text fails a test, the first character of a completed prefix of the text fails the test too.
-- The ending that completes an empty prefix must be empty.
begins_so : (first : ℕ → Bool) (front rest ending t : List ℕ) → t ≡ front ++ rest → (front ≡ [] → ending ≡ [])
    → first_passes first t ≡ false → first_passes first (front ++ ending) ≡ false
begins_so first [] rest ending t e fits h = ap (first_passes first) (fits refl)
begins_so first (x ∷ xs) rest ending t e fits h = sym (ap (first_passes first) e) ∙ h

-- Let the parser `outer` skip the text `pre`, and then parse like `inner`. A flaw that `inner` finds in a text is the flaw
-- that `outer` finds in `pre` followed by the text.
tail_lifted : (inner outer : List ℕ → Ending) (first : ℕ → Bool) (before pre t : List ℕ) (k : FlawKind) (rest : List ℕ)
    → first_passes first t ≡ false → ((x : List ℕ) → first_passes first x ≡ false → outer (pre ++ x) ≡ inner x)
    → TailFlaw inner (before ++ pre) t k rest → TailFlaw outer before (pre ++ t) k rest
unfolding lifted
tail_lifted inner outer first before pre t k rest ok same f =
    let s = f.stops in
    let passes : (x : List ℕ) → first_passes first x ≡ false → is_read (outer (pre ++ x)) ≡ is_read (inner x)
    = λ x h. ap is_read (same x h) in
    record {
      stops = lifted pre t rest s
          (λ y. passes (s.front ++ s.begins.ending)
          (begins_so first s.front rest s.begins.ending t s.text_is f.fits ok) ∙ y)
          (λ c cs e h y. passes (s.front ++ (c ∷ e)) (goes_on first s.front rest t c cs e s.text_is h ok) ∙ y);
      fits = λ e. f.fits (no_end pre s.front e);
      whole = λ e.
          let w = f.whole e in
          (passes s.front (front_passes first s.front rest t s.text_is ok) ∙ w.0, w.1);
      says = subst (λ z. Says k z rest) (append_assoc before pre s.front) f.says;
    }

-- Let the parser `outer` skip the text `pre`, and then parse like `inner`. If the result of `inner` for a text is correct
-- (`NextFlaw`), it is also correct as the result of `outer` for `pre` followed by the text.
through : (good more : List ℕ → Type 0) (inner outer : List ℕ → Ending) (first : ℕ → Bool) (before pre t u : List ℕ)
    (e : Ending) → u ≡ pre ++ t → first_passes first t ≡ false
    → ((x : List ℕ) → first_passes first x ≡ false → outer (pre ++ x) ≡ inner x) → ((x : List ℕ) → good x → more x)
    → NextFlaw good inner (before ++ pre) t e → NextFlaw more outer before u e
through good more inner outer first before pre t u (None, x) text ok same says h = says x h
through good more inner outer first before pre t u (Some k, rest) text ok same says h =
    subst (λ z. TailFlaw outer before z k rest) (sym text)
    (tail_lifted inner outer first before pre t k rest ok same h)

judged_more : (good more : List ℕ → Type 0) (read : List ℕ → Ending) (before t : List ℕ) (e : Ending)
    → ((x : List ℕ) → good x → more x) → NextFlaw good read before t e → NextFlaw more read before t e
judged_more good more read before t (None, x) says h = says x h
judged_more good more read before t (Some k, rest) says h = h

-- ---- the suffix of a number

abbrev SuffixOf : List ℕ → List ℕ → Type 0
SuffixOf t x = IsNumberSuffix x × (t ≡ x)

front_suffix : (x : List ℕ) → is_suffix_front x ≡ true → first_passes is_underscore x ≡ false → is_number_suffix x
    ≡ true
unfolding is_strict_suffix
front_suffix [] h u = refl
front_suffix (c ∷ cs) h u =
    let p = and_parts (is_start c) (list_all is_continue cs) h in
    and_from (not (c == 95)) (is_strict_suffix (c ∷ cs)) (not_from_false (c == 95) u)
    (ap (λ b. cond b (is_some_text cs) (is_start c) && list_all is_continue cs) u ∙ h)

suffix_flaw : (before t : List ℕ) → first_passes is_underscore t ≡ false → is_some_text (suffix_rest t) ≡ true
    → TailFlaw suffix_end_at before t BadSuffix (suffix_rest t)
suffix_flaw before t u some =
    let k = suffix_cut t in
    let no_mark = front_passes is_underscore k.front (suffix_rest t) t k.text_is u in
    let passes : Passes suffix_end_at k.front = suffix_reads k.front no_mark
    ∙ front_suffix k.front k.is_front no_mark in
    record {
      stops = record {
        front = k.front;
        text_is = k.text_is;
        begins = record { ending = []; are_characters = tt; is_taken = subst (Passes suffix_end_at) (sym (append-nil k.front)) passes };
        stuck = λ c cs e at.
            let z : List ℕ = k.front ++ (c ∷ e) in
            suffix_reads z (goes_on is_underscore k.front (suffix_rest t) t c cs e k.text_is at u)
            ∙ and_right (not (first_passes is_underscore z)) (is_strict_suffix z) (suffix_stuck k.front c e
            (goes_on_first k.front cs e c (ap (goes_on_with_suffix k.front) (sym at) ∙ k.ends)));
      };
      fits = λ e. refl;
      whole = λ e. (passes, λ n. both_ways (is_some_text (suffix_rest t)) (ap is_some_text n) some);
      says = tt;
    }

suffix_judged : (before t : List ℕ) → first_passes is_underscore t ≡ false
    → NextFlaw (SuffixOf t) suffix_end_at before t (suffix_end_at t)
unfolding suffix_end_at
suffix_judged before t u = cond_both (is_some_text (suffix_rest t)) _ _ (NextFlaw (SuffixOf t) suffix_end_at before t)
    (suffix_flaw before t u) (λ none. (number_suffix_sound t (suffix_whole t u ∙ ap not none), refl))

-- After all digits and underscores are skipped, no underscore follows.
no_mark : (test : ℕ → Bool) (t : List ℕ) → first_passes (λ c. test c || is_underscore c) t ≡ false
    → first_passes is_underscore t ≡ false
no_mark test t h = (each_fails test is_underscore t h).1

-- ---- the exponent of a float

-- The text is a whole part with an optional fraction, so an exponent may follow.
record BeforePower (before : List ℕ) : Type 0 where
  digits : List ℕ
  fraction : List ℕ
  is_whole : IsDigits digits
  is_fraction : IsStrictFraction fraction
  before_is : before ≡ digits ++ fraction

-- The text is an exponent and a suffix of a number.
abbrev PowerOf : List ℕ → List ℕ → Type 0
PowerOf t x = (e : List ℕ) × IsStrictExponent e × IsNumberSuffix x × (t ≡ e ++ x)

sign_passes : (sign : List ℕ) → IsSign sign → is_power_sign sign ≡ true
sign_passes sign (inl e) = ap is_power_sign e
sign_passes sign (inr (inl e)) = ap is_power_sign e
sign_passes sign (inr (inr e)) = ap is_power_sign e

-- Digits and underscores without a digit are underscores only.
underscores : (r : ℕ) (run : List ℕ) → list_all (λ c. has_value r c || is_underscore c) run ≡ true
    → list_any (has_value r) run ≡ false → list_all is_underscore run ≡ true
underscores r [] each none = refl
underscores r (c ∷ cs) each none =
    let p = and_parts (has_value r c || is_underscore c) (list_all (λ c. has_value r c || is_underscore c) cs) each in
    let n = or_parts (has_value r c) (list_any (has_value r) cs) none in
    and_from (is_underscore c) (list_all is_underscore cs) (sym (ap (λ b. b || is_underscore c) n.0) ∙ p.0)
    (underscores r cs p.1 n.1)

-- Replacing the text after a character of a text doesn't change whether the text begins with a sign.
row_sign : (run y : List ℕ) (c : ℕ) (cs e : List ℕ) → y ≡ c ∷ cs → first_passes is_sign (run ++ y) ≡ false
    → first_passes is_sign (run ++ (c ∷ e)) ≡ false
row_sign [] y c cs e h n = sym (ap (first_passes is_sign) h) ∙ n
row_sign (d ∷ ds) y c cs e h n = n

empty_sign : (sign run y : List ℕ) → sign ++ run ≡ [] → (sign ≡ [] → first_passes is_sign (run ++ y) ≡ false)
    → first_passes is_sign y ≡ false
empty_sign [] [] y n h = h refl
empty_sign [] (r ∷ rs) y n h = absurd (cc)
empty_sign (s ∷ ss) run y n h = absurd (cc)

-- If an exponent has no digit, parsing stops after the exponent's letter, sign and underscores with the flaw
-- `NoExponentDigit`.
power_empty : (before cs sign run y : List ℕ) (c : ℕ) → BeforePower before → is_exponent_letter c ≡ true → IsSign sign
    → list_all in_row run ≡ true → list_any (has_value 10) run ≡ false → first_passes in_row y ≡ false
    → cs ≡ sign ++ (run ++ y) → (sign ≡ [] → first_passes is_sign (run ++ y) ≡ false)
    → TailFlaw digits_end_at before (c ∷ cs) NoExponentDigit y
unfolding suffix_end_at suffix_rest
power_empty before cs sign run y c b l s each none stops text bare =
    let row_one : List ℕ = run ++ (49 ∷ []) in
    let all : list_all in_row row_one ≡ true = list_all-append in_row run (49 ∷ [])
    ∙ and_from (list_all in_row run) true each refl in
    let some : list_any (has_value 10) row_one ≡ true = list_any-append (has_value 10) run (49 ∷ [])
    ∙ or_right (list_any (has_value 10) run) true refl in
    let one : digits_end_at (c ∷ ((sign ++ run) ++ (49 ∷ []))) ≡ suffix_end_at [] = digits_power c
    ((sign ++ run) ++ (49 ∷ [])) l ∙ ap power_end_at (append_assoc sign run (49 ∷ [])
    ∙ ap (λ z. sign ++ z) (sym (append-nil row_one)))
    ∙ power_is sign row_one [] true s (λ e. row_bare row_one [] all some) all some refl in
    record {
      stops = record {
        front = c ∷ (sign ++ run);
        text_is = ap (λ z. c ∷ z) (text ∙ sym (append_assoc sign run y));
        begins = record { ending = 49 ∷ []; are_characters = (refl, tt); is_taken = ap is_read one };
        stuck = λ d ds e h. ap is_read (digits_power c ((sign ++ run) ++ (d ∷ e)) l
            ∙ ap power_end_at (append_assoc sign run (d ∷ e))
            ∙ power_is sign run (d ∷ e) false s (λ n. row_sign run y d ds e h (bare n)) each none
            (sym (ap (first_passes in_row) h) ∙ stops));
      };
      fits = λ e. absurd (cc);
      whole = λ e. absurd (cc);
      says = (
        record {
          whole = b.digits;
          fraction = b.fraction;
          letter = c;
          sign = sign;
          underscores = run;
          is_whole = b.is_whole;
          is_fraction = b.is_fraction;
          is_letter = l;
          is_sign = sign_passes sign s;
          all_underscores = underscores 10 run each none;
          front_is = ap (λ z. z ++ (c ∷ (sign ++ run))) b.before_is
              ∙ append_assoc b.digits b.fraction (c ∷ (sign ++ run));
        },
        stops,
        λ n. empty_sign sign run y n bare,
      );
    }

-- The result of parsing an exponent is correct: an exponent and a suffix, or the flaw.
power_judged : (before cs : List ℕ) (c : ℕ) → BeforePower before → is_exponent_letter c ≡ true
    → NextFlaw (PowerOf (c ∷ cs)) digits_end_at before (c ∷ cs) (power_end_at cs)
unfolding power_end_at
power_judged before cs c b l = cond_both (has_digit_at 10 u) _ _ (NextFlaw (PowerOf (c ∷ cs)) digits_end_at before (c ∷
    cs)) digits (λ none. power_empty before cs s.sign run y c b l s.is_sign_of each none stops text bare)
  where
    u : List ℕ
    u = after_power_sign cs

    s : SignCut cs u
    s = sign_cut cs

    run : List ℕ
    run = digit_run_at 10 u

    y : List ℕ
    y = after_digits 10 u

    each : list_all in_row run ≡ true
    each = run_all in_row u

    stops : first_passes in_row y ≡ false
    stops = run_ends in_row u

    text : cs ≡ s.sign ++ (run ++ y)
    text = s.text_is ∙ ap (λ z. s.sign ++ z) (run_join in_row u)

    bare : s.sign ≡ [] → first_passes is_sign (run ++ y) ≡ false
    bare e = ap (first_passes is_sign) (sym (run_join in_row u)) ∙ s.bare e

    front : List ℕ
    front = c ∷ (s.sign ++ run)

    joined : c ∷ cs ≡ front ++ y
    joined = ap (λ z. c ∷ z) (text ∙ sym (append_assoc s.sign run y))

    digits : has_digit_at 10 u ≡ true → NextFlaw (PowerOf (c ∷ cs)) digits_end_at before (c ∷ cs) (suffix_end_at y)
    digits some = through (SuffixOf y) (PowerOf (c ∷ cs)) suffix_end_at digits_end_at in_row before front y (c ∷ cs)
        (suffix_end_at y) joined stops
        (λ x k. digits_power c ((s.sign ++ run) ++ x) l ∙ ap power_end_at (append_assoc s.sign run x)
        ∙ power_is s.sign run x true s.is_sign_of (λ e. row_bare run x each some) each some k)
        (λ x h. (
          front,
          record { letter = c; sign = s.sign; run = run; is_letter = l; is_sign = s.is_sign_of; each = part_row run each; some = some_value run ∙ some; text = refl },
          h.0,
          joined ∙ ap (λ z. front ++ z) h.1,
        ))
        (suffix_judged (before ++ front) y (no_mark (has_value 10) y stops))

-- ---- the text after digits

-- The text after a number's digits is a suffix only, or an exponent and a suffix.
abbrev DigitsOf : List ℕ → List ℕ → Type 0
DigitsOf t x = (IsNumberSuffix x × (first_passes is_exponent_letter x ≡ false) × (t ≡ x)) ⊎ PowerOf t x

plain_judged : (before t : List ℕ) → first_passes is_exponent_letter t ≡ false → first_passes in_row t ≡ false
    → NextFlaw (DigitsOf t) digits_end_at before t (suffix_end_at t)
plain_judged before t n stops = through (SuffixOf t) (DigitsOf t) suffix_end_at digits_end_at is_exponent_letter before
    [] t t (suffix_end_at t) refl n digits_plain
    (λ x h. inl (h.0, sym (ap (first_passes is_exponent_letter) h.1) ∙ n, h.1))
    (suffix_judged (before ++ []) t (no_mark (has_value 10) t stops))

digits_judged : (before t : List ℕ) → BeforePower before → first_passes in_row t ≡ false
    → NextFlaw (DigitsOf t) digits_end_at before t (digits_end_at t)
unfolding digits_end_at
digits_judged before [] b stops = plain_judged before [] refl refl
digits_judged before (c ∷ cs) b stops =
    cond_both (is_exponent_letter c) _ _ (NextFlaw (DigitsOf (c ∷ cs)) digits_end_at before (c ∷ cs))
    (λ l. judged_more (PowerOf (c ∷ cs)) (DigitsOf (c ∷ cs)) digits_end_at before (c ∷ cs) (power_end_at cs)
    (λ x h. inr h) (power_judged before cs c b l))
    (λ n. plain_judged before (c ∷ cs) n stops)

-- ---- a float

abbrev FloatOf : List ℕ → List ℕ → Type 0
FloatOf t x = (v : Contents) × StrictFloat t v x

float_of : (t numeral x : List ℕ) → (IsDotAlone numeral x ⊎ (IsPointed numeral x ⊎ IsScientific numeral x))
    → IsDecimalText t → IsNumberSuffix x → t ≡ numeral ++ x → FloatOf t x
float_of t numeral x form n s text = (_, record { numeral = numeral; form = form; no_prefix = n; suffix = s; text = text; contents = refl })

-- If no digit follows the dot of a float, parsing stops after the dot with the flaw `NoFractionDigit`.
no_fraction : (before whole : List ℕ) (c : ℕ) (cs : List ℕ) → IsDigits whole → before ≡ whole ++ (46 ∷ [])
    → is_ascii_digit c ≡ false → TailFlaw fraction_end_at before (c ∷ cs) NoFractionDigit (c ∷ cs)
unfolding fraction_end_at
no_fraction before whole c cs w e n = record {
  stops = record {
    front = [];
    text_is = refl;
    begins = record { ending = []; are_characters = tt; is_taken = refl };
    stuck = λ d ds r h.
        let same : c ≡ d = cc in
        ap is_read (fraction_none d r (subst (λ z. is_ascii_digit z ≡ false) same n));
  };
  fits = λ y. refl;
  whole = λ y. absurd (cc);
  says = (whole, w, append-nil before ∙ e, (λ y. absurd (cc)), n);
}

-- The result of parsing the text after a float's dot is correct: a float and its suffix, or the flaw.
fraction_judged : (t before d z : List ℕ) → IsDigits d → IsDecimalText t → before ≡ d ++ (46 ∷ []) → t ≡ d ++ (46 ∷ z)
    → NextFlaw (FloatOf t) fraction_end_at before z (fraction_end_at z)
unfolding fraction_end_at
fraction_judged t before d [] h n e text = float_of t (d ++ (46 ∷ [])) [] (inl (d, h, refl, refl)) n (inl refl, refl)
    (text ∙ sym (append-nil (d ++ (46 ∷ []))))
fraction_judged t before d (c ∷ cs) h n e text =
    cond_both (is_ascii_digit c) _ _ (NextFlaw (FloatOf t) fraction_end_at before z) digits
    (no_fraction before d c cs h e)
  where
    z : List ℕ
    z = c ∷ cs

    f : List ℕ
    f = digit_run_at 10 z

    y : List ℕ
    y = after_digits 10 z

    whole : t ≡ (d ++ (46 ∷ f)) ++ y
    whole = text ∙ ap (λ q. d ++ (46 ∷ q)) (run_join in_row z) ∙ sym (append_assoc d (46 ∷ f) y)

    read : IsDigits f → (x : List ℕ) → DigitsOf y x → FloatOf t x
    read first x (inl b) = float_of t (d ++ (46 ∷ f)) x (inr (inl (d, f, h, first, refl, b.1))) n b.0
        (whole ∙ ap (λ q. (d ++ (46 ∷ f)) ++ q) b.2)
    read first x (inr b) = float_of t ((d ++ (46 ∷ f)) ++ b.0) x (inr (inr (d, b.0, h, b.1, inr (f, first, refl)))) n
        b.2
        (whole ∙ ap (λ q. (d ++ (46 ∷ f)) ++ q) b.3 ∙ sym (append_assoc (d ++ (46 ∷ f)) b.0 x))

    digits : is_ascii_digit c ≡ true → NextFlaw (FloatOf t) fraction_end_at before z (digits_end_at y)
    digits first =
        let is = front_digits z first in
        through (DigitsOf y) (FloatOf t) digits_end_at fraction_end_at in_row before f y z (digits_end_at y)
        (run_join in_row z) (run_ends in_row z) (λ x k. fraction_is f x is k) (read is)
        (digits_judged (before ++ f) y (record {
          digits = d;
          fraction = 46 ∷ f;
          is_whole = h;
          is_fraction = inr (f, is, refl);
          before_is = ap (λ q. q ++ f) e ∙ append_assoc d (46 ∷ []) f;
        }) (run_ends in_row z))

-- ---- a number

abbrev IntOf : List ℕ → Option ℕ → List ℕ → Type 0
IntOf t m x = (n : ℕ) × StrictInt t (Digits (dec n)) x × (m ≡ capped n)

-- The result of parsing a number is correct: the text is an integer with the magnitude and the suffix, or a float with the
-- suffix, or has the flaw.
abbrev pub ReadJudged : List ℕ → (List ℕ → Ending) → List ℕ → List ℕ → NumberRead → Type 0
ReadJudged t read before u (None, Some m, x) = IntOf t m x
ReadJudged t read before u (None, None, x) = FloatOf t x
ReadJudged t read before u (Some k, m, x) = TailFlaw read before u k x

float_judged : (t : List ℕ) (read : List ℕ → Ending) (before u : List ℕ) (e : Ending)
    → NextFlaw (FloatOf t) read before u e → ReadJudged t read before u (as_float e)
float_judged t read before u (None, x) h = h
float_judged t read before u (Some k, x) h = h

int_judged : (t : List ℕ) (m : Option ℕ) (read : List ℕ → Ending) (before u : List ℕ) (e : Ending)
    → NextFlaw (IntOf t m) read before u e → ReadJudged t read before u (as_integer m e)
int_judged t m read before u (None, x) h = h
int_judged t m read before u (Some k, x) h = h

-- A sequence that begins with a digit contains a digit.
first_some : (d : List ℕ) → first_passes is_ascii_digit d ≡ true → list_any (has_value 10) d ≡ true
first_some [] h = absurd (both_ways false refl h)
first_some (c ∷ cs) h = or_left (has_value 10 c) (list_any (has_value 10) cs) (sym (digit_is_ten c) ∙ h)

-- Decimal digits and a suffix that begins with neither `e` nor `E` are a decimal integer. Its magnitude is the number that
-- the digits represent, or `None` above 128 bits.
int_of : (t d x : List ℕ) (m : Option ℕ) → IsDigits d → IsDecimalText t → IsNumberSuffix x → first_passes
    is_exponent_letter x ≡ false → t ≡ d ++ x → m ≡ capped (place_value 10 (without_underscores d)) → IntOf t m x
int_of t d x m h n s p text is = (
  place_value 10 (without_underscores d),
  record {
    prefix = [];
    base = 10;
    run = d;
    is_front = inl (refl, refl, h, n);
    each = row_part d h.1;
    some = first_some d h.0;
    suffix = s;
    no_exponent = p;
    no_digit = λ e. absurd (omega arith);
    text = text;
    contents = refl;
  },
  is,
)

never_first : (t : List ℕ) → first_passes (λ c. false) t ≡ false
never_first [] = refl
never_first (c ∷ cs) = refl

-- The result of parsing the text after a decimal number's whole part is correct: an integer, a float, or the flaw.
whole_judged : (t d y : List ℕ) (m : Option ℕ) → IsDigits d → IsDecimalText t → t ≡ d ++ y → first_passes in_row y ≡
    false → m ≡ capped (place_value 10 (without_underscores d)) → ReadJudged t whole_end_at d y (whole_read_at m y)
unfolding whole_read_at
whole_judged t d y m h n text stops is = go y text stops
  where
    plain : (y : List ℕ) → t ≡ d ++ y → first_passes in_row y ≡ false → first_passes is_float_mark y ≡ false
        → ReadJudged t whole_end_at d y (as_integer m (suffix_end_at y))
    plain y text stops mark = int_judged t m whole_end_at d y (suffix_end_at y) (through (SuffixOf y) (IntOf t m)
        suffix_end_at whole_end_at is_float_mark d [] y y (suffix_end_at y) refl mark whole_plain (λ x s. int_of t d x m
        h n s.0 (sym (ap (first_passes is_exponent_letter) s.1) ∙ (each_fails (λ c. c == 46) is_exponent_letter y
        mark).1) (text ∙ ap (λ z. d ++ z) s.1) is) (suffix_judged (d ++ []) y (no_mark (has_value 10) y stops)))

    dot : (c : ℕ) (cs : List ℕ) → t ≡ d ++ (c ∷ cs) → (c == 46) ≡ true
        → ReadJudged t whole_end_at d (c ∷ cs) (as_float (fraction_end_at cs))
    dot c cs text e =
        let is : c ≡ 46 = eqb-true c 46 e in
        float_judged t whole_end_at d (c ∷ cs) (fraction_end_at cs)
        (through (FloatOf t) (FloatOf t) fraction_end_at whole_end_at (λ z. false) d (46 ∷ []) cs (c ∷ cs)
        (fraction_end_at cs) (ap (λ z. z ∷ cs) is) (never_first cs) (λ x k. whole_dot x) (λ x f. f)
        (fraction_judged t (d ++ (46 ∷ [])) d cs h n refl (text ∙ ap (λ z. d ++ (z ∷ cs)) is)))

    power : (c : ℕ) (cs : List ℕ) → t ≡ d ++ (c ∷ cs) → (c == 46) ≡ false → is_exponent_letter c ≡ true
        → ReadJudged t whole_end_at d (c ∷ cs) (as_float (power_end_at cs))
    power c cs text e l = float_judged t whole_end_at d (c ∷ cs) (power_end_at cs)
        (through (PowerOf (c ∷ cs)) (FloatOf t) digits_end_at whole_end_at (λ z. z == 46) d [] (c ∷ cs) (c ∷ cs)
        (power_end_at cs) refl e whole_digits
        (λ x p. float_of t (d ++ p.0) x (inr (inr (d, p.0, h, p.1, inl refl))) n p.2
        (text ∙ ap (λ q. d ++ q) p.3 ∙ sym (append_assoc d p.0 x)))
        (power_judged (d ++ []) cs c (record { digits = d; fraction = []; is_whole = h; is_fraction = inl refl; before_is = refl })
        l))

    go : (y : List ℕ) → t ≡ d ++ y → first_passes in_row y ≡ false → ReadJudged t whole_end_at d y (whole_read_at m y)
    go [] text stops = plain [] text stops refl
    go (c ∷ cs) text stops = tests (c == 46) refl (is_exponent_letter c) refl
      where
        tests : (b : Bool) → (c == 46) ≡ b → (e : Bool) → is_exponent_letter c ≡ e
            → ReadJudged t whole_end_at d (c ∷ cs) (cond b (as_float (fraction_end_at cs))
            (cond e (as_float (power_end_at cs)) (as_integer m (suffix_end_at (c ∷ cs)))))
        tests true b e l = dot c cs text b
        tests false b true l = power c cs text b l
        tests false b false l = plain (c ∷ cs) text stops (both_fail (λ c. c == 46) is_exponent_letter (c ∷ cs) b l)

-- Let the parser `outer` skip the text `pre`, and then parse like `inner`. If the result of `inner` for a text is correct
-- (`ReadJudged`), it is also correct as the result of `outer` for `pre` followed by the text.
read_through : (t : List ℕ) (inner outer : List ℕ → Ending) (first : ℕ → Bool) (pre y u : List ℕ) (r : NumberRead) → u ≡
    pre ++ y → first_passes first y ≡ false → ((x : List ℕ) → first_passes first x ≡ false → outer (pre ++ x) ≡ inner x)
    → ReadJudged t inner pre y r → ReadJudged t outer [] u r
read_through t inner outer first pre y u (None, Some m, x) text ok same h = h
read_through t inner outer first pre y u (None, None, x) text ok same h = h
read_through t inner outer first pre y u (Some k, m, x) text ok same h = subst (λ z. TailFlaw outer [] z k x) (sym text)
    (tail_lifted inner outer first [] pre y k x ok same h)

-- The result of parsing a decimal number is correct: an integer, a float, or the flaw.
decimal_judged : (t : List ℕ) → first_passes is_ascii_digit t ≡ true → IsDecimalText t
    → ReadJudged t number_end_at [] t (whole_read_at (capped (magnitude_at 10 t)) (after_digits 10 t))
decimal_judged t d n =
    let w : List ℕ = digit_run_at 10 t in
    let y : List ℕ = after_digits 10 t in
    let m : Option ℕ = capped (magnitude_at 10 t) in
    let is = front_digits t d in
    let text : t ≡ w ++ y = run_join in_row t in
    let stops = run_ends in_row t in
    let ten : (radix_at (w ++ y)).0 ≡ 10 = ap (λ z. (radix_at z).0) (sym text)
    ∙ ap (λ (q : ℕ × List ℕ). q.0) (not_based t n) in
    read_through t whole_end_at number_end_at (ten_first w) w y t (whole_read_at m y) text
    (both_fail in_row (names w) y stops (names_none w y ten)) (λ x k. ten_is w y x is ten k)
    (whole_judged t w y m is n text stops refl)

-- ---- numbers with a base prefix

one_of : (b : Base) → of_base b 49 ≡ true
one_of Binary = refl
one_of other = refl

-- The prefix of a base other than ten, digits and underscores of the base, and the digit `1` are a number.
based_one : (b : Base) (w : List ℕ) → b ≢ Decimal → list_all (in_base b) w ≡ true
    → Passes number_end_at ((prefix b ++ w) ++ (49 ∷ []))
unfolding suffix_end_at suffix_rest
based_one b w n each =
    let z : List ℕ = w ++ (49 ∷ []) in
    let all : list_all (in_base b) z ≡ true = list_all-append (in_base b) w (49 ∷ [])
    ∙ and_from (list_all (in_base b) w) (in_base b 49 && true) each
    (and_from (in_base b 49) true (or_left (of_base b 49) (is_underscore 49) (one_of b)) refl) in
    let some : list_any (of_base b) z ≡ true = list_any-append (of_base b) w (49 ∷ [])
    ∙ or_right (list_any (of_base b) w) (of_base b 49 || false) (or_left (of_base b 49) false (one_of b)) in
    ap is_read (ap number_end_at (append_assoc (prefix b) w (49 ∷ []) ∙ sym (append-nil (prefix b ++ z)))
    ∙ based_is b z [] n all refl ∙ row_plain b z [] some refl refl)

some_prefix : (b : Base) (w : List ℕ) → b ≢ Decimal → prefix b ++ w ≢ []
some_prefix Binary w n e = absurd (cc)
some_prefix Octal w n e = absurd (cc)
some_prefix Hexadecimal w n e = absurd (cc)
some_prefix Decimal w n e = n refl

-- After a base prefix and digits, parsing stops with a flaw if a decimal digit follows, if there are no digits, or if a dot
-- or an exponent follows.
row_stuck : (digit none mark : Bool) (y : List ℕ) → (digit || (none || mark)) ≡ true
    → is_read (row_tail digit none mark y) ≡ false
row_stuck true none mark y h = refl
row_stuck false true mark y h = refl
row_stuck false false true y h = refl
row_stuck false false false y h = absurd (cc)

-- After a base prefix and digits, the text has a flaw if a decimal digit follows, if there are no digits, or if a dot or an
-- exponent follows.
based_flaw : (b : Base) (w y : List ℕ) (k : FlawKind) → b ≢ Decimal → list_all (in_base b) w ≡ true
    → first_passes (in_base b) y ≡ false → (k ≡ BadSuffix → ⊥)
    → (first_passes is_ascii_digit y || (not (list_any (of_base b) w) || first_passes is_float_mark y)) ≡ true
    → Says k (prefix b ++ w) y → TailFlaw number_end_at [] ((prefix b ++ w) ++ y) k y
based_flaw b w y k n each stops other tests says =
    let Test : List ℕ → Bool = λ z. first_passes is_ascii_digit z
    || (not (list_any (of_base b) w) || first_passes is_float_mark z) in
    record {
      stops = record {
        front = prefix b ++ w;
        text_is = refl;
        begins = record { ending = 49 ∷ []; are_characters = (refl, tt); is_taken = based_one b w n each };
        stuck = λ c cs e h. ap is_read (based_is b w (c ∷ e) n each (sym (ap (first_passes (in_base b)) h) ∙ stops))
            ∙ row_stuck (is_ascii_digit c) (not (list_any (of_base b) w)) (is_float_mark c) (c ∷ e)
            (sym (ap Test h) ∙ tests);
      };
      fits = λ e. absurd (some_prefix b w n e);
      whole = λ e. absurd (other e);
      says = says;
    }

prefix_of : (b : Base) → (radix b == 10) ≡ false → BasedPrefix (prefix b) (radix b)
prefix_of Binary h = inl (refl, refl)
prefix_of Octal h = inr (inl (refl, refl))
prefix_of Hexadecimal h = inr (inr (refl, refl))
prefix_of Decimal h = absurd (cc)

no_more_digits : (b : Base) (x : List ℕ) → first_passes (in_base b) x ≡ false → radix b ≡ 16
    → first_passes is_ascii_hexdigit x ≡ false
no_more_digits Hexadecimal x h e = passes_same is_ascii_hexdigit (has_value 16) hex_is_sixteen x ∙ hex_stops x h
no_more_digits kind x h e = absurd (omega arith)

-- Whether the character continues the digits after a base prefix, or may be a flaw after them: a decimal digit, a dot, or
-- the letter of an exponent.
abbrev based_first : Base → ℕ → Bool
based_first b c = in_base b c || (is_ascii_digit c || is_float_mark c)

based_judged : (b : Base) (t w : List ℕ) → (radix b == 10) ≡ false → t ≡ prefix b ++ w
    → ReadJudged t number_end_at [] t (based_read_at (radix b) w)
unfolding based_read_at
based_judged b t w other text = go (first_passes is_ascii_digit y) refl (list_any (of_base b) run) refl
    (first_passes is_float_mark y) refl
  where
    run : List ℕ
    run = digit_run_at (radix b) w

    y : List ℕ
    y = after_digits (radix b) w

    m : Option ℕ
    m = capped (magnitude_at (radix b) w)

    n : b ≢ Decimal
    n e = both_ways (radix b == 10) other (ap (λ z. radix z == 10) e)

    each : list_all (in_base b) run ≡ true
    each = run_all (in_base b) w

    stops : first_passes (in_base b) y ≡ false
    stops = run_ends (in_base b) w

    whole : t ≡ (prefix b ++ run) ++ y
    whole = text ∙ ap (λ z. prefix b ++ z) (run_join (in_base b) w) ∙ sym (append_assoc (prefix b) run y)

    is_run : IsBasedRun b run (prefix b ++ run)
    is_run = record { not_decimal = n; each = each; front_is = refl }

    no_digit : first_passes (of_base b) y ≡ false
    no_digit = (each_fails (of_base b) is_underscore y stops).0

    flaw : (k : FlawKind) → (k ≡ BadSuffix → ⊥) → (first_passes is_ascii_digit y || (not (list_any (of_base b) run) ||
        first_passes is_float_mark y)) ≡ true → Says k (prefix b ++ run) y → TailFlaw number_end_at [] t k y
    flaw k not_suffix tests says = subst (λ z. TailFlaw number_end_at [] z k y) (sym whole)
        (based_flaw b run y k n each stops not_suffix tests says)

    read : list_any (of_base b) run ≡ true → first_passes is_float_mark y ≡ false → (x : List ℕ) → SuffixOf y x
        → IntOf t m x
    read some mark x s = (
      place_value (radix b) (without_underscores run),
      record {
        prefix = prefix b;
        base = radix b;
        run = run;
        is_front = inr (prefix_of b other);
        each = each;
        some = some;
        suffix = s.0;
        no_exponent = sym (ap (first_passes is_exponent_letter) s.1)
            ∙ (each_fails (λ c. c == 46) is_exponent_letter y mark).1;
        no_digit = no_more_digits b x (sym (ap (first_passes (in_base b)) s.1) ∙ stops);
        text = whole ∙ ap (λ z. (prefix b ++ run) ++ z) s.1;
        contents = refl;
      },
      refl,
    )

    suffix : first_passes is_ascii_digit y ≡ false → list_any (of_base b) run ≡ true
        → first_passes is_float_mark y ≡ false → ReadJudged t number_end_at [] t (as_integer m (suffix_end_at y))
    suffix digit some mark =
        let Other : ℕ → Bool = λ c. is_ascii_digit c || is_float_mark c in
        int_judged t m number_end_at [] t (suffix_end_at y)
        (through (SuffixOf y) (IntOf t m) suffix_end_at number_end_at (based_first b) [] (prefix b ++ run) y t
        (suffix_end_at y) whole (both_fail (in_base b) Other y stops
        (both_fail is_ascii_digit is_float_mark y digit mark))
        (λ x k.
        let p = each_fails (in_base b) Other x k in
        let q = each_fails is_ascii_digit is_float_mark x p.1 in
        based_is b run x n each p.0 ∙ row_plain b run x some q.0 q.1) (read some mark)
        (suffix_judged (prefix b ++ run) y (no_mark (of_base b) y stops)))

    go : (d : Bool) → first_passes is_ascii_digit y ≡ d → (s : Bool) → list_any (of_base b) run ≡ s → (k : Bool)
        → first_passes is_float_mark y ≡ k → ReadJudged t number_end_at [] t (cond d (as_float (stopped InvalidDigit y))
        (cond (not s) (as_float (stopped NoDigits y)) (cond k (as_float (stopped BasedFloat y))
        (as_integer m (suffix_end_at y)))))
    go true digit s some k mark = flaw InvalidDigit (λ e. absurd (cc))
        (or_left (first_passes is_ascii_digit y) (not (list_any (of_base b) run) || first_passes is_float_mark y) digit)
        (b, run, is_run, digit, no_digit)
    go false digit false none k mark = flaw NoDigits (λ e. absurd (cc))
        (or_right (first_passes is_ascii_digit y) (not (list_any (of_base b) run) || first_passes is_float_mark y)
        (or_left (not (list_any (of_base b) run)) (first_passes is_float_mark y) (ap not none)))
        (b, run, is_run, underscores (radix b) run each none, both_fail is_ascii_digit (in_base b) y digit stops)
    go false digit true some true mark = flaw BasedFloat (λ e. absurd (cc))
        (or_right (first_passes is_ascii_digit y) (not (list_any (of_base b) run) || first_passes is_float_mark y)
        (or_right (not (list_any (of_base b) run)) (first_passes is_float_mark y) mark))
        (b, run, is_run, some, mark, no_digit)
    go false digit true some false mark = suffix digit some mark

-- ---- any number

abbrev ReadBy : List ℕ → ℕ × List ℕ → Type 0
ReadBy t q = ReadJudged t number_end_at [] t (cond (q.0 == 10)
    (whole_read_at (capped (magnitude_at 10 q.1)) (after_digits 10 q.1)) (based_read_at q.0 q.1))

by_base : (b : Base) (t w : List ℕ) → first_passes is_ascii_digit t ≡ true → t ≡ prefix b ++ w
    → ((not (radix b == 10) || first_passes is_ascii_digit w) ≡ true → IsAfterPrefix b w) → ReadBy t (radix b, w)
by_base Decimal t w d text front =
    let digit : first_passes is_ascii_digit w ≡ true = sym (ap (first_passes is_ascii_digit) text) ∙ d in
    subst (λ z. ReadBy z (10, w)) (sym text) (decimal_judged w digit (front digit).1)
by_base Binary t w d text front = based_judged Binary t w refl text
by_base Octal t w d text front = based_judged Octal t w refl text
by_base Hexadecimal t w d text front = based_judged Hexadecimal t w refl text

pub number_judged : (t : List ℕ) → first_passes is_ascii_digit t ≡ true
    → ReadJudged t number_end_at [] t (number_read_at t)
unfolding number_read_at
number_judged t d = let b = based t in subst (ReadBy t) (sym b.at) (by_base b.base t b.rest d b.text_is b.front)

-- If a text begins with a digit and the parser of numbers reads it to its end, it is a literal token.
pub number_is_token : (t : List ℕ) → first_passes is_ascii_digit t ≡ true → Passes number_end_at t → IsToken t
number_is_token t d h = go (number_read_at t) (number_judged t d) h
  where
    go : (r : NumberRead) → ReadJudged t number_end_at [] t r → is_read (end_of r) ≡ true → IsToken t
    go (None, Some m, x) j h = number_token t (Digits (dec j.0), x, inl j.1)
    go (None, None, x) j h = number_token t (j.0, x, inr j.1)
    go (Some k, m, x) j h = absurd (cc)
