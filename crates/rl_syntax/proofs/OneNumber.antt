-- A text has at most one parse result as a number.
use Rattle.rl_syntax.proofs.Common.{◌≡◌, ℕ, ◌||◌, Bool, true, false, not, cond, eqb, List, [], ◌∷◌, ◌++◌, refl, sym, ap, subst, ◌∙◌, ◌⊎◌, inl, inr, append_assoc, is_ascii_digit, list_all, list_any, list_all-append, eqb-true, both_ways, and_parts, and_from, or_parts, or_cases, or_left, or_right, cases_Bool, not-true}
use Rattle.rl_syntax.specs.Texts.{first_passes, begins, is_underscore, is_run_part}
use Rattle.rl_syntax.specs.Spelling.{place_value, without_underscores}
use Rattle.rl_syntax.specs.Numbers.{Base, Binary, Octal, Decimal, Hexadecimal, radix, prefix, is_digit, Sign, NoSign, Minus, sign_text, IsAfterPrefix, IsSuffix, is_exponent_letter, AllowsSuffix, IntReads, Fraction, NoFraction, Dot, fraction_text, IsFraction, Exponent, NoExponent, Power, exponent_text, is_power_sign, BeginsExponent, IsExponent, FloatReads, float_digits}
use Rattle.rl_syntax.specs.Reading.{Contents, Digits, ReadsInt, ReadsFloat}
use Rattle.rl_syntax.specs.Strict.{dec}
use Rattle.rl_syntax.proofs.Dec.{dec_is_decimal}
use Rattle.rl_syntax.proofs.Basics.{apart, all_weaker, digit_is_ten}
use Rattle.rl_syntax.proofs.StrictNumbers.{no_part, suffix_no_part, digit_front, same_run, IsForeign, foreign_dot, foreign_plus, foreign_minus, suffix_without, foreign_inside, letter_no_part, passes_on}

-- ---- signs

-- There is at most one way to split a text into a sign, perhaps none, and a text that begins with a digit.
pub same_sign : (s z : Sign) (a b : List ℕ) → first_passes is_ascii_digit a ≡ true → first_passes is_ascii_digit b
    ≡ true → sign_text s ++ a ≡ sign_text z ++ b → (s ≡ z) × (a ≡ b)
same_sign NoSign NoSign a b ha hb e = (refl, e)
same_sign Minus Minus a b ha hb e = (refl, cc)
same_sign NoSign Minus a b ha hb e = let h : true ≡ false = sym ha ∙ ap (first_passes is_ascii_digit) e in absurd (cc)
same_sign Minus NoSign a b ha hb e = let h : true ≡ false = sym hb
    ∙ ap (first_passes is_ascii_digit) (sym e) in absurd (cc)

-- ---- integers

base_at : List ℕ → Base
base_at t = cond (begins (prefix Binary) t) Binary (cond (begins (prefix Octal) t) Octal
    (cond (begins (prefix Hexadecimal) t) Hexadecimal Decimal))

base_is : (b : Base) (r : List ℕ) → IsAfterPrefix b r → base_at (prefix b ++ r) ≡ b
unfolding base_at
base_is Binary r f = refl
base_is Octal r f = refl
base_is Hexadecimal r f = refl
base_is Decimal r f =
    let p = or_parts _ (begins (prefix Hexadecimal) r) f.1 in
    let q = or_parts (begins (prefix Binary) r) (begins (prefix Octal) r) p.0 in
    let a = q.0 in
    let d = q.1 in
    let e = p.1 in
    rw (a, d, e) refl

at_base : (b : Base) (ds es x y : List ℕ) → list_all (is_run_part (is_digit b)) ds ≡ true
    → list_all (is_run_part (is_digit b)) es ≡ true → IsSuffix x → AllowsSuffix b x → IsSuffix y → AllowsSuffix b y
    → prefix b ++ (ds ++ x) ≡ prefix b ++ (es ++ y) → (ds ≡ es) × (x ≡ y)
at_base b ds es x y hd he sx ox sy oy e =
    same_run (is_run_part (is_digit b)) ds es x y hd he (no_part b x sx ox) (no_part b y sy oy) (following b e)
  where
    following : (b : Base) → prefix b ++ (ds ++ x) ≡ prefix b ++ (es ++ y) → ds ++ x ≡ es ++ y
    following Binary e = cc
    following Octal e = cc
    following Decimal e = e
    following Hexadecimal e = cc

pub int_once : (t x y : List ℕ) (s z : Sign) (m n : ℕ) → IntReads t s m x → IntReads t z n y → (s ≡ z) × (m ≡ n)
    × (x ≡ y)
int_once t x y s z m n a b =
    let ta = prefix a.base ++ (a.digits ++ x) in
    let tb = prefix b.base ++ (b.digits ++ y) in
    let signs = same_sign s z ta tb (digit_front a.base a.digits x a.front) (digit_front b.base b.digits y b.front)
    (sym a.text_is ∙ b.text_is) in
    let bases : b.base ≡ a.base = sym (base_is b.base (b.digits ++ y) b.front) ∙ ap base_at (sym signs.1)
    ∙ base_is a.base (a.digits ++ x) a.front in
    let Each : Base → Type 0 = λ k. list_all (is_run_part (is_digit k)) b.digits ≡ true in
    let Of : Base → Type 0 = λ k. AllowsSuffix k y in
    let text : ta ≡ prefix a.base ++ (b.digits ++ y) = signs.1 ∙ ap (λ k. prefix k ++ (b.digits ++ y)) bases in
    let p = at_base a.base a.digits b.digits x y a.each (subst Each bases b.each) a.is_suffix a.is_suffix_of b.is_suffix
    (subst Of bases b.is_suffix_of) text in (
      signs.0,
      a.magnitude_is ∙ ap (λ d. place_value (radix a.base) (without_underscores d)) p.0
          ∙ ap (λ k. place_value (radix k) (without_underscores b.digits)) (sym bases) ∙ sym b.magnitude_is,
      p.1,
    )

-- ---- floats

-- A sequence of digits and underscores, split into its leading underscores, its first digit, and the digits and underscores
-- after this digit.
pub record DigitIn (run : List ℕ) : Type 0 where
  pub underscores : List ℕ
  pub digit : ℕ
  pub rest : List ℕ
  pub all_underscores : list_all is_underscore underscores ≡ true
  pub is_digit : is_ascii_digit digit ≡ true
  pub row_is : run ≡ underscores ++ (digit ∷ rest)

digit_in : (run : List ℕ) → list_all (is_run_part (is_digit Decimal)) run ≡ true → list_any is_ascii_digit run ≡ true
    → DigitIn run
digit_in [] each some = absurd (cc)
digit_in (c ∷ run) each some =
    let p = and_parts (is_run_part (is_digit Decimal) c) (list_all (is_run_part (is_digit Decimal)) run) each in
    elim (cases_Bool (is_ascii_digit c)) [
      | inl d ↦ record { underscores = []; digit = c; rest = run; all_underscores = refl; is_digit = d; row_is = refl }
      | inr d ↦
          let under : is_underscore c ≡ true = elim (or_cases (is_digit Decimal c) (is_underscore c) p.0)
          [ inl h ↦ absurd (both_ways (is_ascii_digit c) d (digit_is_ten c ∙ h)) | inr h ↦ h ] in
          let r = digit_in run p.1 (ap (λ b. b || list_any is_ascii_digit run) (sym d) ∙ some) in
          record { underscores = c ∷ r.underscores; digit = r.digit; rest = r.rest; all_underscores = and_from (is_underscore c) _ under r.all_underscores; is_digit = r.is_digit; row_is = ap (λ z. c ∷ z) r.row_is }
    ]

underscores_are_parts : (us : List ℕ) → list_all is_underscore us ≡ true → list_all (is_run_part (is_digit Decimal)) us
    ≡ true
underscores_are_parts us h = all_weaker is_underscore (is_run_part (is_digit Decimal))
    (λ c p. or_right (is_digit Decimal c) (is_underscore c) p) us h

all_join : (test : ℕ → Bool) (a b : List ℕ) → list_all test a ≡ true → list_all test b ≡ true → list_all test (a ++ b)
    ≡ true
all_join test a b ha hb = list_all-append test a b ∙ and_from _ _ ha hb

sign_cases : (s : List ℕ) → is_power_sign s ≡ true → (s ≡ [])
    ⊎ ((k : ℕ) × IsForeign k × (eqb k k ≡ true) × (s ≡ k ∷ []))
sign_cases [] h = inl refl
sign_cases (c ∷ []) h =
    elim (or_cases (eqb c 43) (eqb c 45) h) [
      | inl a ↦ inr (43, foreign_plus, refl, ap (λ z. z ∷ []) (eqb-true c 43 a))
      | inr a ↦ inr (45, foreign_minus, refl, ap (λ z. z ∷ []) (eqb-true c 45 a))
    ]
sign_cases (c ∷ d ∷ s) h = absurd (cc)

-- There is only one way to split the text after an exponent's letter into the digits of the exponent and a suffix.
same_power : (us s run vs z sow x y : List ℕ) → list_all is_underscore us ≡ true → is_power_sign s ≡ true
    → list_all (is_run_part (is_digit Decimal)) run ≡ true → list_all is_underscore vs ≡ true → is_power_sign z ≡ true
    → list_all (is_run_part (is_digit Decimal)) sow ≡ true → IsSuffix x → IsSuffix y → (us ++ (s ++ run)) ++ x
    ≡ (vs ++ (z ++ sow)) ++ y → (us ++ (s ++ run) ≡ vs ++ (z ++ sow)) × (x ≡ y)
same_power us s run vs z sow x y hu hs hr hv hz hw sx sy e =
    let part = is_run_part (is_digit Decimal) in
    let pu = underscores_are_parts us hu in
    let pv = underscores_are_parts vs hv in
    let nx = suffix_no_part x sx in
    let ny = suffix_no_part y sy in
    elim (sign_cases s hs) [
      | inl a ↦ elim (sign_cases z hz) [
        | inl b ↦
            let f : (us ++ run) ++ x ≡ (vs ++ sow) ++ y = ap (λ q. (us ++ (q ++ run)) ++ x) (sym a) ∙ e
            ∙ ap (λ q. (vs ++ (q ++ sow)) ++ y) b in
            let p = same_run part (us ++ run) (vs ++ sow) x y (all_join part us run pu hr) (all_join part vs sow pv hw)
            nx ny f in
            (ap (λ q. us ++ (q ++ run)) a ∙ p.0 ∙ ap (λ q. vs ++ (q ++ sow)) (sym b), p.1)
        | inr b ↦
            let f : (us ++ run) ++ x ≡ vs ++ (b.0 ∷ (sow ++ y)) = ap (λ q. (us ++ (q ++ run)) ++ x) (sym a) ∙ e
            ∙ ap (λ q. (vs ++ (q ++ sow)) ++ y) b.3 ∙ append_assoc vs (b.0 ∷ sow) y in
            let p = same_run part (us ++ run) vs x (b.0 ∷ (sow ++ y)) (all_join part us run pu hr) pv nx
            (b.1.no_digit Decimal) f in
            absurd (foreign_inside b.0 x [] (sow ++ y) b.2 p.1 (suffix_without b.0 x b.1 sx))
      ]
      | inr a ↦ elim (sign_cases z hz) [
        | inl b ↦
            let f : us ++ (a.0 ∷ (run ++ x)) ≡ (vs ++ sow) ++ y = sym
            (ap (λ q. (us ++ (q ++ run)) ++ x) a.3 ∙ append_assoc us (a.0 ∷ run) x) ∙ e
            ∙ ap (λ q. (vs ++ (q ++ sow)) ++ y) b in
            let p = same_run part us (vs ++ sow) (a.0 ∷ (run ++ x)) y pu (all_join part vs sow pv hw)
            (a.1.no_digit Decimal) ny f in
            absurd (foreign_inside a.0 y [] (run ++ x) a.2 (sym p.1) (suffix_without a.0 y a.1 sy))
        | inr b ↦
            let f : us ++ (a.0 ∷ (run ++ x)) ≡ vs ++ (b.0 ∷ (sow ++ y)) = sym
            (ap (λ q. (us ++ (q ++ run)) ++ x) a.3 ∙ append_assoc us (a.0 ∷ run) x) ∙ e
            ∙ ap (λ q. (vs ++ (q ++ sow)) ++ y) b.3 ∙ append_assoc vs (b.0 ∷ sow) y in
            let p = same_run part us vs (a.0 ∷ (run ++ x)) (b.0 ∷ (sow ++ y)) pu pv (a.1.no_digit Decimal)
            (b.1.no_digit Decimal) f in
            let g : a.0 ∷ (run ++ x) ≡ b.0 ∷ (sow ++ y) = p.1 in
            let head : a.0 ≡ b.0 = cc in
            let tail : run ++ x ≡ sow ++ y = cc in
            let q = same_run part run sow x y hr hw nx ny tail in (
              ap (λ w. us ++ (w ++ run)) a.3 ∙ ap (λ w. w ++ (a.0 ∷ run)) p.0 ∙ ap (λ w. vs ++ (w ∷ run)) head
                  ∙ ap (λ w. vs ++ (b.0 ∷ w)) q.0 ∙ ap (λ w. vs ++ (w ++ sow)) (sym b.3),
              q.1,
            )
      ]
    ]

-- A suffix that doesn't begin like an exponent can't be split into an exponent and a text after the exponent.
no_power : (letter : ℕ) (us s run x y : List ℕ) → IsExponent (Power letter us s run) x → IsSuffix y
    → (BeginsExponent y → ⊥) → y ≡ (letter ∷ (us ++ (s ++ run))) ++ x → ⊥
no_power letter us s run x y p sy none e =
    elim (sign_cases s p.2) [
      | inl a ↦
          let d = digit_in run p.3 p.4 in
          none (record {
            letter = letter;
            underscores = us ++ d.underscores;
            digit = d.digit;
            rest = d.rest ++ x;
            is_letter = p.0;
            all_underscores = all_join is_underscore us d.underscores p.1 d.all_underscores;
            is_digit = d.is_digit;
            text_is = e ∙ ap (λ q. letter ∷ ((us ++ (q ++ run)) ++ x)) a ∙ ap (λ q. letter ∷ ((us ++ q) ++ x)) d.row_is
                ∙ ap (λ q. letter ∷ (q ++ x)) (sym (append_assoc us d.underscores (d.digit ∷ d.rest)))
                ∙ ap (λ q. letter ∷ q) (append_assoc (us ++ d.underscores) (d.digit ∷ d.rest) x);
          })
      | inr a ↦
          foreign_inside a.0 y (letter ∷ us) (run ++ x) a.2
          (e ∙ ap (λ q. letter ∷ ((us ++ (q ++ run)) ++ x)) a.3 ∙ ap (λ q. letter ∷ q) (append_assoc us (a.0 ∷ run) x))
          (suffix_without a.0 y a.1 sy)
    ]

same_exponent : (a b : Exponent) (x y : List ℕ) → IsExponent a x → IsExponent b y → IsSuffix x → IsSuffix y
    → exponent_text a ++ x ≡ exponent_text b ++ y → (exponent_text a ≡ exponent_text b) × (x ≡ y)
same_exponent NoExponent NoExponent x y pa pb sx sy e = (refl, e)
same_exponent NoExponent (Power l us s run) x y pa pb sx sy e = absurd (no_power l us s run y x pb sx pa e)
same_exponent (Power l us s run) NoExponent x y pa pb sx sy e = absurd (no_power l us s run x y pa sy pb (sym e))
same_exponent (Power l us s run) (Power m vs z sow) x y pa pb sx sy e =
    let head : l ≡ m = cc in
    let tail : (us ++ (s ++ run)) ++ x ≡ (vs ++ (z ++ sow)) ++ y = cc in
    let p = same_power us s run vs z sow x y pa.1 pa.2 pa.3 pb.1 pb.2 pb.3 sx sy tail in
    (ap (λ w. w ∷ (us ++ (s ++ run))) head ∙ ap (λ w. m ∷ w) p.0, p.1)

exponent_no_part : (a : Exponent) (x : List ℕ) → IsExponent a x → IsSuffix x
    → first_passes (is_run_part (is_digit Decimal)) (exponent_text a ++ x) ≡ false
exponent_no_part NoExponent x p s = suffix_no_part x s
exponent_no_part (Power l us s run) x p sx = letter_no_part l p.0

abbrev is_dot : ℕ → Bool
is_dot c = eqb c 46

letter_no_dot : (c : ℕ) → is_exponent_letter c ≡ true → is_dot c ≡ false
letter_no_dot c h = apart is_exponent_letter c 46 h refl

suffix_no_dot : (x : List ℕ) → IsSuffix x → first_passes is_dot x ≡ false
suffix_no_dot [] s = refl
suffix_no_dot (c ∷ x) s =
    let p = and_parts (not (is_dot c)) (list_all (λ c. not (eqb c 46)) x) (suffix_without 46 (c ∷ x) foreign_dot s) in
    not-true (is_dot c) p.0

exponent_no_dot : (a : Exponent) (x : List ℕ) → IsExponent a x → IsSuffix x → first_passes is_dot (exponent_text a ++ x)
    ≡ false
exponent_no_dot NoExponent x p s = suffix_no_dot x s
exponent_no_dot (Power l us s run) x p sx = letter_no_dot l p.0

same_fraction : (f g : Fraction) (r s : List ℕ) → IsFraction f → IsFraction g
    → first_passes (is_run_part (is_digit Decimal)) r ≡ false → first_passes (is_run_part (is_digit Decimal)) s ≡ false
    → first_passes is_dot r ≡ false → first_passes is_dot s ≡ false → fraction_text f ++ r ≡ fraction_text g ++ s
    → (fraction_text f ≡ fraction_text g) × (r ≡ s)
same_fraction NoFraction NoFraction r s pf pg nr ns dr ds e = (refl, e)
same_fraction (Dot run) (Dot sow) r s pf pg nr ns dr ds e =
    let tail : run ++ r ≡ sow ++ s = cc in
    let p = same_run (is_run_part (is_digit Decimal)) run sow r s pf pg nr ns tail in
    (ap (λ w. 46 ∷ w) p.0, p.1)
same_fraction NoFraction (Dot sow) r s pf pg nr ns dr ds e = let h : false ≡ true = sym dr
    ∙ ap (first_passes is_dot) e in absurd (cc)
same_fraction (Dot run) NoFraction r s pf pg nr ns dr ds e = let h : false ≡ true = sym ds
    ∙ ap (first_passes is_dot) (sym e) in absurd (cc)

fraction_no_part : (f : Fraction) (r : List ℕ) → first_passes (is_run_part (is_digit Decimal)) r ≡ false
    → first_passes (is_run_part (is_digit Decimal)) (fraction_text f ++ r) ≡ false
fraction_no_part NoFraction r h = h
fraction_no_part (Dot run) r h = refl

float_text : (s w f e x t numeral : List ℕ) → numeral ≡ s ++ (w ++ (f ++ e)) → t ≡ numeral ++ x → t ≡ s
    ++ (w ++ (f ++ (e ++ x)))
float_text s w f e x t numeral n h =
    h ∙ ap (λ z. z ++ x) n ∙ append_assoc s (w ++ (f ++ e)) x ∙ ap (λ z. s ++ z) (append_assoc w (f ++ e) x)
    ∙ ap (λ z. s ++ (w ++ z)) (append_assoc f e x)

pub float_once : (t n m x y : List ℕ) → FloatReads t n x → FloatReads t m y → (n ≡ m) × (x ≡ y)
float_once t n m x y a b =
    let ea = exponent_text a.exponent in
    let eb = exponent_text b.exponent in
    let fa = fraction_text a.fraction in
    let fb = fraction_text b.fraction in
    let ta = float_text (sign_text a.sign) a.whole fa ea x t n a.numeral_is a.text_is in
    let tb = float_text (sign_text b.sign) b.whole fb eb y t m b.numeral_is b.text_is in
    let pa = exponent_no_part a.exponent x a.is_exponent a.is_suffix in
    let pb = exponent_no_part b.exponent y b.is_exponent b.is_suffix in
    let s = same_sign a.sign b.sign (a.whole ++ (fa ++ (ea ++ x))) (b.whole ++ (fb ++ (eb ++ y)))
    (passes_on is_ascii_digit a.whole _ a.first) (passes_on is_ascii_digit b.whole _ b.first) (sym ta ∙ tb) in
    let w = same_run (is_run_part (is_digit Decimal)) a.whole b.whole (fa ++ (ea ++ x)) (fb ++ (eb ++ y)) a.each b.each
    (fraction_no_part a.fraction (ea ++ x) pa) (fraction_no_part b.fraction (eb ++ y) pb) s.1 in
    let f = same_fraction a.fraction b.fraction (ea ++ x) (eb ++ y) a.is_fraction b.is_fraction pa pb
    (exponent_no_dot a.exponent x a.is_exponent a.is_suffix)
    (exponent_no_dot b.exponent y b.is_exponent b.is_suffix) w.1 in
    let e = same_exponent a.exponent b.exponent x y a.is_exponent b.is_exponent a.is_suffix b.is_suffix f.1 in (
      a.numeral_is ∙ ap (λ z. sign_text z ++ (a.whole ++ (fa ++ ea))) s.0
          ∙ ap (λ z. sign_text b.sign ++ (z ++ (fa ++ ea))) w.0 ∙ ap (λ z. sign_text b.sign ++ (b.whole ++ (z ++ ea)))
          f.0
          ∙ ap (λ z. sign_text b.sign ++ (b.whole ++ (fb ++ z))) e.0 ∙ sym b.numeral_is,
      e.1,
    )

-- The text is an integer literal with the given value and suffix. Its magnitude may be above 128 bits.
pub record AnyInt (t : List ℕ) (v : Contents) (x : List ℕ) : Type 0 where
  pub sign : Sign
  pub magnitude : ℕ
  pub reads : IntReads t sign magnitude x
  pub contents_is : v ≡ Digits (sign_text sign ++ dec magnitude)

pub any_int : (t x : List ℕ) (v : Contents) → ReadsInt t v x → AnyInt t v x
any_int t x v r = record { sign = r.sign; magnitude = r.magnitude; reads = r.reads; contents_is = r.contents_is ∙ ap (λ z. Digits (sign_text r.sign ++ z)) (sym (dec_is_decimal r.magnitude r.within)) }

pub any_int_once : (t x y : List ℕ) (v w : Contents) → AnyInt t v x → AnyInt t w y → (v ≡ w) × (x ≡ y)
any_int_once t x y v w a b =
    let p = int_once t x y a.sign b.sign a.magnitude b.magnitude a.reads b.reads in (
      a.contents_is ∙ ap (λ z. Digits (sign_text z ++ dec a.magnitude)) p.0
          ∙ ap (λ z. Digits (sign_text b.sign ++ dec z)) p.1 ∙ sym b.contents_is,
      p.2,
    )

pub reads_float_once : (t x y : List ℕ) (v w : Contents) → ReadsFloat t v x → ReadsFloat t w y → (v ≡ w) × (x ≡ y)
reads_float_once t x y v w a b =
    let p = float_once t a.numeral b.numeral x y a.reads b.reads in
    (a.contents_is ∙ ap (λ z. Digits (float_digits z)) p.0 ∙ sym b.contents_is, p.1)

-- Whether a text begins with a minus or a digit, as each number does.
abbrev pub begins_number : List ℕ → Bool
begins_number t = first_passes (λ c. is_ascii_digit c || eqb c 45) t

number_front : (s : Sign) (a : List ℕ) → first_passes is_ascii_digit a ≡ true → begins_number (sign_text s ++ a) ≡ true
number_front NoSign [] h = absurd (cc)
number_front NoSign (c ∷ a) h = or_left (is_ascii_digit c) (eqb c 45) h
number_front Minus a h = refl

pub int_front : (t x : List ℕ) (s : Sign) (m : ℕ) → IntReads t s m x → begins_number t ≡ true
int_front t x s m a = ap begins_number a.text_is ∙ number_front s _ (digit_front a.base a.digits x a.front)

pub float_front : (t n x : List ℕ) → FloatReads t n x → begins_number t ≡ true
float_front t n x a = ap begins_number (float_text (sign_text a.sign) a.whole (fraction_text a.fraction)
    (exponent_text a.exponent) x t n a.numeral_is a.text_is) ∙ number_front a.sign _
    (passes_on is_ascii_digit a.whole _ a.first)
