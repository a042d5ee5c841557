-- The forms of floats after their characters are rewritten, and after their digits are divided into groups.
use Rattle.rl_syntax.proofs.Common.{◌≡◌, ℕ, ◌⊎◌, ◌||◌, Bool, true, false, ◌==◌, cond, List, [], ◌∷◌, ◌++◌, refl, sym, ap, subst, ◌∙◌, inl, inr, append_assoc, append-nil, and_parts, list_all, or_from, or_cases, eqb-true, is_ascii_digit, flat_map, Some, None}
use Rattle.std.specs.Prelude.{Option}
use Rattle.rl_syntax.specs.Texts.{first_passes, is_run_part}
use Rattle.rl_syntax.proofs.Basics.{apart}
use Rattle.rl_lenient.proofs.Names.{flat_map-append}
use Rattle.rl_syntax.specs.Strict.{IsDigits, IsDotAlone, IsPointed, IsScientific, IsStrictExponent}
use Rattle.rl_lexer.specs.Lexemes.{is_base_letter}
use Rattle.rl_style.specs.declared.style.Case.{Case}
use Rattle.rl_style.specs.declared.style.Case.TheVariants.{Lower, Upper}
use Rattle.rl_syntax.specs.Classes.{after_run}
use Rattle.rl_style.specs.Groups.{after_dot, digit_run, fraction_in_groups, float_in_groups, regrouped}
use Rattle.rl_style.proofs.Decimals.{letter_out}
use Rattle.rl_style.proofs.Regrouped.{grouped_digits}
use Rattle.rl_style.proofs.NumberCharacters.{becomes, digits_each, digits_some, digits_stay, row_stays, stays}

-- ---- rewritten sequences of digits

digits_are : (drops plus : Bool) (digits letter : Option Case) (d : List ℕ) → IsDigits d
    → IsDigits (flat_map (becomes drops false plus digits letter) d)
digits_are drops plus digits letter d h = digits_stay (becomes drops false plus digits letter) d
    (row_stays (is_run_part is_ascii_digit) drops plus digits letter d refl refl refl h.1) h

-- ---- a rewritten exponent is an exponent

-- The letter `c` of an exponent is rewritten as one character, which is again `e` or `E`.
pub record Letter (drops plus : Bool) (digits letter : Option Case) (c : ℕ) : Type 0 where
  pub new : ℕ
  pub is : becomes drops false plus digits letter c ≡ new ∷ []
  pub is_letter : (new == 101 || new == 69) ≡ true

pub lower_e : (drops plus : Bool) (digits letter : Option Case) → Letter drops plus digits letter 101
lower_e true true digits None = record { new = 101; is = refl; is_letter = refl }
lower_e true true digits (Some Lower) = record { new = 101; is = refl; is_letter = refl }
lower_e true true digits (Some Upper) = record { new = 69; is = refl; is_letter = refl }
lower_e true false digits None = record { new = 101; is = refl; is_letter = refl }
lower_e true false digits (Some Lower) = record { new = 101; is = refl; is_letter = refl }
lower_e true false digits (Some Upper) = record { new = 69; is = refl; is_letter = refl }
lower_e false true digits None = record { new = 101; is = refl; is_letter = refl }
lower_e false true digits (Some Lower) = record { new = 101; is = refl; is_letter = refl }
lower_e false true digits (Some Upper) = record { new = 69; is = refl; is_letter = refl }
lower_e false false digits None = record { new = 101; is = refl; is_letter = refl }
lower_e false false digits (Some Lower) = record { new = 101; is = refl; is_letter = refl }
lower_e false false digits (Some Upper) = record { new = 69; is = refl; is_letter = refl }

pub upper_e : (drops plus : Bool) (digits letter : Option Case) → Letter drops plus digits letter 69
upper_e true true digits None = record { new = 69; is = refl; is_letter = refl }
upper_e true true digits (Some Lower) = record { new = 101; is = refl; is_letter = refl }
upper_e true true digits (Some Upper) = record { new = 69; is = refl; is_letter = refl }
upper_e true false digits None = record { new = 69; is = refl; is_letter = refl }
upper_e true false digits (Some Lower) = record { new = 101; is = refl; is_letter = refl }
upper_e true false digits (Some Upper) = record { new = 69; is = refl; is_letter = refl }
upper_e false true digits None = record { new = 69; is = refl; is_letter = refl }
upper_e false true digits (Some Lower) = record { new = 101; is = refl; is_letter = refl }
upper_e false true digits (Some Upper) = record { new = 69; is = refl; is_letter = refl }
upper_e false false digits None = record { new = 69; is = refl; is_letter = refl }
upper_e false false digits (Some Lower) = record { new = 101; is = refl; is_letter = refl }
upper_e false false digits (Some Upper) = record { new = 69; is = refl; is_letter = refl }

letter_is : (drops plus : Bool) (digits letter : Option Case) (c : ℕ) → (c == 101 || c == 69) ≡ true
    → Letter drops plus digits letter c
letter_is drops plus digits letter c h =
    elim (or_cases (c == 101) (c == 69) h) [
      | inl a ↦ subst (Letter drops plus digits letter) (sym (eqb-true c 101 a)) (lower_e drops plus digits letter)
      | inr a ↦ subst (Letter drops plus digits letter) (sym (eqb-true c 69 a)) (upper_e drops plus digits letter)
    ]

abbrev IsSign : List ℕ → Type 0
IsSign sign = (sign ≡ []) ⊎ ((sign ≡ 43 ∷ []) ⊎ (sign ≡ 45 ∷ []))

plus_sign : (drops plus : Bool) (digits letter : Option Case)
    → IsSign (flat_map (becomes drops false plus digits letter) (43 ∷ []))
plus_sign true true digits letter = inl refl
plus_sign false true digits letter = inl refl
plus_sign true false digits None = inr (inl refl)
plus_sign true false digits (Some Lower) = inr (inl refl)
plus_sign true false digits (Some Upper) = inr (inl refl)
plus_sign false false digits None = inr (inl refl)
plus_sign false false digits (Some Lower) = inr (inl refl)
plus_sign false false digits (Some Upper) = inr (inl refl)

minus_sign : (drops plus : Bool) (digits letter : Option Case)
    → IsSign (flat_map (becomes drops false plus digits letter) (45 ∷ []))
minus_sign drops plus digits letter = inr (inr (ap (λ z. z ++ [])
    (stays drops plus digits letter 45 refl refl refl refl)))

sign_is : (drops plus : Bool) (digits letter : Option Case) (sign : List ℕ) → IsSign sign
    → IsSign (flat_map (becomes drops false plus digits letter) sign)
sign_is drops plus digits letter sign h =
    let At : List ℕ → Type 0 = λ z. IsSign (flat_map (becomes drops false plus digits letter) z) in
    elim h [
      | inl a ↦ subst At (sym a) (inl refl)
      | inr b ↦ elim b [
        | inl a ↦ subst At (sym a) (plus_sign drops plus digits letter)
        | inr a ↦ subst At (sym a) (minus_sign drops plus digits letter)
      ]
    ]

pub record Exponent (drops plus : Bool) (digits letter : Option Case) (e : List ℕ) : Type 0 where
  pub first : ℕ
  pub rest : List ℕ
  pub is : flat_map (becomes drops false plus digits letter) e ≡ first ∷ rest
  pub is_letter : (first == 101 || first == 69) ≡ true
  pub exponent : IsStrictExponent (flat_map (becomes drops false plus digits letter) e)

pub exponent_is : (drops plus : Bool) (digits letter : Option Case) (e : List ℕ) → IsStrictExponent e
    → Exponent drops plus digits letter e
exponent_is drops plus digits letter e s =
    let f : ℕ → List ℕ = becomes drops false plus digits letter in
    let l = letter_is drops plus digits letter s.letter s.is_letter in
    let sign : List ℕ = flat_map f s.sign in
    let run : List ℕ = flat_map f s.run in
    let stay = row_stays (is_run_part is_ascii_digit) drops plus digits letter s.run refl refl refl s.each in
    let is : flat_map f e ≡ l.new ∷ (sign ++ run) =
    ap (flat_map f) s.text ∙ ap (λ z. z ++ flat_map f (s.sign ++ s.run)) l.is
    ∙ ap (λ z. l.new ∷ z) (flat_map-append f s.sign s.run) in
    record {
      first = l.new;
      rest = sign ++ run;
      is = is;
      is_letter = l.is_letter;
      exponent = record {
        letter = l.new;
        sign = sign;
        run = run;
        is_letter = l.is_letter;
        is_sign = sign_is drops plus digits letter s.sign s.is_sign;
        each = digits_each f s.run stay s.each;
        some = digits_some f s.run stay ∙ s.some;
        text = is;
      };
    }

-- A text that begins with the letter of an exponent doesn't begin with the letter of a base.
letter_follows : (z x : List ℕ) (d : ℕ) (ds : List ℕ) → z ≡ d ∷ ds → (d == 101 || d == 69) ≡ true
    → first_passes is_base_letter (z ++ x) ≡ false
letter_follows z x d ds e h =
    let test : ℕ → Bool = λ c. c == 101 || c == 69 in
    ap (λ y. first_passes is_base_letter (y ++ x)) e
    ∙ or_from (d == 120 || d == 111) (d == 98) (or_from (d == 120) (d == 111) (apart test d 120 h refl)
    (apart test d 111 h refl)) (apart test d 98 h refl)

-- ---- the three forms of floats

abbrev pub FloatForm : List ℕ → List ℕ → Type 0
FloatForm numeral x = IsDotAlone numeral x ⊎ (IsPointed numeral x ⊎ IsScientific numeral x)

-- The form of a float: it ends with its dot, has digits after its dot, or has an exponent.
pub data FloatShape : Type 0 where
  DotShape : FloatShape
  PointShape : FloatShape
  PowerShape : FloatShape

abbrev pub shape_of : (numeral x : List ℕ) → FloatForm numeral x → FloatShape
shape_of numeral x (inl a) = DotShape
shape_of numeral x (inr (inl a)) = PointShape
shape_of numeral x (inr (inr a)) = PowerShape

-- ---- floats with their digits in groups

abbrev pub Groups : ℕ → ℕ → Bool → List ℕ → List ℕ
Groups size least from_first run = regrouped from_first size least run

-- The text `run` consists of digits and underscores, and the text `x` begins with neither. At the start of `run ++ x`, the
-- digits and underscores are exactly `run`, and `x` follows them.
digits_past : (run x : List ℕ) → list_all (is_run_part is_ascii_digit) run ≡ true
    → first_passes (is_run_part is_ascii_digit) x ≡ false
    → (digit_run (run ++ x) ≡ run) × (after_run (is_run_part is_ascii_digit) (run ++ x) ≡ x)
digits_past [] [] h n = (refl, refl)
digits_past [] (c ∷ x) h n = (
  ap (λ b. cond b (c ∷ digit_run x) []) n,
  ap (λ b. cond b (after_run (is_run_part is_ascii_digit) x) (c ∷ x)) n,
)
digits_past (d ∷ run) x h n =
    let p = and_parts (is_run_part is_ascii_digit d) (list_all (is_run_part is_ascii_digit) run) h in
    let more = digits_past run x p.1 n in (
      ap (λ b. cond b (d ∷ digit_run (run ++ x)) []) p.0 ∙ ap (λ z. d ∷ z) more.0,
      ap (λ b. cond b (after_run (is_run_part is_ascii_digit) (run ++ x)) (d ∷ (run ++ x))) p.0 ∙ more.1,
    )

-- If the digits of a float are divided into groups, the result is the whole part in groups, and then the rewritten text after
-- the whole part.
numeral_at : (f : ℕ → List ℕ) (closes : Bool) (size least : ℕ) (numeral d z : List ℕ) → IsDigits d
    → first_passes (is_run_part is_ascii_digit) z ≡ false → numeral ≡ d ++ z
    → float_in_groups closes f (Groups size least) numeral
    ≡ Groups size least false (flat_map f d) ++ fraction_in_groups closes f (Groups size least true) z
numeral_at f closes size least numeral d z h n e =
    let p = digits_past d z h.1 n in
    ap (float_in_groups closes f (Groups size least)) e
    ∙ ap (λ y. Groups size least false (flat_map f y)
    ++ fraction_in_groups closes f (Groups size least true) (after_run (is_run_part is_ascii_digit) (d ++ z))) p.0
    ∙ ap (λ y. Groups size least false (flat_map f d) ++ fraction_in_groups closes f (Groups size least true) y) p.1

-- The text that is added to a float which ends with its dot: a zero, or nothing.
abbrev pub Closing : Bool → List ℕ
Closing closes = cond closes (48 ∷ []) []

pub at_dot : (f : ℕ → List ℕ) (closes : Bool) (size least : ℕ) (numeral d : List ℕ) → IsDigits d
    → numeral ≡ d ++ (46 ∷ [])
    → float_in_groups closes f (Groups size least) numeral
    ≡ Groups size least false (flat_map f d) ++ (46 ∷ Closing closes)
at_dot f closes size least numeral d h e = numeral_at f closes size least numeral d (46 ∷ []) h refl e

-- If digits follow the dot of a float, the style adds no zero.
dot_some : (f : ℕ → List ℕ) (closes : Bool) (g : List ℕ → List ℕ) (z e : List ℕ) → IsDigits z
    → after_dot closes f g (z ++ e)
    ≡ g (flat_map f (digit_run (z ++ e))) ++ flat_map f (after_run (is_run_part is_ascii_digit) (z ++ e))
dot_some f closes g [] e h = absurd (let n : false ≡ true = h.0 in cc)
dot_some f closes g (c ∷ z) e h = refl

dot_digits : (f : ℕ → List ℕ) (closes : Bool) (g : List ℕ → List ℕ) (z e : List ℕ) → IsDigits z
    → first_passes (is_run_part is_ascii_digit) e ≡ false
    → after_dot closes f g (z ++ e) ≡ g (flat_map f z) ++ flat_map f e
dot_digits f closes g z e h n =
    let p = digits_past z e h.1 n in
    dot_some f closes g z e h
    ∙ ap (λ y. g (flat_map f y) ++ flat_map f (after_run (is_run_part is_ascii_digit) (z ++ e))) p.0
    ∙ ap (λ y. g (flat_map f z) ++ flat_map f y) p.1

pub at_point : (f : ℕ → List ℕ) (closes : Bool) (size least : ℕ) (numeral d z : List ℕ) → IsDigits d → IsDigits z
    → numeral ≡ d ++ (46 ∷ z)
    → float_in_groups closes f (Groups size least) numeral
    ≡ Groups size least false (flat_map f d) ++ (46 ∷ Groups size least true (flat_map f z))
at_point f closes size least numeral d z h k e =
    let whole : List ℕ = Groups size least false (flat_map f d) in
    let g : List ℕ → List ℕ = Groups size least true in
    numeral_at f closes size least numeral d (46 ∷ z) h refl e
    ∙ ap (λ y. whole ++ (46 ∷ after_dot closes f g y)) (sym (append-nil z))
    ∙ ap (λ y. whole ++ (46 ∷ y)) (dot_digits f closes g z [] k refl ∙ append-nil (g (flat_map f z)))

-- An exponent begins with neither a digit nor a dot.
exponent_begins : (e : List ℕ) → IsStrictExponent e → first_passes (is_run_part is_ascii_digit) e ≡ false
exponent_begins e s = ap (first_passes (is_run_part is_ascii_digit)) s.text
    ∙ or_from (is_ascii_digit s.letter) (s.letter == 95)
    (letter_out is_ascii_digit s.letter s.is_letter refl refl)
    (letter_out (λ c. c == 95) s.letter s.is_letter refl refl)

power_fraction : (f : ℕ → List ℕ) (closes : Bool) (size least : ℕ) (e : List ℕ) → IsStrictExponent e
    → fraction_in_groups closes f (Groups size least true) e ≡ flat_map f e
power_fraction f closes size least e s =
    let rest : List ℕ = s.sign ++ s.run in
    ap (fraction_in_groups closes f (Groups size least true)) s.text
    ∙ ap (λ b. cond b (s.letter ∷ after_dot closes f (Groups size least true) rest) (flat_map f (s.letter ∷ rest)))
    (letter_out (λ c. c == 46) s.letter s.is_letter refl refl) ∙ ap (flat_map f) (sym s.text)

pub at_power : (f : ℕ → List ℕ) (closes : Bool) (size least : ℕ) (numeral d e : List ℕ) → IsDigits d
    → IsStrictExponent e
    → numeral ≡ d ++ e
    → float_in_groups closes f (Groups size least) numeral ≡ Groups size least false (flat_map f d) ++ flat_map f e
at_power f closes size least numeral d e h s n = numeral_at f closes size least numeral d e h (exponent_begins e s) n
    ∙ ap (λ y. Groups size least false (flat_map f d) ++ y) (power_fraction f closes size least e s)

pub at_point_power : (f : ℕ → List ℕ) (closes : Bool) (size least : ℕ) (numeral d z e : List ℕ) → IsDigits d
    → IsDigits z → IsStrictExponent e → numeral ≡ d ++ (46 ∷ (z ++ e))
    → float_in_groups closes f (Groups size least) numeral
    ≡ Groups size least false (flat_map f d) ++ (46 ∷ (Groups size least true (flat_map f z) ++ flat_map f e))
at_point_power f closes size least numeral d z e h k s n =
    numeral_at f closes size least numeral d (46 ∷ (z ++ e)) h refl n
    ∙ ap (λ y. Groups size least false (flat_map f d) ++ (46 ∷ y))
    (dot_digits f closes (Groups size least true) z e k (exponent_begins e s))

-- The form of a float after a zero is added to a final dot.
abbrev pub closed_shape : FloatShape → Bool → FloatShape
closed_shape DotShape true = PointShape
closed_shape DotShape false = DotShape
closed_shape PointShape closes = PointShape
closed_shape PowerShape closes = PowerShape

-- The text of a float before its suffix: a whole part of digits, and the text after it, which doesn't begin with the letter of
-- a base. The float has the form `shape`.
pub record Numeral (numeral x : List ℕ) (shape : FloatShape) : Type 0 where
  pub whole : List ℕ
  pub new : List ℕ
  pub are_digits : IsDigits whole
  pub new_is : numeral ≡ whole ++ new
  pub follows : (y : List ℕ) → first_passes is_base_letter (new ++ y) ≡ false
  pub form : FloatForm numeral x
  pub same_shape : shape_of numeral x form ≡ shape

-- If a sequence of digits is rewritten, and then divided into groups, the result is still a digit and further digits and
-- underscores.
pub row_is : (drops plus : Bool) (digits letter : Option Case) (from_first : Bool) (size least : ℕ) (d : List ℕ)
    → IsDigits d
    → IsDigits (Groups size least from_first (flat_map (becomes drops false plus digits letter) d))
row_is drops plus digits letter from_first size least d h = grouped_digits from_first size least
    (flat_map (becomes drops false plus digits letter) d) (digits_are drops plus digits letter d h)

pub form_is : (drops plus : Bool) (digits letter : Option Case) (closes : Bool) (size least : ℕ) (numeral x : List ℕ)
    → (form : FloatForm numeral x)
    → Numeral (float_in_groups closes (becomes drops false plus digits letter) (Groups size least) numeral) x
    (closed_shape (shape_of numeral x form) closes)
form_is drops plus digits letter true size least numeral x (inl (d, h, e, n)) =
    let f : ℕ → List ℕ = becomes drops false plus digits letter in
    let is = at_dot f true size least numeral d h e in
    let whole = row_is drops plus digits letter false size least d h in
    record {
      whole = Groups size least false (flat_map f d);
      new = 46 ∷ 48 ∷ [];
      are_digits = whole;
      new_is = is;
      follows = λ y. refl;
      form = inr (inl (
        Groups size least false (flat_map f d),
        48 ∷ [],
        whole,
        (refl, refl),
        is,
        ap (first_passes (λ c. c == 101 || c == 69)) n,
      ));
      same_shape = refl;
    }
form_is drops plus digits letter false size least numeral x (inl (d, h, e, n)) =
    let f : ℕ → List ℕ = becomes drops false plus digits letter in
    let is = at_dot f false size least numeral d h e in
    let whole = row_is drops plus digits letter false size least d h in
    record {
      whole = Groups size least false (flat_map f d);
      new = 46 ∷ [];
      are_digits = whole;
      new_is = is;
      follows = λ y. refl;
      form = inl (Groups size least false (flat_map f d), whole, is, n);
      same_shape = refl;
    }
form_is drops plus digits letter closes size least numeral x (inr (inl (d, z, h, k, e, n))) =
    let f : ℕ → List ℕ = becomes drops false plus digits letter in
    let is = at_point f closes size least numeral d z h k e in
    let whole = row_is drops plus digits letter false size least d h in
    let fraction : List ℕ = Groups size least true (flat_map f z) in
    record {
      whole = Groups size least false (flat_map f d);
      new = 46 ∷ fraction;
      are_digits = whole;
      new_is = is;
      follows = λ y. refl;
      form = inr (inl (
        Groups size least false (flat_map f d),
        fraction,
        whole,
        row_is drops plus digits letter true size least z k,
        is,
        n,
      ));
      same_shape = refl;
    }
form_is drops plus digits letter closes size least numeral x (inr (inr (d, e, h, s, inl n))) =
    let f : ℕ → List ℕ = becomes drops false plus digits letter in
    let p = exponent_is drops plus digits letter e s in
    let whole = row_is drops plus digits letter false size least d h in
    let is = at_power f closes size least numeral d e h s n in
    record {
      whole = Groups size least false (flat_map f d);
      new = flat_map f e;
      are_digits = whole;
      new_is = is;
      follows = λ y. letter_follows (flat_map f e) y p.first p.rest p.is p.is_letter;
      form = inr (inr (Groups size least false (flat_map f d), flat_map f e, whole, p.exponent, inl is));
      same_shape = refl;
    }
form_is drops plus digits letter closes size least numeral x (inr (inr (d, e, h, s, inr (z, k, n)))) =
    let f : ℕ → List ℕ = becomes drops false plus digits letter in
    let p = exponent_is drops plus digits letter e s in
    let whole = row_is drops plus digits letter false size least d h in
    let fraction : List ℕ = Groups size least true (flat_map f z) in
    let is = at_point_power f closes size least numeral d z e h k s (n ∙ append_assoc d (46 ∷ z) e) in
    record {
      whole = Groups size least false (flat_map f d);
      new = 46 ∷ (fraction ++ flat_map f e);
      are_digits = whole;
      new_is = is;
      follows = λ y. refl;
      form = inr (inr (
        Groups size least false (flat_map f d),
        flat_map f e,
        whole,
        p.exponent,
        inr (
          fraction,
          row_is drops plus digits letter true size least z k,
          is
              ∙ sym (append_assoc (Groups size least false (flat_map f d)) (46 ∷ fraction) (flat_map f e)),
        ),
      ));
      same_shape = refl;
    }
