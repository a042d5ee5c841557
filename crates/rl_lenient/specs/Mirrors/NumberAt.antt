-- Executable models of private code that parses numbers, one part after another. Only proofs use them.
use Rattle.std.specs.Prelude.{◌≡◌, IsTrue, ℕ, ◌+◌, ◌*◌, ◌==◌, ◌||◌, ◌&&◌, not, Bool, true, false, List, [], ◌∷◌, Option, Some, None, nat_lt, if◌then◌else◌}
use Rattle.std.specs.Char.{digit_value, is_ascii_digit}
use Rattle.std.specs.List.{list_any}
use Prim.Native.Char.{code}
use Rattle.rl_syntax.specs.Classes.{after_run}
use Rattle.rl_syntax.specs.Texts.{first_passes, is_underscore, xid_ok, is_run_part}
use Rattle.rl_syntax.specs.Spelling.{place_value, without_underscores}
use Rattle.rl_syntax.specs.Numbers.{Sign, NoSign, Minus, capped, is_exponent_letter}

-- The leading characters of a text that pass the test.
unfoldable pub run : (ℕ → Bool) → List ℕ → List ℕ
run test [] = []
run test (c ∷ cs) = if test c then (c ∷ run test cs) else []

abbrev pub has_value : ℕ → ℕ → Bool
has_value radix c = nat_lt (digit_value c) radix

abbrev pub append_digit : ℕ → Option ℕ → ℕ → Option ℕ
append_digit radix None d = None
append_digit radix (Some v) d = capped (v * radix + d)

-- The parse result of the digits and underscores at the start of a text: whether there is a digit, their number within 128
-- bits, and the text after them. Other digits may precede the text: `some` is true if there are any, and `m` is their
-- number.
unfoldable pub run_from : ℕ → Bool → Option ℕ → List ℕ → Bool × Option ℕ × List ℕ
run_from radix some m [] = (some, m, [])
run_from radix some m (c ∷ cs) =
    if c == code "_" then run_from radix some m cs
    else (if nat_lt (digit_value c) radix
    then run_from radix true (append_digit radix m (digit_value c)) cs
    else (some, m, c ∷ cs))

-- The leading digits and underscores of the text, in the base `radix`.
abbrev pub digit_run_at : ℕ → List ℕ → List ℕ
digit_run_at radix t = run (is_run_part (has_value radix)) t

abbrev pub has_digit_at : ℕ → List ℕ → Bool
has_digit_at radix t = list_any (has_value radix) (digit_run_at radix t)

abbrev pub magnitude_at : ℕ → List ℕ → ℕ
magnitude_at radix t = place_value radix (without_underscores (digit_run_at radix t))

abbrev pub after_digits : ℕ → List ℕ → List ℕ
after_digits radix t = after_run (is_run_part (has_value radix)) t

-- Whether a text may be the suffix of a number: it is empty, or an identifier that doesn't begin with `_`.
abbrev pub is_suffix : List ℕ → Bool
is_suffix [] = true
is_suffix (c ∷ cs) = not (is_underscore c) && xid_ok (c ∷ cs)

-- Whether a text after a decimal integer's digits is an exponent, so that the number is a float.
unfoldable pub is_exponent_suffix : List ℕ → Bool
is_exponent_suffix [] = false
is_exponent_suffix (c ∷ cs) =
    is_exponent_letter c && (has_digit_at 10 cs && is_suffix (after_digits 10 cs))

abbrev pub after_minus : List ℕ → List ℕ
after_minus [] = []
after_minus (c ∷ cs) = if c == code "-" then cs else (c ∷ cs)

abbrev pub sign_at : List ℕ → Sign
sign_at [] = NoSign
sign_at (c ∷ cs) = if c == code "-" then Minus else NoSign

-- The base that the letter of a prefix means: 2 for `b`, 8 for `o`, 16 for `x`. For any other letter it is 10.
abbrev pub radix_of : ℕ → ℕ
radix_of c =
    if c == code "b" then 2 else (if c == code "o" then 8 else (if c == code "x" then 16 else 10))

-- The base of a number, and the text after its prefix.
unfoldable pub radix_at : List ℕ → ℕ × List ℕ
radix_at [] = (10, [])
radix_at (z ∷ []) = (10, z ∷ [])
radix_at (z ∷ c ∷ cs) =
    if z == code "0" && not (radix_of c == 10) then (radix_of c, cs) else (10, z ∷ c ∷ cs)

-- Whether the text after the prefix of a base may begin a number: in base ten, the text begins with a digit. `may_end` is the
-- condition on the number's suffix.
abbrev pub may_begin_number : ℕ → List ℕ → Bool
may_begin_number radix t = not (radix == 10) || first_passes is_ascii_digit t

abbrev pub may_end : ℕ → List ℕ → Bool
may_end radix x = is_suffix x && (not (radix == 10) || not (is_exponent_suffix x))

-- The magnitude and the suffix of an integer, from its text after sign and prefix. `None` if the text isn't an integer.
unfoldable pub based_at : ℕ → List ℕ → Option (ℕ × List ℕ)
based_at radix t =
    if may_begin_number radix t && (has_digit_at radix t && may_end radix (after_digits radix t))
    then Some (magnitude_at radix t, after_digits radix t) else None

abbrev pub with_sign : Sign → Option (ℕ × List ℕ) → Option (Sign × ℕ × List ℕ)
with_sign sign None = None
with_sign sign (Some p) = Some (sign, p.0, p.1)

-- The sign, the magnitude and the suffix of a text that is an integer literal. `None` if the text isn't an integer literal.
unfoldable pub int_at : List ℕ → Option (Sign × ℕ × List ℕ)
int_at t =
    with_sign (sign_at t) (based_at (radix_at (after_minus t)).0 (radix_at (after_minus t)).1)

abbrev pub capped_int : Option (Sign × ℕ × List ℕ) → Option (Option ℕ × List ℕ)
capped_int None = None
capped_int (Some p) = Some (capped p.1, p.2)

-- The parsed start of a number, from its text after the sign, which begins with a digit. It consists of the base;
-- whether digits follow the prefix; their number within 128 bits; and the text after them.
pub record IsHead (unsigned : List ℕ) (radix : ℕ) (some : Bool) (magnitude : Option ℕ)
    (rest : List ℕ) : Type 0 where
  pub first : IsTrue (first_passes is_ascii_digit unsigned)
  pub base : radix ≡ (radix_at unsigned).0
  pub has_digit : some ≡ has_digit_at (radix_at unsigned).0 (radix_at unsigned).1
  pub within : magnitude ≡ capped (magnitude_at (radix_at unsigned).0 (radix_at unsigned).1)
  pub rest_is : rest ≡ after_digits (radix_at unsigned).0 (radix_at unsigned).1

-- The magnitude and the suffix of an integer with the given digits, or `None` if the text after them isn't an integer's suffix.
abbrev pub ended_at : ℕ → Bool → Option ℕ → List ℕ → Option (Option ℕ × List ℕ)
ended_at radix some m x = if some && may_end radix x then Some (m, x) else None

-- The text after the fraction at its start, which is a dot and digits. The text itself if it doesn't begin with a dot.
abbrev pub after_fraction : List ℕ → List ℕ
after_fraction [] = []
after_fraction (c ∷ cs) = if c == code "." then after_digits 10 cs else (c ∷ cs)

abbrev pub after_power_sign : List ℕ → List ℕ
after_power_sign [] = []
after_power_sign (c ∷ cs) = if c == code "+" || c == code "-" then cs else (c ∷ cs)

-- The text from the digits of an exponent on. The given text follows the exponent's letter, `e` or `E`, and its leading
-- underscores and sign are dropped.
unfoldable pub power_at : List ℕ → List ℕ
power_at t = after_power_sign (after_run is_underscore t)

-- The text after the exponent at its start, or the text itself if it doesn't begin with an exponent.
unfoldable pub after_exponent : List ℕ → List ℕ
after_exponent [] = []
after_exponent (c ∷ cs) =
    if is_exponent_letter c && has_digit_at 10 (power_at cs) then after_digits 10 (power_at cs)
    else (c ∷ cs)

-- The suffix of a float, from the text after the digits before its dot. `None` if that text doesn't end a float.
abbrev pub float_tail_at : List ℕ → Option (List ℕ)
float_tail_at t =
    if is_suffix (after_exponent (after_fraction t)) then Some (after_exponent (after_fraction t))
    else None

-- The suffix of a text that is a float literal. `None` if the text isn't a float literal.
unfoldable pub float_at : List ℕ → Option (List ℕ)
float_at t =
    if first_passes is_ascii_digit (after_minus t)
    && is_suffix (after_exponent (after_fraction (after_digits 10 (after_minus t))))
    then Some (after_exponent (after_fraction (after_digits 10 (after_minus t)))) else None
