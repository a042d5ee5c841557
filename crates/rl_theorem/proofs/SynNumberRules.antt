-- Integers and floats of `syn`'s grammar, by both definitions.
use Rattle.rl_syntax.proofs.Common.{◌≡◌, ◌⊎◌, ℕ, Bool, true, false, eqb, List, [], ◌∷◌, ◌++◌, refl, sym, ap, ap₂, subst, ◌∙◌, inl, inr, append_assoc, append-nil, list_all, list_any, replicate, length, zero, suc, eqb-true, both_ways, and_parts, or_cases, nat_le, is_ascii_digit, codes}
use Rattle.std.specs.Prelude.{◌↔◌}
use Rattle.std.proofs.lemmas.Bool.{leb-true, le-leb, false_from_ne_true, false≢true}
use Rattle.rl_syntax.specs.declared.kind.Kind.TheVariants.{Int, Float}
use Rattle.rl_syntax.specs.Texts.{first_passes, is_underscore, xid_ok, is_among, is_run_part}
use Rattle.rl_syntax.specs.Spelling.{place_value, without_underscores}
use Rattle.rl_syntax.specs.Numbers.{Base, Binary, Octal, Decimal, Hexadecimal, radix, prefix, is_digit, Sign, NoSign, Minus, sign_text, IsAfterPrefix, IsSuffix, IsExponentSuffix, AllowsSuffix, IntReads, limit, Fraction, NoFraction, Dot, fraction_text, IsFraction, Exponent, NoExponent, Power, exponent_text, is_power_sign, BeginsExponent, IsExponent, FloatReads, float_digits}
use Rattle.rl_syntax.specs.Reading.{Contents, Digits, ReadsInt, HasNoInteger, ReadsFloat}
use Rattle.rl_syntax.specs.Strict.{dec}
use Rattle.rl_syntax.proofs.Basics.{any_same, digit_is_ten}
use Rattle.rl_syntax.proofs.Dec.{dec_is_decimal}
use Rattle.rl_theorem.specs.Notation.{Rule, Text, Many, Unless, Means, ◌⋅◌, ◌∣◌, maybe, any_of, end}
use Rattle.rl_theorem.specs.RustRules.{identifier_or_keyword, digit, digits, some_digits, dec_literal, no_prefix, IsLiteralBy}
use Rattle.rl_theorem.specs.SynRules.{number_suffix, exponent_suffix, tested_number, parse_lit_int, parse_lit_float, syn_literal}
use Rattle.rl_theorem.proofs.RuleParts.{text_then, then_text, NoneAt, unless_then, then_unless, unless_before, before_unless, none_passes, passes_none, one, kept, part, digit_part, parts_to, parts_from}
use Rattle.rl_theorem.proofs.SuffixRule.{identifier_to, identifier_from, end_here, at_end, alone}
use Rattle.rl_theorem.proofs.EscapeRules.{underscores_to, underscores_from}
use Rattle.rl_theorem.proofs.SynQuotedRules.{Framed, around}
use Rattle.rl_theorem.proofs.NumberRules.{with_prefix, of_base, some_to, some_from, some_digit, decimal_parts, dec_to, dec_from, prefixes, no_prefix_to, no_prefix_from, is_e, among_e, underscores, digits_joined, digits_written, whole_to, whole_from, letter, letter_to, letter_from, sign, IsSign, sign_to, sign_from, dot, dot_from}

-- ---- suffixes

abbrev name : Rule
name = maybe identifier_or_keyword

abbrev IsName : List ℕ → Type 0
IsName x = (x ≡ []) ⊎ (xid_ok x ≡ true)

name_to : (x after : List ℕ) → IsName x → (v : List ℕ) × Means name x after v
name_to x after (inl e) = ([], inl (e, refl))
name_to x after (inr is) = (x, inr (identifier_to x after is))

name_from : (x after v : List ℕ) → Means name x after v → IsName x
name_from x after v (inl (e, v_is)) = inl e
name_from x after v (inr m) = inr (identifier_from x after v m)

pub suffix_to : (x : List ℕ) → IsSuffix x → (v : List ℕ) × Means number_suffix x [] v
suffix_to x (is_name, u) =
    let (v, m) = name_to x [] is_name in (
      v,
      unless_before name (any_of (codes "_")) x [] v
          (none_passes (is_among (codes "_")) (x ++ []) (ap (first_passes (is_among (codes "_"))) (append-nil x) ∙ sym (underscores x) ∙ u)) m,
    )

pub suffix_from : (x v : List ℕ) → Means number_suffix x [] v → IsSuffix x
suffix_from x v m =
    let (none, is_name) = before_unless name (any_of (codes "_")) x [] v m in (
      name_from x [] v is_name,
      underscores x ∙ ap (first_passes (is_among (codes "_"))) (sym (append-nil x)) ∙ passes_none (is_among (codes "_")) (x ++ []) none,
    )

-- ---- suffixes that are exponents

no_part_to : (t : List ℕ) → first_passes (is_run_part (of_base 10)) t ≡ false → NoneAt (part (of_base 10)) t
no_part_to t h u w v e m =
    let (c, is_part, u_is, v_is) = (digit_part (of_base 10) refl).from u w v m in
    both_ways (is_run_part (of_base 10) c) (ap (first_passes (is_run_part (of_base 10))) (sym (e ∙ ap (λ k. k ++ w) u_is)) ∙ h) is_part

no_part_from : (t : List ℕ) → NoneAt (part (of_base 10)) t → first_passes (is_run_part (of_base 10)) t ≡ false
no_part_from [] none = refl
no_part_from (c ∷ cs) none =
    false_from_ne_true (is_run_part (of_base 10) c) (λ h. none (one c) cs (kept c) refl ((digit_part (of_base 10) refl).to c cs h))

exponent_suffix_to : (x : List ℕ) → IsExponentSuffix x → (v : List ℕ) × Means exponent_suffix x [] v
exponent_suffix_to x s =
    let (v, m) = name_to s.rest [] s.is_rest in
    let any = any_same (of_base 10) is_ascii_digit (λ c. sym (digit_is_ten c)) s.run ∙ s.some in
    let last : Means (name ⋅ end) s.rest [] v = (s.rest, [], v, [], sym (append-nil s.rest), sym (append-nil v), m, end_here) in
    let tail = unless_before (name ⋅ end) (part (of_base 10)) s.rest [] v
    (subst (NoneAt (part (of_base 10))) (sym (append-nil s.rest)) (no_part_to s.rest s.whole)) last in (
      s.letter ∷ (without_underscores s.run ++ v),
      subst (λ k. Means exponent_suffix k [] (s.letter ∷ (without_underscores s.run ++ v))) (sym s.text_is) (
        s.letter ∷ [],
        s.run ++ s.rest,
        s.letter ∷ [],
        without_underscores s.run ++ v,
        refl,
        refl,
        (s.letter, sym (among_e s.letter) ∙ s.is_letter, refl, refl),
        (s.run, s.rest, without_underscores s.run, v, refl, refl, some_to 10 s.run (s.rest ++ []) refl s.each any, tail),
      ),
    )

exponent_suffix_from : (u w v : List ℕ) → Means exponent_suffix u w v → (w ≡ []) × IsExponentSuffix u
exponent_suffix_from u w v (a, b, p, q, u_is, v_is, (c, is_letter, a_is, p_is), (run, rest, y, z, b_is, q_is, row, tail)) =
    let (none, (n, e, s, t, rest_is, z_is, is_name, at_e)) = before_unless (name ⋅ end) (part (of_base 10)) rest w z tail in
    let (e_is, w_is, t_is) = at_end e w t at_e in
    let (all, any, y_is) = some_from 10 run (rest ++ w) y refl row in (
      w_is,
      record {
        letter = c;
        run = run;
        rest = rest;
        is_letter = among_e c ∙ is_letter;
        each = all;
        some = any_same is_ascii_digit (of_base 10) digit_is_ten run ∙ any;
        whole = no_part_from rest (subst (NoneAt (part (of_base 10))) (ap (λ k. rest ++ k) w_is ∙ append-nil rest) none);
        is_rest = subst IsName (sym (rest_is ∙ ap (λ k. n ++ k) e_is ∙ append-nil n)) (name_from n (e ++ w) s is_name);
        text_is = u_is ∙ ap₂ (λ k l. k ++ l) a_is b_is;
      },
    )

no_exponent_to : (x : List ℕ) → (IsExponentSuffix x → ⊥) → NoneAt exponent_suffix x
no_exponent_to x never u w v e m =
    let (w_is, s) = exponent_suffix_from u w v m in
    never (subst IsExponentSuffix (sym (e ∙ ap (λ k. u ++ k) w_is ∙ append-nil u)) s)

no_exponent_from : (x : List ℕ) → NoneAt exponent_suffix x → IsExponentSuffix x → ⊥
no_exponent_from x none s =
    let (v, m) = exponent_suffix_to x s in
    none x [] v (sym (append-nil x)) m

-- ---- integers

abbrev minus : Rule
minus = maybe (any_of (codes "-"))

minus_to : (s : Sign) (after : List ℕ) → Means minus (sign_text s) after (sign_text s)
minus_to NoSign after = inl (refl, refl)
minus_to Minus after = inr (45, refl, refl, refl)

minus_from : (u after v : List ℕ) → Means minus u after v → (s : Sign) × (u ≡ sign_text s) × (v ≡ sign_text s)
minus_from u after v (inl (u_is, v_is)) = (NoSign, u_is, v_is)
minus_from u after v (inr (c, here, u_is, v_is)) =
    let e = ap (λ k. k ∷ []) (eqb-true c 45 (alone (eqb c 45) here)) in
    (Minus, u_is ∙ e, v_is ∙ e)

abbrev forms : (ℕ → Bool) → Rule
forms test =
    no_prefix ⋅ tested_number test 10 dec_literal ⋅ Unless exponent_suffix
    ∣ tested_number test 2 (with_prefix (codes "0b") 2) ∣ tested_number test 8 (with_prefix (codes "0o") 8)
    ∣ tested_number test 16 (with_prefix (codes "0x") 16) ⋅ Unless (digit 16)

-- The text is an integer's prefix and digits, the suffix `x` follows, and the value is the number in base ten.
record IsForm (test : ℕ → Bool) (u x v : List ℕ) : Type 0 where
  pub base : Base
  pub run : List ℕ
  pub front : IsAfterPrefix base (run ++ x)
  pub each : list_all (is_run_part (is_digit base)) run ≡ true
  pub some : list_any (is_digit base) run ≡ true
  pub is_suffix_of : AllowsSuffix base x
  pub passes : test (place_value (radix base) (without_underscores run)) ≡ true
  pub text_is : u ≡ prefix base ++ run
  pub value_is : v ≡ dec (place_value (radix base) (without_underscores run))

first_digit : (run x : List ℕ) → list_any (is_digit Decimal) run ≡ true → first_passes is_ascii_digit (run ++ x) ≡ true
    → first_passes is_ascii_digit run ≡ true
first_digit [] x some h = absurd (false≢true some)
first_digit (c ∷ cs) x some h = h

form_to : (test : ℕ → Bool) (base : Base) (run x : List ℕ) → IsAfterPrefix base (run ++ x)
    → list_all (is_run_part (is_digit base)) run ≡ true → list_any (is_digit base) run ≡ true → AllowsSuffix base x
    → test (place_value (radix base) (without_underscores run)) ≡ true
    → Means (forms test) (prefix base ++ run) x (dec (place_value (radix base) (without_underscores run)))
form_to test Decimal run x front each some of passes =
    let v = dec (place_value 10 (without_underscores run)) in
    inl (unless_before (tested_number test 10 dec_literal ⋅ Unless exponent_suffix) prefixes run x v (no_prefix_to (run ++ x) front.1)
    (unless_then (tested_number test 10 dec_literal) exponent_suffix run x v
    (without_underscores run, (passes, dec_to run x (first_digit run x some front.0, decimal_parts run ∙ each)), refl) (no_exponent_to x of)))
form_to test Binary run x front each some of passes =
    inr (inl (without_underscores run, (passes, text_then (codes "0b") (some_digits 2) run x (without_underscores run) (some_to 2 run x refl each some)), refl))
form_to test Octal run x front each some of passes =
    inr (inr (inl (without_underscores run, (passes, text_then (codes "0o") (some_digits 8) run x (without_underscores run) (some_to 8 run x refl each some)), refl)))
form_to test Hexadecimal run x front each some of passes =
    inr (inr (inr (unless_then (tested_number test 16 (with_prefix (codes "0x") 16)) (digit 16) (codes "0x" ++ run) x (dec (place_value 16 (without_underscores run)))
    (without_underscores run, (passes, text_then (codes "0x") (some_digits 16) run x (without_underscores run) (some_to 16 run x refl each some)), refl)
    (none_passes (of_base 16) x of))))

based : (test : ℕ → Bool) (base : Base) (u x v : List ℕ) → is_digit base 95 ≡ false
    → ((run : List ℕ) → IsAfterPrefix base (run ++ x)) → AllowsSuffix base x
    → Means (tested_number test (radix base) (with_prefix (prefix base) (radix base))) u x v → IsForm test u x v
based test base u x v fails front of (ds, (passes, m), v_is) =
    let (run, u_is, rest) = then_text (prefix base) (some_digits (radix base)) u x ds m in
    let (all, any, ds_is) = some_from (radix base) run x ds fails rest in
    record {
      base = base;
      run = run;
      front = front run;
      each = all;
      some = any;
      is_suffix_of = of;
      passes = ap (λ k. test (place_value (radix base) k)) (sym ds_is) ∙ passes;
      text_is = u_is;
      value_is = v_is ∙ ap (λ k. dec (place_value (radix base) k)) ds_is;
    }

form_from : (test : ℕ → Bool) (u x v : List ℕ) → Means (forms test) u x v → IsForm test u x v
form_from test u x v (inl m) =
    let (none, rest) = before_unless (tested_number test 10 dec_literal ⋅ Unless exponent_suffix) prefixes u x v m in
    let ((ds, (passes, row), v_is), never) = then_unless (tested_number test 10 dec_literal) exponent_suffix u x v rest in
    let (is_digits, ds_is) = dec_from u x ds row in
    record {
      base = Decimal;
      run = u;
      front = (first_joined u is_digits.0, no_prefix_from (u ++ x) none);
      each = sym (decimal_parts u) ∙ is_digits.1;
      some = some_digit u is_digits.0;
      is_suffix_of = no_exponent_from x never;
      passes = ap (λ k. test (place_value 10 k)) (sym ds_is) ∙ passes;
      text_is = refl;
      value_is = v_is ∙ ap (λ k. dec (place_value 10 k)) ds_is;
    }
  where
    first_joined : (u : List ℕ) → first_passes is_ascii_digit u ≡ true → first_passes is_ascii_digit (u ++ x) ≡ true
    first_joined [] h = absurd (false≢true h)
    first_joined (c ∷ cs) h = h
form_from test u x v (inr (inl m)) = based test Binary u x v refl (λ run. tt) tt m
form_from test u x v (inr (inr (inl m))) = based test Octal u x v refl (λ run. tt) tt m
form_from test u x v (inr (inr (inr m))) =
    let (n, none) = then_unless (tested_number test 16 (with_prefix (codes "0x") 16)) (digit 16) u x v m in
    based test Hexadecimal u x v refl (λ run. tt) (passes_none (of_base 16) x none) n

int_to : (test : ℕ → Bool) (text : List ℕ) (s : Sign) (m : ℕ) (x : List ℕ) → IntReads text s m x → test m ≡ true
    → Framed (parse_lit_int test) text (sign_text s ++ dec m) x
int_to test text s m x r passes =
    let p = prefix r.base in
    let v = dec (place_value (radix r.base) (without_underscores r.digits)) in
    record {
      body = sign_text s ++ (p ++ r.digits);
      text_is = r.text_is ∙ around (sign_text s) p r.digits x;
      is_body = (
        sign_text s,
        p ++ r.digits,
        sign_text s,
        v,
        refl,
        ap (λ k. sign_text s ++ dec k) r.magnitude_is,
        minus_to s (p ++ r.digits ++ x),
        form_to test r.base r.digits x r.front r.each r.some r.is_suffix_of (ap test (sym r.magnitude_is) ∙ passes),
      );
    }

-- The text is an integer with the suffix `x`. Its number passes the test.
record IsInt (test : ℕ → Bool) (text value x : List ℕ) : Type 0 where
  pub is_sign : Sign
  pub magnitude : ℕ
  pub reads : IntReads text is_sign magnitude x
  pub passes : test magnitude ≡ true
  pub value_is : value ≡ sign_text is_sign ++ dec magnitude

int_from : (test : ℕ → Bool) (text value x : List ℕ) → Framed (parse_lit_int test) text value x → IsSuffix x → IsInt test text value x
int_from test text value x f is_suffix =
    let (a, b, p, q, body_is, value_is, first, second) = f.is_body in
    let (s, a_is, p_is) = minus_from a (b ++ x) p first in
    let form = form_from test b x q second in
    let whole : text ≡ (sign_text s ++ (prefix form.base ++ form.run)) ++ x =
    f.text_is ∙ ap (λ k. k ++ x) (body_is ∙ ap₂ (λ k l. k ++ l) a_is form.text_is) in
    record {
      is_sign = s;
      magnitude = place_value (radix form.base) (without_underscores form.run);
      reads = record {
        base = form.base;
        digits = form.run;
        front = form.front;
        each = form.each;
        some = form.some;
        is_suffix = is_suffix;
        is_suffix_of = form.is_suffix_of;
        text_is = whole ∙ sym (around (sign_text s) (prefix form.base) form.run x);
        magnitude_is = refl;
      };
      passes = form.passes;
      value_is = value_is ∙ ap₂ (λ k l. k ++ l) p_is form.value_is;
    }

pub int_rule : (text : List ℕ) (contents : Contents) (x : List ℕ)
    → ReadsInt text contents x ↔ IsLiteralBy (syn_literal Int) number_suffix Int text contents x
int_rule text contents x = (to, from)
  where
    to : ReadsInt text contents x → IsLiteralBy (syn_literal Int) number_suffix Int text contents x
    to s =
        let f = int_to (λ n. nat_le n limit) text s.sign s.magnitude x s.reads (le-leb s.magnitude limit s.within) in
        record {
          body = f.body;
          value = sign_text s.sign ++ dec s.magnitude;
          text_is = f.text_is;
          is_body = f.is_body;
          is_suffix = suffix_to x s.reads.is_suffix;
          contents_is = s.contents_is ∙ ap (λ k. Digits (sign_text s.sign ++ k)) (sym (dec_is_decimal s.magnitude s.within));
        }

    from : IsLiteralBy (syn_literal Int) number_suffix Int text contents x → ReadsInt text contents x
    from l =
        let i = int_from (λ n. nat_le n limit) text l.value x (record { body = l.body; text_is = l.text_is; is_body = l.is_body })
        (suffix_from x l.is_suffix.0 l.is_suffix.1) in
        let within = leb-true i.magnitude limit i.passes in
        record {
          sign = i.is_sign;
          magnitude = i.magnitude;
          reads = i.reads;
          within = within;
          contents_is = l.contents_is ∙ ap Digits (i.value_is ∙ ap (λ k. sign_text i.is_sign ++ k) (dec_is_decimal i.magnitude within));
        }

-- ---- texts that aren't integers

abbrev any_integer : Rule
any_integer = parse_lit_int (λ n. true) ⋅ number_suffix ⋅ end

no_integer_to : (text : List ℕ) → HasNoInteger text → NoneAt any_integer text
no_integer_to text never u w v e (a, b, p, q, u_is, v_is, int, (x, d, r, s, b_is, q_is, is_suffix, at_e)) =
    let (d_is, w_is, s_is) = at_end d w s at_e in
    let suffix : Means number_suffix x [] r = subst (λ k. Means number_suffix x k r) (ap₂ (λ k l. k ++ l) d_is w_is) is_suffix in
    let tail : b ++ w ≡ x = ap₂ (λ k l. k ++ l) (b_is ∙ ap (λ k. x ++ k) d_is ∙ append-nil x) w_is ∙ append-nil x in
    let whole : text ≡ a ++ x = e ∙ ap (λ k. k ++ w) u_is ∙ append_assoc a b w ∙ ap (λ k. a ++ k) tail in
    let i = int_from (λ n. true) text p x (record { body = a; text_is = whole; is_body = subst (λ k. Means (parse_lit_int (λ n. true)) a k p) tail int })
    (suffix_from x r suffix) in
    never i.is_sign i.magnitude x i.reads

no_integer_from : (text : List ℕ) → NoneAt any_integer text → HasNoInteger text
no_integer_from text none s m x r =
    let f = int_to (λ n. true) text s m x r refl in
    let (v, suffix) = suffix_to x r.is_suffix in
    let value = sign_text s ++ dec m in
    none text [] (value ++ v) (sym (append-nil text)) (
      f.body,
      x,
      value,
      v,
      f.text_is,
      refl,
      subst (λ k. Means (parse_lit_int (λ n. true)) f.body k value) (sym (append-nil x)) f.is_body,
      (x, [], v, [], sym (append-nil x), sym (append-nil v), suffix, end_here),
    )

-- ---- exponents of floats

abbrev power : Rule
power = letter ⋅ Many (Text (95 ∷ [])) ⋅ sign ⋅ some_digits 10

abbrev begins_power : Rule
begins_power = any_of (codes "eE") ⋅ Many (Text (95 ∷ [])) ⋅ digit 10

counted : (us : List ℕ) → list_all is_underscore us ≡ true → us ≡ replicate (length us) 95
counted [] all = refl
counted (c ∷ cs) all =
    let (here, more) = and_parts (is_underscore c) (list_all is_underscore cs) all in
    ap (λ k. k ∷ cs) (eqb-true c 95 here) ∙ ap (λ k. 95 ∷ k) (counted cs more)

all_counted : (n : ℕ) → list_all is_underscore (replicate n 95) ≡ true
all_counted zero = refl
all_counted (suc n) = all_counted n

dropped : (n : ℕ) (t : List ℕ) → float_digits (replicate n 95 ++ t) ≡ float_digits t
dropped zero t = refl
dropped (suc n) t = dropped n t

no_power_to : (x : List ℕ) → (BeginsExponent x → ⊥) → NoneAt begins_power x
no_power_to x never u w v e (a, b, p, q, u_is, v_is, (c, is_letter, a_is, p_is), (us, d, r, s, b_is, q_is, row, (k, is_k, d_is, s_is))) =
    let (n, us_is, r_is) = underscores_from us (d ++ w) r row in
    never (record {
      letter = c;
      underscores = us;
      digit = k;
      rest = w;
      is_letter = among_e c ∙ is_letter;
      all_underscores = ap (list_all is_underscore) us_is ∙ all_counted n;
      is_digit = digit_is_ten k ∙ is_k;
      text_is = e ∙ ap (λ z. z ++ w) (u_is ∙ ap₂ (λ y z. y ++ z) a_is (b_is ∙ ap (λ z. us ++ z) d_is)) ∙ ap (λ z. c ∷ z) (append_assoc us (k ∷ []) w);
    })

no_power_from : (x : List ℕ) → NoneAt begins_power x → BeginsExponent x → ⊥
no_power_from x none s =
    let row = subst (λ k. Means (Many (Text (95 ∷ []))) k (s.digit ∷ [] ++ s.rest) []) (sym (counted s.underscores s.all_underscores))
    (underscores_to (length s.underscores) (s.digit ∷ [] ++ s.rest)) in
    none (s.letter ∷ (s.underscores ++ s.digit ∷ [])) s.rest (s.letter ∷ s.digit ∷ [])
    (s.text_is ∙ ap (λ z. s.letter ∷ z) (sym (append_assoc s.underscores (s.digit ∷ []) s.rest))) (
      s.letter ∷ [],
      s.underscores ++ s.digit ∷ [],
      s.letter ∷ [],
      s.digit ∷ [],
      refl,
      refl,
      (s.letter, sym (among_e s.letter) ∙ s.is_letter, refl, refl),
      (s.underscores, s.digit ∷ [], [], s.digit ∷ [], refl, refl, row, (s.digit, sym (digit_is_ten s.digit) ∙ s.is_digit, refl, refl)),
    )

sign_is : (s : List ℕ) → is_power_sign s ≡ true → IsSign s
sign_is [] h = inl refl
sign_is (c ∷ []) h =
    elim (or_cases (eqb c 43) (eqb c 45) h) [
      | inl e ↦ inr (inl (ap (λ k. k ∷ []) (eqb-true c 43 e)))
      | inr e ↦ inr (inr (ap (λ k. k ∷ []) (eqb-true c 45 e)))
    ]
sign_is (c ∷ d ∷ cs) h = absurd (false≢true h)

is_sign : (s : List ℕ) → IsSign s → is_power_sign s ≡ true
is_sign s (inl e) = ap is_power_sign e
is_sign s (inr (inl e)) = ap is_power_sign e
is_sign s (inr (inr e)) = ap is_power_sign e

exponent_to : (e : Exponent) (x : List ℕ) → IsExponent e x → Means (power ∣ Unless begins_power) (exponent_text e) x (float_digits (exponent_text e))
exponent_to NoExponent x never = inr (refl, refl, no_power_to x never)
exponent_to (Power c us s run) x (is_letter, is_us, is_s, each, some) =
    let any = any_same (of_base 10) is_ascii_digit (λ c. sym (digit_is_ten c)) run ∙ some in
    let digits_are = subst (λ v. Means (some_digits 10) run x v) (sym (digits_written run each)) (some_to 10 run x refl each any) in
    let row = subst (λ k. Means (Many (Text (95 ∷ []))) k (s ++ run ++ x) []) (sym (counted us is_us)) (underscores_to (length us) (s ++ run ++ x)) in
    let gone = ap (λ k. float_digits (k ++ (s ++ run))) (counted us is_us) ∙ dropped (length us) (s ++ run) in
    inl (
      c ∷ [],
      us ++ (s ++ run),
      float_digits (c ∷ []),
      float_digits (s ++ run),
      refl,
      digits_joined (c ∷ []) (us ++ (s ++ run)) ∙ ap (λ k. float_digits (c ∷ []) ++ k) gone,
      letter_to c (us ++ (s ++ run) ++ x) is_letter,
      (
        us,
        s ++ run,
        [],
        float_digits (s ++ run),
        refl,
        refl,
        row,
        (s, run, float_digits s, float_digits run, refl, digits_joined s run, sign_to s (run ++ x) (sign_is s is_s), digits_are),
      ),
    )

exponent_from : (u x v : List ℕ) → Means (power ∣ Unless begins_power) u x v
    → (e : Exponent) × IsExponent e x × (u ≡ exponent_text e) × (v ≡ float_digits (exponent_text e))
exponent_from u x v (inr (u_is, v_is, none)) = (NoExponent, no_power_from x none, u_is, v_is)
exponent_from u x v (inl (a, b, p, q, u_is, v_is, first, (us, d, r, y, b_is, q_is, row, (s, run, i, j, d_is, y_is, is_s, digits_are)))) =
    let (c, is_letter, a_is, p_is) = letter_from a (b ++ x) p first in
    let (n, us_is, r_is) = underscores_from us (d ++ x) r row in
    let (is_sign_s, i_is) = sign_from s (run ++ x) i is_s in
    let (all, any, j_is) = some_from 10 run x j refl digits_are in
    let tail : q ≡ float_digits (s ++ run) = q_is ∙ ap (λ k. k ++ y) r_is ∙ y_is ∙ ap₂ (λ k l. k ++ l) i_is (j_is ∙ sym (digits_written run all)) ∙ sym (digits_joined s run) in
    let gone = ap (λ k. float_digits (k ++ (s ++ run))) us_is ∙ dropped n (s ++ run) in (
      Power c us s run,
      (is_letter, ap (list_all is_underscore) us_is ∙ all_counted n, is_sign s is_sign_s, all, any_same is_ascii_digit (of_base 10) digit_is_ten run ∙ any),
      u_is ∙ ap₂ (λ k l. k ++ l) a_is (b_is ∙ ap (λ k. us ++ k) d_is),
      v_is ∙ ap₂ (λ k l. k ++ l) p_is tail ∙ sym (digits_joined (c ∷ []) (us ++ (s ++ run)) ∙ ap (λ k. float_digits (c ∷ []) ++ k) gone),
    )

-- ---- floats

abbrev fraction : Rule
fraction = maybe (dot ⋅ digits 10)

fraction_to : (f : Fraction) (after : List ℕ) → IsFraction f → Means fraction (fraction_text f) after (float_digits (fraction_text f))
fraction_to NoFraction after h = inl (refl, refl)
fraction_to (Dot run) after all =
    inr (
      46 ∷ [],
      run,
      46 ∷ [],
      float_digits run,
      refl,
      refl,
      (46, refl, refl, refl),
      subst (λ v. Means (digits 10) run after v) (sym (digits_written run all)) (parts_to (of_base 10) refl run after all),
    )

fraction_from : (u after v : List ℕ) → Means fraction u after v
    → (f : Fraction) × IsFraction f × (u ≡ fraction_text f) × (v ≡ float_digits (fraction_text f))
fraction_from u after v (inl (u_is, v_is)) = (NoFraction, tt, u_is, v_is)
fraction_from u after v (inr (a, run, p, q, u_is, v_is, point, row)) =
    let (a_is, p_is) = dot_from a (run ++ after) p point in
    let (all, q_is) = parts_from (of_base 10) refl run after q row in (
      Dot run,
      all,
      u_is ∙ ap (λ k. k ++ run) a_is,
      v_is ∙ ap₂ (λ k l. k ++ l) p_is (q_is ∙ sym (digits_written run all)),
    )

signed : (s : Sign) → sign_text s ≡ float_digits (sign_text s)
signed NoSign = refl
signed Minus = refl

float_to : (text numeral x : List ℕ) → FloatReads text numeral x → Means parse_lit_float numeral x (float_digits numeral)
float_to text numeral x s =
    let w = s.whole in
    let f = fraction_text s.fraction in
    let e = exponent_text s.exponent in
    subst (λ k. Means parse_lit_float k x (float_digits k)) (sym s.numeral_is) (
      sign_text s.sign,
      w ++ (f ++ e),
      sign_text s.sign,
      float_digits (w ++ (f ++ e)),
      refl,
      digits_joined (sign_text s.sign) (w ++ (f ++ e)) ∙ ap (λ k. k ++ float_digits (w ++ (f ++ e))) (sym (signed s.sign)),
      minus_to s.sign (w ++ (f ++ e) ++ x),
      (
        w,
        f ++ e,
        float_digits w,
        float_digits (f ++ e),
        refl,
        digits_joined w (f ++ e),
        whole_to w (f ++ e ++ x) (s.first, decimal_parts w ∙ s.each),
        (f, e, float_digits f, float_digits e, refl, digits_joined f e, fraction_to s.fraction (e ++ x) s.is_fraction, exponent_to s.exponent x s.is_exponent),
      ),
    )

float_from : (text numeral x v : List ℕ) → text ≡ numeral ++ x → IsSuffix x → Means parse_lit_float numeral x v
    → FloatReads text numeral x × (v ≡ float_digits numeral)
float_from text numeral x v text_is is_suffix (a, b, p, q, n_is, v_is, first, (w, d, r, y, b_is, q_is, whole, (f, e, i, j, d_is, y_is, is_f, is_e))) =
    let (s, a_is, p_is) = minus_from a (b ++ x) p first in
    let (is_w, r_is) = whole_from w (d ++ x) r whole in
    let (fr, is_fr, f_is, i_is) = fraction_from f (e ++ x) i is_f in
    let (ex, is_ex, e_is, j_is) = exponent_from e x j is_e in
    let tail : d ≡ fraction_text fr ++ exponent_text ex = d_is ∙ ap₂ (λ k l. k ++ l) f_is e_is in
    let numeral_is : numeral ≡ sign_text s ++ (w ++ (fraction_text fr ++ exponent_text ex)) =
    n_is ∙ ap₂ (λ k l. k ++ l) a_is (b_is ∙ ap (λ k. w ++ k) tail) in
    let last : y ≡ float_digits (fraction_text fr ++ exponent_text ex) = y_is ∙ ap₂ (λ k l. k ++ l) i_is j_is ∙ sym (digits_joined (fraction_text fr) (exponent_text ex)) in
    let most : q ≡ float_digits (w ++ (fraction_text fr ++ exponent_text ex)) =
    q_is ∙ ap₂ (λ k l. k ++ l) r_is last ∙ sym (digits_joined w (fraction_text fr ++ exponent_text ex)) in (
      record {
        sign = s;
        whole = w;
        fraction = fr;
        exponent = ex;
        first = is_w.0;
        each = sym (decimal_parts w) ∙ is_w.1;
        is_fraction = is_fr;
        is_exponent = is_ex;
        is_suffix = is_suffix;
        numeral_is = numeral_is;
        text_is = text_is;
      },
      v_is ∙ ap₂ (λ k l. k ++ l) (p_is ∙ signed s) most
          ∙ sym (digits_joined (sign_text s) (w ++ (fraction_text fr ++ exponent_text ex))) ∙ ap float_digits (sym numeral_is),
    )

pub float_rule : (text : List ℕ) (contents : Contents) (x : List ℕ)
    → ReadsFloat text contents x ↔ IsLiteralBy (syn_literal Float) number_suffix Float text contents x
float_rule text contents x = (to, from)
  where
    to : ReadsFloat text contents x → IsLiteralBy (syn_literal Float) number_suffix Float text contents x
    to s = record {
      body = s.numeral;
      value = float_digits s.numeral;
      text_is = s.reads.text_is;
      is_body = unless_before parse_lit_float any_integer s.numeral x (float_digits s.numeral)
          (subst (NoneAt any_integer) s.reads.text_is (no_integer_to text s.no_integer)) (float_to text s.numeral x s.reads);
      is_suffix = suffix_to x s.reads.is_suffix;
      contents_is = s.contents_is;
    }

    from : IsLiteralBy (syn_literal Float) number_suffix Float text contents x → ReadsFloat text contents x
    from l =
        let (none, m) = before_unless parse_lit_float any_integer l.body x l.value l.is_body in
        let (reads, value_is) = float_from text l.body x l.value l.text_is (suffix_from x l.is_suffix.0 l.is_suffix.1) m in
        record {
          numeral = l.body;
          reads = reads;
          no_integer = no_integer_from text (subst (NoneAt any_integer) (sym l.text_is) none);
          contents_is = l.contents_is ∙ ap Digits value_is;
        }
