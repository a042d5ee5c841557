-- Integers and floats, by both definitions.
use Rattle.rl_syntax.proofs.Common.{◌≡◌, ◌⊎◌, ℕ, ◌||◌, Bool, true, false, not, eqb, List, [], ◌∷◌, ◌++◌, refl, sym, ap, ap₂, subst, ◌∙◌, inl, inr, append_assoc, list_all, list_any, list_all-append, eqb-true, and_parts, and_from, or_left, or_right, or_cases, or_from, or_parts, digit_value, nat_lt, is_ascii_digit, is_ascii_hexdigit, codes, if◌then◌else◌}
use Rattle.std.proofs.lemmas.List.Concat.{flat_map-append}
use Rattle.rl_syntax.specs.declared.kind.Kind.TheVariants.{Int, Float}
use Rattle.std.specs.Prelude.{map, filter, ◌↔◌}
use Rattle.rl_syntax.specs.Texts.{first_passes, begins, begins_char, is_among, is_run_part}
use Rattle.rl_syntax.specs.Spelling.{place_value, without_underscores}
use Rattle.rl_syntax.specs.Numbers.{float_digits}
use Rattle.rl_syntax.specs.Reading.{Contents, Digits}
use Rattle.rl_syntax.specs.Strict.{dec, IsDigits, IsDecimalText, BasedPrefix, StrictInt, IsStrictExponent, IsDotAlone, IsPointed, IsScientific, StrictFloat}
use Rattle.rl_syntax.proofs.Basics.{apart, digit_is_ten, hex_is_sixteen, all_same, any_same, passes_same}
use Rattle.rl_theorem.specs.Notation.{Rule, Text, One, As, Unless, Means, ◌⋅◌, ◌∣◌, maybe, any_of, end}
use Rattle.rl_theorem.specs.RustRules.{digit, some_digits, dec_literal, number, no_prefix, integer_literal, float_exponent, float_literal}
use Rattle.rl_theorem.proofs.RuleParts.{text_then, then_text, NoneAt, unless_then, then_unless, unless_before, before_unless, none_passes, passes_none, none_begins, begins_none, none_of_both, kept, kept_digit, kept_all, parts_to, parts_from, or_same}
use Rattle.rl_theorem.proofs.QuotedRules.{By}
use Rattle.rl_theorem.proofs.SuffixRule.{suffix_to, suffix_from, at_end, alone}

-- ---- rows of digits and underscores

abbrev pub of_base : ℕ → ℕ → Bool
of_base base c = nat_lt (digit_value c) base

without_joined : (a b : List ℕ) → without_underscores (a ++ b) ≡ without_underscores a ++ without_underscores b
without_joined a b =
    sym (kept_all (a ++ b)) ∙ flat_map-append kept a b ∙ ap₂ (λ k l. k ++ l) (kept_all a) (kept_all b)

pub without_digit : (base c : ℕ) (cs : List ℕ) → of_base base 95 ≡ false → of_base base c ≡ true
    → without_underscores (c ∷ cs) ≡ c ∷ without_underscores cs
without_digit base c cs fails is =
    without_joined (c ∷ []) cs ∙ ap (λ k. k ++ without_underscores cs) (kept_digit c (apart (of_base base) c 95 is fails))

pub split : (test : ℕ → Bool) (cs : List ℕ) → list_any test cs ≡ true
    → (a : List ℕ) × (c : ℕ) × (b : List ℕ) × (test c ≡ true) × (cs ≡ a ++ (c ∷ b))
split test [] h = absurd (cc)
split test (c ∷ cs) h =
    elim (or_cases (test c) (list_any test cs) h) [
      | inl is ↦ ([], c, cs, is, refl)
      | inr more ↦
          let (a, d, b, is, e) = split test cs more in
          (c ∷ a, d, b, is, ap (λ k. c ∷ k) e)
    ]

pub some_to : (base : ℕ) (cs after : List ℕ) → of_base base 95 ≡ false → list_all (is_run_part (of_base base)) cs ≡ true
    → list_any (of_base base) cs ≡ true → Means (some_digits base) cs after (without_underscores cs)
some_to base cs after fails all any =
    let (a, c, b, is, e) = split (of_base base) cs any in
    let test = is_run_part (of_base base) in
    let (first, others) = and_parts (list_all test a) (list_all test (c ∷ b))
    (sym (list_all-append test a (c ∷ b)) ∙ ap (list_all test) (sym e) ∙ all) in
    let last = (and_parts (test c) (list_all test b) others).1 in (
      a,
      c ∷ b,
      without_underscores a,
      c ∷ without_underscores b,
      e,
      ap without_underscores e ∙ without_joined a (c ∷ b) ∙ ap (λ k. without_underscores a ++ k) (without_digit base c b fails is),
      parts_to (of_base base) fails a (c ∷ b ++ after) first,
      (c ∷ [], b, c ∷ [], without_underscores b, refl, refl, (c, is, refl, refl), parts_to (of_base base) fails b after last),
    )

pub some_from : (base : ℕ) (text after value : List ℕ) → of_base base 95 ≡ false → Means (some_digits base) text after value
    → (list_all (is_run_part (of_base base)) text ≡ true) × (list_any (of_base base) text ≡ true)
    × (value ≡ without_underscores text)
some_from base text after value fails (a, w, p, q, text_is, value_is, front, (d, b, r, s, w_is, q_is, (c, is, d_is, r_is), back)) =
    let test = is_run_part (of_base base) in
    let (first, p_is) = parts_from (of_base base) fails a (w ++ after) p front in
    let (last, s_is) = parts_from (of_base base) fails b after s back in
    let whole : text ≡ a ++ (c ∷ b) = text_is ∙ ap (λ k. a ++ k) (w_is ∙ ap (λ k. k ++ b) d_is) in
    let tail : q ≡ c ∷ without_underscores b = q_is ∙ ap (λ k. k ++ s) r_is ∙ ap (λ k. c ∷ k) s_is in (
      ap (list_all test) whole ∙ list_all-append test a (c ∷ b)
          ∙ and_from (list_all test a) (list_all test (c ∷ b)) first
          (and_from (test c) (list_all test b) (or_left (of_base base c) (eqb c 95) is) last),
      ap (list_any (of_base base)) whole ∙ found a,
      value_is ∙ ap₂ (λ k l. k ++ l) p_is (tail ∙ sym (without_digit base c b fails is))
          ∙ sym (without_joined a (c ∷ b)) ∙ ap without_underscores (sym whole),
    )
  where
    found : (a : List ℕ) → list_any (of_base base) (a ++ (c ∷ b)) ≡ true
    found [] = or_left (of_base base c) (list_any (of_base base) b) is
    found (k ∷ a) = or_right (of_base base k) (list_any (of_base base) (a ++ (c ∷ b))) (found a)

-- A digit, and then digits and underscores.
pub decimal_parts : (cs : List ℕ) → list_all (is_run_part is_ascii_digit) cs ≡ list_all (is_run_part (of_base 10)) cs
decimal_parts cs =
    all_same (is_run_part is_ascii_digit) (is_run_part (of_base 10)) (λ c. ap (λ b. b || eqb c 95) (digit_is_ten c)) cs

pub dec_to : (cs after : List ℕ) → IsDigits cs → Means dec_literal cs after (without_underscores cs)
dec_to [] after h = absurd (cc)
dec_to (c ∷ cs) after (first, all) =
    let (here, more) = and_parts (is_run_part (of_base 10) c) (list_all (is_run_part (of_base 10)) cs) (sym (decimal_parts (c ∷ cs)) ∙ all) in
    let is = sym (digit_is_ten c) ∙ first in (
      c ∷ [],
      cs,
      c ∷ [],
      without_underscores cs,
      refl,
      without_digit 10 c cs refl is,
      (c, is, refl, refl),
      parts_to (of_base 10) refl cs after more,
    )

pub dec_from : (text after value : List ℕ) → Means dec_literal text after value
    → IsDigits text × (value ≡ without_underscores text)
dec_from text after value (d, cs, r, s, text_is, value_is, (c, is, d_is, r_is), back) =
    let (all, s_is) = parts_from (of_base 10) refl cs after s back in
    let whole : text ≡ c ∷ cs = text_is ∙ ap (λ k. k ++ cs) d_is in (
      (
        ap (first_passes is_ascii_digit) whole ∙ digit_is_ten c ∙ is,
        ap (list_all (is_run_part is_ascii_digit)) whole ∙ decimal_parts (c ∷ cs)
            ∙ and_from (is_run_part (of_base 10) c) (list_all (is_run_part (of_base 10)) cs) (or_left (of_base 10 c) (eqb c 95) is) all,
      ),
      value_is ∙ ap (λ k. k ++ s) r_is ∙ ap (λ k. c ∷ k) s_is ∙ sym (without_digit 10 c cs refl is) ∙ ap without_underscores (sym whole),
    )

pub some_digit : (cs : List ℕ) → first_passes is_ascii_digit cs ≡ true → list_any (of_base 10) cs ≡ true
some_digit [] h = absurd (cc)
some_digit (c ∷ cs) h = or_left (of_base 10 c) (list_any (of_base 10) cs) (sym (digit_is_ten c) ∙ h)

-- ---- what doesn't follow a number

abbrev pub prefixes : Rule
prefixes = Text (codes "0b") ∣ Text (codes "0o") ∣ Text (codes "0x")

pub no_prefix_to : (t : List ℕ) → IsDecimalText t → NoneAt prefixes t
no_prefix_to t h =
    let (two, hex) = or_parts (begins (codes "0b") t || begins (codes "0o") t) (begins (codes "0x") t) h in
    let (bin, oct) = or_parts (begins (codes "0b") t) (begins (codes "0o") t) two in
    none_of_both (Text (codes "0b")) (Text (codes "0o") ∣ Text (codes "0x")) t (none_begins (codes "0b") t bin)
    (none_of_both (Text (codes "0o")) (Text (codes "0x")) t (none_begins (codes "0o") t oct) (none_begins (codes "0x") t hex))

pub no_prefix_from : (t : List ℕ) → NoneAt prefixes t → IsDecimalText t
no_prefix_from t none =
    or_from (begins (codes "0b") t || begins (codes "0o") t) (begins (codes "0x") t)
    (or_from (begins (codes "0b") t) (begins (codes "0o") t)
    (begins_none (codes "0b") t (λ u w x e m. none u w x e (inl m)))
    (begins_none (codes "0o") t (λ u w x e m. none u w x e (inr (inl m)))))
    (begins_none (codes "0x") t (λ u w x e m. none u w x e (inr (inr m))))

abbrev pub is_e : ℕ → Bool
is_e c = eqb c 101 || eqb c 69

-- ---- integers

abbrev pub with_prefix : List ℕ → ℕ → Rule
with_prefix prefix base = Text prefix ⋅ some_digits base

abbrev forms : Rule
forms =
    no_prefix ⋅ number 10 dec_literal ∣ number 2 (with_prefix (codes "0b") 2)
    ∣ number 8 (with_prefix (codes "0o") 8) ∣ number 16 (with_prefix (codes "0x") 16) ⋅ Unless (digit 16)

ends : (x : List ℕ) → (first_passes is_e x || begins_char 95 x) ≡ first_passes (is_among (codes "eE_")) x
ends [] = refl
ends (c ∷ cs) = or_same (eqb c 101) (eqb c 69 ∷ eqb c 95 ∷ [])

ends_to : (x : List ℕ) → first_passes is_e x ≡ false → begins_char 95 x ≡ false → NoneAt (any_of (codes "eE_")) x
ends_to x e u = none_passes (is_among (codes "eE_")) x (sym (ends x) ∙ or_from (first_passes is_e x) (begins_char 95 x) e u)

ends_from : (x : List ℕ) → NoneAt (any_of (codes "eE_")) x → (first_passes is_e x ≡ false) × (begins_char 95 x ≡ false)
ends_from x none = or_parts (first_passes is_e x) (begins_char 95 x) (ends x ∙ passes_none (is_among (codes "eE_")) x none)

-- The number of a row of digits, in base ten.
abbrev in_ten : ℕ → List ℕ → List ℕ
in_ten base run = dec (place_value base (without_underscores run))

based_to : (p : List ℕ) (base : ℕ) (run x : List ℕ) → of_base base 95 ≡ false → list_all (is_run_part (of_base base)) run ≡ true
    → list_any (of_base base) run ≡ true → Means (number base (with_prefix p base)) (p ++ run) x (in_ten base run)
based_to p base run x fails all any =
    (without_underscores run, text_then p (some_digits base) run x (without_underscores run) (some_to base run x fails all any), refl)

int_to : (text : List ℕ) (contents : Contents) (x : List ℕ) → StrictInt text contents x → By Int integer_literal text contents x
int_to text contents x s = go s.is_front
  where
    at : (p : List ℕ) (base : ℕ) → s.prefix ≡ p → s.base ≡ base → Means forms (p ++ s.run) x (in_ten base s.run)
        → By Int integer_literal text contents x
    at p base prefix_is base_is m = record {
      body = p ++ s.run;
      value = in_ten base s.run;
      text_is = s.text ∙ ap (λ k. (k ++ s.run) ++ x) prefix_is;
      is_body = unless_then forms (any_of (codes "eE_")) (p ++ s.run) x (in_ten base s.run) m (ends_to x s.no_exponent s.suffix.1);
      is_suffix = suffix_to x s.suffix.0;
      contents_is = s.contents ∙ ap (λ k. Digits (in_ten k s.run)) base_is;
    }

    each : (base : ℕ) → s.base ≡ base → list_all (is_run_part (of_base base)) s.run ≡ true
    each base e = subst (λ b. list_all (is_run_part (of_base b)) s.run ≡ true) e s.each

    some : (base : ℕ) → s.base ≡ base → list_any (of_base base) s.run ≡ true
    some base e = subst (λ b. list_any (of_base b) s.run ≡ true) e s.some

    go : ((s.prefix ≡ []) × (s.base ≡ 10) × IsDigits s.run × IsDecimalText text) ⊎ BasedPrefix s.prefix s.base
        → By Int integer_literal text contents x
    go (inl (prefix_is, base_is, is_digits, is_decimal)) =
        let whole = s.text ∙ ap (λ k. (k ++ s.run) ++ x) prefix_is in
        at [] 10 prefix_is base_is (inl (unless_before (number 10 dec_literal) prefixes s.run x (in_ten 10 s.run)
        (subst (NoneAt prefixes) whole (no_prefix_to text is_decimal)) (without_underscores s.run, dec_to s.run x is_digits, refl)))
    go (inr (inl (p, e))) = at (codes "0b") 2 p e (inr (inl (based_to (codes "0b") 2 s.run x refl (each 2 e) (some 2 e))))
    go (inr (inr (inl (p, e)))) = at (codes "0o") 8 p e (inr (inr (inl (based_to (codes "0o") 8 s.run x refl (each 8 e) (some 8 e)))))
    go (inr (inr (inr (p, e)))) =
        at (codes "0x") 16 p e (inr (inr (inr (unless_then (number 16 (with_prefix (codes "0x") 16)) (digit 16) (codes "0x" ++ s.run) x (in_ten 16 s.run)
        (based_to (codes "0x") 16 s.run x refl (each 16 e) (some 16 e))
        (none_passes (of_base 16) x (sym (passes_same is_ascii_hexdigit (of_base 16) hex_is_sixteen x) ∙ s.no_digit e))))))

int_from : (text : List ℕ) (contents : Contents) (x : List ℕ) → By Int integer_literal text contents x → StrictInt text contents x
int_from text contents x l =
    let (m, none) = then_unless forms (any_of (codes "eE_")) l.body x l.value l.is_body in
    go m (ends_from x none)
  where
    based : (p : List ℕ) (base : ℕ) → of_base base 95 ≡ false → BasedPrefix p base
        → (base ≡ 16 → first_passes is_ascii_hexdigit x ≡ false) → (first_passes is_e x ≡ false) × (begins_char 95 x ≡ false)
        → Means (number base (with_prefix p base)) l.body x l.value → StrictInt text contents x
    based p base fails is_prefix no_digit ends (ds, m, value_is) =
        let (run, body_is, rest) = then_text p (some_digits base) l.body x ds m in
        let (all, any, ds_is) = some_from base run x ds fails rest in
        record {
          prefix = p;
          base = base;
          run = run;
          is_front = inr is_prefix;
          each = all;
          some = any;
          suffix = (suffix_from x l.is_suffix.0 l.is_suffix.1, ends.1);
          no_exponent = ends.0;
          no_digit = no_digit;
          text = l.text_is ∙ ap (λ k. k ++ x) body_is;
          contents = l.contents_is ∙ ap Digits (value_is ∙ ap (λ k. dec (place_value base k)) ds_is);
        }

    go : Means forms l.body x l.value → (first_passes is_e x ≡ false) × (begins_char 95 x ≡ false) → StrictInt text contents x
    go (inl m) ends =
        let (none, (ds, is, value_is)) = before_unless (number 10 dec_literal) prefixes l.body x l.value m in
        let (is_digits, ds_is) = dec_from l.body x ds is in
        record {
          prefix = [];
          base = 10;
          run = l.body;
          is_front = inl (refl, refl, is_digits, no_prefix_from text (subst (NoneAt prefixes) (sym l.text_is) none));
          each = sym (decimal_parts l.body) ∙ is_digits.1;
          some = some_digit l.body is_digits.0;
          suffix = (suffix_from x l.is_suffix.0 l.is_suffix.1, ends.1);
          no_exponent = ends.0;
          no_digit = λ e. absurd (cc);
          text = l.text_is;
          contents = l.contents_is ∙ ap Digits (value_is ∙ ap (λ k. dec (place_value 10 k)) ds_is);
        }
    go (inr (inl m)) ends = based (codes "0b") 2 refl (inl (refl, refl)) (λ e. absurd (cc)) ends m
    go (inr (inr (inl m))) ends = based (codes "0o") 8 refl (inr (inl (refl, refl))) (λ e. absurd (cc)) ends m
    go (inr (inr (inr m))) ends =
        let (is, none) = then_unless (number 16 (with_prefix (codes "0x") 16)) (digit 16) l.body x l.value m in
        let no_digit = passes_same is_ascii_hexdigit (of_base 16) hex_is_sixteen x ∙ passes_none (of_base 16) x none in
        based (codes "0x") 16 refl (inr (inr (refl, refl))) (λ e. no_digit) ends is

pub int_rule : (text : List ℕ) (contents : Contents) (x : List ℕ) → StrictInt text contents x ↔ By Int integer_literal text contents x
int_rule text contents x = (int_to text contents x, int_from text contents x)

-- ---- the digits of floats

pub digits_joined : (a b : List ℕ) → float_digits (a ++ b) ≡ float_digits a ++ float_digits b
digits_joined [] b = refl
digits_joined (c ∷ a) b = go (eqb c 95 || eqb c 43) (digits_joined a b)
  where
    kept_of : Bool → List ℕ → List ℕ
    kept_of dropped cs = map (λ c. if eqb c 69 then 101 else c) (if not dropped then c ∷ filter (λ c. not (eqb c 95 || eqb c 43)) cs else filter (λ c. not (eqb c 95 || eqb c 43)) cs)

    go : (dropped : Bool) → float_digits (a ++ b) ≡ float_digits a ++ float_digits b
        → kept_of dropped (a ++ b) ≡ kept_of dropped a ++ float_digits b
    go true e = e
    go false e = ap (λ k. (if eqb c 69 then 101 else c) ∷ k) e

digit_written : (c : ℕ) (cs : List ℕ) → of_base 10 c ≡ true → float_digits (c ∷ cs) ≡ c ∷ float_digits cs
digit_written c cs is =
    let underscore : eqb c 95 ≡ false = apart (of_base 10) c 95 is refl in
    let plus : eqb c 43 ≡ false = apart (of_base 10) c 43 is refl in
    let letter : eqb c 69 ≡ false = apart (of_base 10) c 69 is refl in
    rw (underscore, plus, letter) refl

pub digits_written : (cs : List ℕ) → list_all (is_run_part (of_base 10)) cs ≡ true → float_digits cs ≡ without_underscores cs
digits_written [] all = refl
digits_written (c ∷ cs) all =
    let (here, more) = and_parts (is_run_part (of_base 10) c) (list_all (is_run_part (of_base 10)) cs) all in
    elim (or_cases (of_base 10 c) (eqb c 95) here) [
      | inl is ↦ digit_written c cs is ∙ ap (λ k. c ∷ k) (digits_written cs more) ∙ sym (without_digit 10 c cs refl is)
      | inr u ↦ subst (λ k. float_digits (k ∷ cs) ≡ without_underscores (k ∷ cs)) (sym (eqb-true c 95 u)) (digits_written cs more)
    ]

decimal_written : (cs : List ℕ) → IsDigits cs → float_digits cs ≡ without_underscores cs
decimal_written cs is = digits_written cs (sym (decimal_parts cs) ∙ is.1)

pub whole_to : (cs after : List ℕ) → IsDigits cs → Means dec_literal cs after (float_digits cs)
whole_to cs after is = subst (λ v. Means dec_literal cs after v) (sym (decimal_written cs is)) (dec_to cs after is)

pub whole_from : (text after value : List ℕ) → Means dec_literal text after value → IsDigits text × (value ≡ float_digits text)
whole_from text after value m =
    let (is, v) = dec_from text after value m in
    (is, v ∙ sym (decimal_written text is))

-- ---- exponents

abbrev pub letter : Rule
letter = any_of (codes "e") ∣ As (λ v. 101 ∷ []) (Text (codes "E"))

abbrev pub sign : Rule
sign = maybe (Text (codes "+") ∣ any_of (codes "-"))

pub letter_to : (c : ℕ) (after : List ℕ) → is_e c ≡ true → Means letter (c ∷ []) after (float_digits (c ∷ []))
letter_to c after h =
    elim (or_cases (eqb c 101) (eqb c 69) h) [
      | inl e ↦ subst (λ k. Means letter (k ∷ []) after (float_digits (k ∷ []))) (sym (eqb-true c 101 e)) (inl (101, refl, refl, refl))
      | inr e ↦ subst (λ k. Means letter (k ∷ []) after (float_digits (k ∷ []))) (sym (eqb-true c 69 e)) (inr ([], (refl, refl), refl))
    ]

pub letter_from : (text after value : List ℕ) → Means letter text after value
    → (c : ℕ) × (is_e c ≡ true) × (text ≡ c ∷ []) × (value ≡ float_digits (c ∷ []))
letter_from text after value (inl (c, is, t, v)) =
    let e = eqb-true c 101 (alone (eqb c 101) is) in
    (101, refl, t ∙ ap (λ k. k ∷ []) e, v ∙ ap (λ k. k ∷ []) e)
letter_from text after value (inr (x, (t, y), v)) = (69, refl, t, v)

abbrev pub IsSign : List ℕ → Type 0
IsSign s = (s ≡ []) ⊎ ((s ≡ 43 ∷ []) ⊎ (s ≡ 45 ∷ []))

pub sign_to : (s after : List ℕ) → IsSign s → Means sign s after (float_digits s)
sign_to s after (inl e) = subst (λ k. Means sign k after (float_digits k)) (sym e) (inl (refl, refl))
sign_to s after (inr (inl e)) = subst (λ k. Means sign k after (float_digits k)) (sym e) (inr (inl (refl, refl)))
sign_to s after (inr (inr e)) = subst (λ k. Means sign k after (float_digits k)) (sym e) (inr (inr (45, refl, refl, refl)))

pub sign_from : (text after value : List ℕ) → Means sign text after value → IsSign text × (value ≡ float_digits text)
sign_from text after value (inl (t, v)) = (inl t, v ∙ ap float_digits (sym t))
sign_from text after value (inr (inl (t, v))) = (inr (inl t), v ∙ ap float_digits (sym t))
sign_from text after value (inr (inr (c, is, t, v))) =
    let e = eqb-true c 45 (alone (eqb c 45) is) in
    let t_is : text ≡ 45 ∷ [] = t ∙ ap (λ k. k ∷ []) e in
    (inr (inr t_is), v ∙ ap (λ k. k ∷ []) e ∙ ap float_digits (sym t_is))

exponent_to : (e after : List ℕ) → IsStrictExponent e → Means float_exponent e after (float_digits e)
exponent_to e after s =
    let all = sym (decimal_parts s.run) ∙ s.each in
    let any = any_same (of_base 10) is_ascii_digit (λ c. sym (digit_is_ten c)) s.run ∙ s.some in
    let run = subst (λ v. Means (some_digits 10) s.run after v) (sym (digits_written s.run all)) (some_to 10 s.run after refl all any) in
    subst (λ k. Means float_exponent k after (float_digits k)) (sym s.text) (
      s.letter ∷ [],
      s.sign ++ s.run,
      float_digits (s.letter ∷ []),
      float_digits (s.sign ++ s.run),
      refl,
      digits_joined (s.letter ∷ []) (s.sign ++ s.run),
      letter_to s.letter (s.sign ++ s.run ++ after) s.is_letter,
      (
        s.sign,
        s.run,
        float_digits s.sign,
        float_digits s.run,
        refl,
        digits_joined s.sign s.run,
        sign_to s.sign (s.run ++ after) s.is_sign,
        run,
      ),
    )

exponent_from : (text after value : List ℕ) → Means float_exponent text after value
    → IsStrictExponent text × (value ≡ float_digits text)
exponent_from text after value (a, w, p, q, text_is, value_is, first, (b, d, r, z, w_is, q_is, second, third)) =
    let (c, is, a_is, p_is) = letter_from a (w ++ after) p first in
    let (is_sign, r_is) = sign_from b (d ++ after) r second in
    let (all, any, z_is) = some_from 10 d after z refl third in
    let whole : text ≡ (c ∷ []) ++ (b ++ d) = text_is ∙ ap₂ (λ k l. k ++ l) a_is w_is in (
      record {
        letter = c;
        sign = b;
        run = d;
        is_letter = is;
        is_sign = is_sign;
        each = decimal_parts d ∙ all;
        some = any_same is_ascii_digit (of_base 10) digit_is_ten d ∙ any;
        text = whole;
      },
      value_is ∙ ap₂ (λ k l. k ++ l) p_is (q_is ∙ ap₂ (λ k l. k ++ l) r_is (z_is ∙ sym (digits_written d all)) ∙ sym (digits_joined b d))
          ∙ sym (digits_joined (c ∷ []) (b ++ d)) ∙ ap float_digits (sym whole),
    )

-- ---- floats

abbrev pub dot : Rule
dot = any_of (codes ".")

pub dot_from : (text after value : List ℕ) → Means dot text after value → (text ≡ 46 ∷ []) × (value ≡ 46 ∷ [])
dot_from text after value (c, is, t, v) =
    let e = eqb-true c 46 (alone (eqb c 46) is) in
    (t ∙ ap (λ k. k ∷ []) e, v ∙ ap (λ k. k ∷ []) e)

abbrev numerals : Rule
numerals =
    dec_literal ⋅ dot ⋅ end ∣ dec_literal ⋅ dot ⋅ dec_literal ⋅ Unless (any_of (codes "eE"))
    ∣ dec_literal ⋅ maybe (dot ⋅ dec_literal) ⋅ float_exponent

abbrev IsNumeral : List ℕ → List ℕ → Type 0
IsNumeral numeral x = IsDotAlone numeral x ⊎ (IsPointed numeral x ⊎ IsScientific numeral x)

pub among_e : (c : ℕ) → is_e c ≡ is_among (codes "eE") c
among_e c = or_same (eqb c 101) (eqb c 69 ∷ [])

numeral_to : (t x : List ℕ) → IsNumeral t x → Means numerals t x (float_digits t)
numeral_to t x (inl (d, is, t_is, x_is)) =
    subst (λ k. Means numerals k x (float_digits k)) (sym t_is) (inl (
      d,
      46 ∷ [],
      float_digits d,
      46 ∷ [],
      refl,
      digits_joined d (46 ∷ []),
      whole_to d (46 ∷ x) is,
      unless_then dot (One (λ c. true)) (46 ∷ []) x (46 ∷ []) (46, refl, refl, refl)
          (none_passes (λ c. true) x (ap (first_passes (λ c. true)) x_is)),
    ))
numeral_to t x (inr (inl (d, f, is_d, is_f, t_is, none))) =
    subst (λ k. Means numerals k x (float_digits k)) (sym t_is) (inr (inl (
      d,
      46 ∷ f,
      float_digits d,
      46 ∷ float_digits f,
      refl,
      digits_joined d (46 ∷ f),
      whole_to d (46 ∷ f ++ x) is_d,
      (
        46 ∷ [],
        f,
        46 ∷ [],
        float_digits f,
        refl,
        refl,
        (46, refl, refl, refl),
        unless_then dec_literal (any_of (codes "eE")) f x (float_digits f) (whole_to f x is_f)
            (none_passes (is_among (codes "eE")) x (sym (passes_same is_e (is_among (codes "eE")) among_e x) ∙ none)),
      ),
    )))
numeral_to t x (inr (inr (d, e, is_d, is_e, inl t_is))) =
    subst (λ k. Means numerals k x (float_digits k)) (sym t_is) (inr (inr (
      d,
      e,
      float_digits d,
      float_digits e,
      refl,
      digits_joined d e,
      whole_to d (e ++ x) is_d,
      ([], e, [], float_digits e, refl, refl, inl (refl, refl), exponent_to e x is_e),
    )))
numeral_to t x (inr (inr (d, e, is_d, is_e, inr (f, is_f, t_is)))) =
    subst (λ k. Means numerals k x (float_digits k)) (sym t_is) (inr (inr (
      d,
      46 ∷ (f ++ e),
      float_digits d,
      46 ∷ float_digits (f ++ e),
      append_assoc d (46 ∷ f) e,
      ap float_digits (append_assoc d (46 ∷ f) e) ∙ digits_joined d (46 ∷ (f ++ e)),
      whole_to d (46 ∷ (f ++ e) ++ x) is_d,
      (
        46 ∷ f,
        e,
        46 ∷ float_digits f,
        float_digits e,
        refl,
        ap (λ k. 46 ∷ k) (digits_joined f e),
        inr (46 ∷ [], f, 46 ∷ [], float_digits f, refl, refl, (46, refl, refl, refl), whole_to f (e ++ x) is_f),
        exponent_to e x is_e,
      ),
    )))

numeral_from : (t x v : List ℕ) → Means numerals t x v → IsNumeral t x × (v ≡ float_digits t)
numeral_from t x v (inl (d, w, p, q, t_is, v_is, m, rest)) =
    let (is, p_is) = whole_from d (w ++ x) p m in
    let (point, none) = then_unless dot (One (λ c. true)) w x q rest in
    let (w_is, q_is) = dot_from w x q point in
    let whole : t ≡ d ++ (46 ∷ []) = t_is ∙ ap (λ k. d ++ k) w_is in (
      inl (d, is, whole, (at_end [] x [] (refl, refl, none)).1),
      v_is ∙ ap₂ (λ k l. k ++ l) p_is q_is ∙ sym (digits_joined d (46 ∷ [])) ∙ ap float_digits (sym whole),
    )
numeral_from t x v (inr (inl (d, w, p, q, t_is, v_is, m, (b, f, r, s, w_is, q_is, point, rest)))) =
    let (is_d, p_is) = whole_from d (w ++ x) p m in
    let (b_is, r_is) = dot_from b (f ++ x) r point in
    let (more, none) = then_unless dec_literal (any_of (codes "eE")) f x s rest in
    let (is_f, s_is) = whole_from f x s more in
    let whole : t ≡ d ++ (46 ∷ f) = t_is ∙ ap (λ k. d ++ k) (w_is ∙ ap (λ k. k ++ f) b_is) in (
      inr (inl (d, f, is_d, is_f, whole, passes_same is_e (is_among (codes "eE")) among_e x ∙ passes_none (is_among (codes "eE")) x none)),
      v_is ∙ ap₂ (λ k l. k ++ l) p_is (q_is ∙ ap₂ (λ k l. k ++ l) r_is s_is) ∙ sym (digits_joined d (46 ∷ f)) ∙ ap float_digits (sym whole),
    )
numeral_from t x v (inr (inr (d, w, p, q, t_is, v_is, m, (b, e, r, s, w_is, q_is, middle, last)))) =
    let (is_d, p_is) = whole_from d (w ++ x) p m in
    let (is_e, s_is) = exponent_from e x s last in
    go is_d p_is is_e s_is middle
  where
    go : IsDigits d → p ≡ float_digits d → IsStrictExponent e → s ≡ float_digits e
        → Means (maybe (dot ⋅ dec_literal)) b (e ++ x) r → IsNumeral t x × (v ≡ float_digits t)
    go is_d p_is is_e s_is (inl (b_is, r_is)) =
        let whole : t ≡ d ++ e = t_is ∙ ap (λ k. d ++ k) (w_is ∙ ap (λ k. k ++ e) b_is) in (
          inr (inr (d, e, is_d, is_e, inl whole)),
          v_is ∙ ap₂ (λ k l. k ++ l) p_is (q_is ∙ ap₂ (λ k l. k ++ l) r_is s_is) ∙ sym (digits_joined d e) ∙ ap float_digits (sym whole),
        )
    go is_d p_is is_e s_is (inr (o, f, y, z, b_is, r_is, point, more)) =
        let (o_is, y_is) = dot_from o (f ++ (e ++ x)) y point in
        let (is_f, z_is) = whole_from f (e ++ x) z more in
        let whole : t ≡ d ++ (46 ∷ (f ++ e)) = t_is ∙ ap (λ k. d ++ k) (w_is ∙ ap (λ k. k ++ e) (b_is ∙ ap (λ k. k ++ f) o_is)) in
        let text : t ≡ (d ++ (46 ∷ f)) ++ e = whole ∙ sym (append_assoc d (46 ∷ f) e) in
        let tail : q ≡ 46 ∷ float_digits (f ++ e) = q_is ∙ ap₂ (λ k l. k ++ l) (r_is ∙ ap₂ (λ k l. k ++ l) y_is z_is) s_is ∙ ap (λ k. 46 ∷ k) (sym (digits_joined f e)) in (
          inr (inr (d, e, is_d, is_e, inr (f, is_f, text))),
          v_is ∙ ap₂ (λ k l. k ++ l) p_is tail ∙ sym (digits_joined d (46 ∷ (f ++ e))) ∙ ap float_digits (sym whole),
        )

abbrev ended : Rule
ended = numerals ⋅ Unless (any_of (codes "_"))

pub underscores : (x : List ℕ) → begins_char 95 x ≡ first_passes (is_among (codes "_")) x
underscores x = passes_same (λ c. eqb c 95) (is_among (codes "_")) (λ c. or_same (eqb c 95) []) x

float_to : (text : List ℕ) (contents : Contents) (x : List ℕ) → StrictFloat text contents x → By Float float_literal text contents x
float_to text contents x s =
    let value = float_digits s.numeral in
    record {
      body = s.numeral;
      value = value;
      text_is = s.text;
      is_body = unless_before ended prefixes s.numeral x value (subst (NoneAt prefixes) s.text (no_prefix_to text s.no_prefix))
          (unless_then numerals (any_of (codes "_")) s.numeral x value (numeral_to s.numeral x s.form)
          (none_passes (is_among (codes "_")) x (sym (underscores x) ∙ s.suffix.1)));
      is_suffix = suffix_to x s.suffix.0;
      contents_is = s.contents;
    }

float_from : (text : List ℕ) (contents : Contents) (x : List ℕ) → By Float float_literal text contents x → StrictFloat text contents x
float_from text contents x l =
    let (none, rest) = before_unless ended prefixes l.body x l.value l.is_body in
    let (m, no_underscore) = then_unless numerals (any_of (codes "_")) l.body x l.value rest in
    let (form, value_is) = numeral_from l.body x l.value m in
    record {
      numeral = l.body;
      form = form;
      no_prefix = no_prefix_from text (subst (NoneAt prefixes) (sym l.text_is) none);
      suffix = (suffix_from x l.is_suffix.0 l.is_suffix.1, underscores x ∙ passes_none (is_among (codes "_")) x no_underscore);
      text = l.text_is;
      contents = l.contents_is ∙ ap Digits value_is;
    }

pub float_rule : (text : List ℕ) (contents : Contents) (x : List ℕ) → StrictFloat text contents x ↔ By Float float_literal text contents x
float_rule text contents x = (float_to text contents x, float_from text contents x)
