-- A rewritten float has the value and the suffix of the old one, except for an added zero.
use Rattle.rl_syntax.proofs.Common.{◌≡◌, ◌⊎◌, ℕ, ◌||◌, Bool, true, false, not, ◌==◌, cond, List, [], ◌∷◌, ◌++◌, map, refl, sym, ap, subst, ◌∙◌, inl, inr, ◌&&◌, append_assoc, append-nil, cases_Bool, append_cancel_right, map-append, list_all, list_any, list_all-append, and_from, or_cases, eqb-true, is_ascii_digit, flat_map, Some, None}
use Rattle.std.specs.Prelude.{Option, filter}
use Rattle.std.proofs.lemmas.List.Elements.{filter-append}
use Rattle.rl_syntax.specs.Texts.{is_run_part}
use Rattle.rl_syntax.proofs.Basics.{apart}
use Rattle.rl_lenient.proofs.Names.{flat_map-append}
use Rattle.rl_syntax.specs.declared.kind.Kind.TheVariants.{Float}
use Rattle.rl_syntax.specs.Reading.{Contents, Digits}
use Rattle.rl_syntax.specs.Strict.{IsDecimalText, IsDigits, IsStrictExponent, StrictFloat}
use Rattle.rl_style.specs.declared.style.Case.{Case}
use Rattle.rl_style.specs.declared.style.Case.TheVariants.{Lower, Upper}
use Rattle.rl_style.specs.declared.style.Style.{Style}
use Rattle.rl_style.specs.declared.style.Separator.{Separator}
use Rattle.rl_style.specs.declared.style.Separator.TheVariants.{Nothing, Underscore}
use Rattle.rl_style.specs.Cases.{drops_underscores, kept_run, number_character, separator, separator_by, trimmed, trims_by}
use Rattle.rl_syntax.specs.Classes.{after_run}
use Rattle.rl_style.specs.Groups.{digit_run, float_in_groups, least_by, size_by}
use Rattle.rl_style.specs.Mistyped.{is_mistyped_float}
use Rattle.rl_style.specs.Rewriting.{GetsZero, KeepsFloat, SameLiteral, SameNumber, RewritesFloat, StylesFloat, styled_numeral}
use Rattle.rl_syntax.proofs.OneQuoted.{same_tail}
use Rattle.rl_lexer.proofs.LexemeRows.{not_among}
use Rattle.rl_style.proofs.GroupRows.{plus_free}
use Rattle.rl_style.proofs.Regrouped.{again_grouped, grouped_kept, grouped_one, grouped_trim, plain_of}
use Rattle.rl_style.proofs.NumberCharacters.{becomes, by_character, decimal_by, digits_some, keeps_of, row_stays, stays, twice}
use Rattle.rl_style.proofs.Trimmed.{IsTrim, any_left, digits_join, mapped_trim, only, only_join, row_again, separator_all, separator_gone, some_not_only, trimmed_again, trimmed_all, trimmed_digits, trimmed_filter, trimmed_join, trimmed_some}
use Rattle.rl_style.proofs.FloatForms.{Letter, lower_e, upper_e, exponent_is, DotShape, PointShape, PowerShape, FloatForm, FloatShape, shape_of, closed_shape, Groups, at_dot, at_point, at_power, at_point_power, Numeral, row_is, form_is}

-- ---- a float without the underscores at its end is a float, also with an underscore before its suffix

-- The text of a float before its suffix. The float has the form `shape`.
pub record Shaped (numeral x : List ℕ) (shape : FloatShape) : Type 0 where
  pub form : FloatForm numeral x
  pub same_shape : shape_of numeral x form ≡ shape

digits_some_only : (z : List ℕ) → IsDigits z → only z ≡ false
digits_some_only [] h = absurd (let e : false ≡ true = h.0 in cc)
digits_some_only (c ∷ cs) h = ap (λ b. b && only cs) (not_among c 95 is_ascii_digit h.0 refl)

letter_only : (c : ℕ) (cs : List ℕ) → (c == 101 || c == 69) ≡ true → only (c ∷ cs) ≡ false
letter_only c cs h = ap (λ b. b && only cs) (apart (λ d. d == 101 || d == 69) c 95 h refl)

-- An exponent without the underscores at its end consists of its letter, its sign, and its digits without these underscores.
exponent_row : (e : List ℕ) → (s : IsStrictExponent e) → trimmed e ≡ s.letter ∷ (s.sign ++ trimmed s.run)
exponent_row e s =
    let some : only s.run ≡ false = some_not_only is_ascii_digit s.run refl s.some in
    ap trimmed s.text ∙ trimmed_join (s.letter ∷ s.sign) s.run some

exponent_trims : (e : List ℕ) → IsStrictExponent e → IsStrictExponent (trimmed e)
exponent_trims e s = record {
  letter = s.letter;
  sign = s.sign;
  run = trimmed s.run;
  is_letter = s.is_letter;
  is_sign = s.is_sign;
  each = trimmed_all (is_run_part is_ascii_digit) s.run s.each;
  some = trimmed_some is_ascii_digit s.run refl ∙ s.some;
  text = exponent_row e s;
}

exponent_only : (e : List ℕ) → IsStrictExponent e → only e ≡ false
exponent_only e s = ap only s.text ∙ letter_only s.letter (s.sign ++ s.run) s.is_letter

trimmed_form : (numeral x : List ℕ) (form : FloatForm numeral x) → Shaped (trimmed numeral) x (shape_of numeral x form)
trimmed_form numeral x (inl (d, h, e, n)) = record {
  form = inl (d, h, ap trimmed e ∙ trimmed_join d (46 ∷ []) refl, n);
  same_shape = refl;
}
trimmed_form numeral x (inr (inl (d, z, h, k, e, n))) = record {
  form = inr (inl (
    d,
    trimmed z,
    h,
    trimmed_digits z k,
    ap trimmed e ∙ trimmed_join d (46 ∷ z) refl,
    n,
  ));
  same_shape = refl;
}
trimmed_form numeral x (inr (inr (d, e, h, s, inl n))) = record {
  form = inr (inr (d, trimmed e, h, exponent_trims e s, inl (ap trimmed n ∙ trimmed_join d e (exponent_only e s))));
  same_shape = refl;
}
trimmed_form numeral x (inr (inr (d, e, h, s, inr (z, k, n)))) = record {
  form = inr (inr (
    d,
    trimmed e,
    h,
    exponent_trims e s,
    inr (z, k, ap trimmed n ∙ trimmed_join (d ++ (46 ∷ z)) e (exponent_only e s)),
  ));
  same_shape = refl;
}

pub kept_form : (style : Style) (numeral x : List ℕ) (form : FloatForm numeral x) → Shaped (kept_run style x numeral) x
    (shape_of numeral x form)
kept_form style numeral x form = go (trims_by style.suffix_separator x)
  where
    go : (b : Bool) → Shaped (cond b (trimmed numeral) numeral) x (shape_of numeral x form)
    go true = trimmed_form numeral x form
    go false = record { form = form; same_shape = refl }

-- If digits or underscores are appended to an exponent, the result is an exponent.
exponent_more : (e s : List ℕ) → IsStrictExponent e → list_all (is_run_part is_ascii_digit) s ≡ true
    → IsStrictExponent (e ++ s)
exponent_more e s p h = record {
  letter = p.letter;
  sign = p.sign;
  run = p.run ++ s;
  is_letter = p.is_letter;
  is_sign = p.is_sign;
  each = list_all-append (is_run_part is_ascii_digit) p.run s ∙ and_from _ _ p.each h;
  some = any_left is_ascii_digit p.run s p.some;
  text = ap (λ z. z ++ s) p.text ∙ ap (λ z. p.letter ∷ z) (append_assoc p.sign p.run s);
}

more_form : (numeral x s : List ℕ) (form : FloatForm numeral x) → list_all (is_run_part is_ascii_digit) s ≡ true
    → (x ≡ [] → s ≡ []) → Shaped (numeral ++ s) x (shape_of numeral x form)
more_form numeral x s (inl (d, h, e, n)) all none = record {
  form = inl (d, h, ap (λ z. numeral ++ z) (none n) ∙ append-nil numeral ∙ e, n);
  same_shape = refl;
}
more_form numeral x s (inr (inl (d, z, h, k, e, n))) all none = record {
  form = inr (inl (
    d,
    z ++ s,
    h,
    digits_join z s k all,
    ap (λ y. y ++ s) e ∙ append_assoc d (46 ∷ z) s,
    n,
  ));
  same_shape = refl;
}
more_form numeral x s (inr (inr (d, e, h, p, inl n))) all none = record {
  form = inr (inr (d, e ++ s, h, exponent_more e s p all, inl (ap (λ y. y ++ s) n ∙ append_assoc d e s)));
  same_shape = refl;
}
more_form numeral x s (inr (inr (d, e, h, p, inr (z, k, n)))) all none = record {
  form = inr (inr (
    d,
    e ++ s,
    h,
    exponent_more e s p all,
    inr (z, k, ap (λ y. y ++ s) n ∙ append_assoc (d ++ (46 ∷ z)) e s),
  ));
  same_shape = refl;
}

no_separator : (s : Option Separator) (x : List ℕ) → x ≡ [] → separator_by s x ≡ []
no_separator None x e = refl
no_separator (Some Nothing) x e = refl
no_separator (Some Underscore) x e = ap (separator_by (Some Underscore)) e

-- ---- the value of a rewritten float

abbrev pub spelled : List ℕ → List ℕ
spelled cs = map (λ c. cond (c == 69) 101 c) (filter (λ c. not (c == 95 || c == 43)) cs)

-- The old text is the character `c` and the text `b`. The new text is the new form of `c` and the text `a`. The two texts
-- have equal values.
abbrev More : Bool → Bool → Option Case → Option Case → List ℕ → List ℕ → ℕ → Type 0
More drops plus digits letter a b c = spelled (becomes drops false plus digits letter c ++ a) ≡ spelled (c ∷ b)

more : (drops plus : Bool) (digits letter : Option Case) (c : ℕ) (a b : List ℕ)
    → becomes drops false plus digits letter c ≡ c ∷ [] → spelled a ≡ spelled b → More drops plus digits letter a b c
more drops plus digits letter c a b e same =
    ap (λ z. spelled (z ++ a)) e ∙ kept (not (c == 95 || c == 43)) same
  where
    kept : (k : Bool) → spelled a ≡ spelled b
        → map (λ c. cond (c == 69) 101 c) (cond k (c ∷ filter (λ c. not (c == 95 || c == 43)) a)
        (filter (λ c. not (c == 95 || c == 43)) a))
        ≡ map (λ c. cond (c == 69) 101 c) (cond k (c ∷ filter (λ c. not (c == 95 || c == 43)) b)
        (filter (λ c. not (c == 95 || c == 43)) b))
    kept true s = ap (λ z. cond (c == 69) 101 c ∷ z) s
    kept false s = s

more_under : (drops plus : Bool) (digits letter : Option Case) (a b : List ℕ) → spelled a ≡ spelled b
    → More drops plus digits letter a b 95
more_under true plus digits letter a b s = s
more_under false true digits None a b s = s
more_under false true digits (Some Lower) a b s = s
more_under false true digits (Some Upper) a b s = s
more_under false false digits None a b s = s
more_under false false digits (Some Lower) a b s = s
more_under false false digits (Some Upper) a b s = s

more_plus : (drops plus : Bool) (digits letter : Option Case) (a b : List ℕ) → spelled a ≡ spelled b
    → More drops plus digits letter a b 43
more_plus true true digits letter a b s = s
more_plus false true digits letter a b s = s
more_plus true false digits None a b s = s
more_plus true false digits (Some Lower) a b s = s
more_plus true false digits (Some Upper) a b s = s
more_plus false false digits None a b s = s
more_plus false false digits (Some Lower) a b s = s
more_plus false false digits (Some Upper) a b s = s

-- If the letter of an exponent is rewritten in lower or upper case, the exponent keeps its value.
more_letter : (drops plus : Bool) (digits letter : Option Case) (c : ℕ) (a b : List ℕ) → spelled (c ∷ b)
    ≡ 101 ∷ spelled b
    → (l : Letter drops plus digits letter c) → spelled a ≡ spelled b → More drops plus digits letter a b c
more_letter drops plus digits letter c a b e l s =
    ap (λ z. spelled (z ++ a)) l.is ∙ both l.new l.is_letter ∙ ap (λ z. 101 ∷ z) s ∙ sym e
  where
    At : ℕ → Type 0
    At d = spelled (d ∷ a) ≡ 101 ∷ spelled a

    both : (d : ℕ) → (d == 101 || d == 69) ≡ true → spelled (d ∷ a) ≡ 101 ∷ spelled a
    both d h =
        elim (or_cases (d == 101) (d == 69) h) [
          | inl q ↦ ap (λ z. spelled (z ∷ a)) (eqb-true d 101 q)
          | inr q ↦ ap (λ z. spelled (z ∷ a)) (eqb-true d 69 q)
        ]

pub spelled_same : (drops plus : Bool) (digits letter : Option Case) (cs : List ℕ)
    → spelled (flat_map (becomes drops false plus digits letter) cs) ≡ spelled cs
spelled_same drops plus digits letter [] = refl
spelled_same drops plus digits letter (c ∷ cs) =
    let a : List ℕ = flat_map (becomes drops false plus digits letter) cs in
    let same = spelled_same drops plus digits letter cs in
    by_character (More drops plus digits letter a cs) c (more_under drops plus digits letter a cs same)
    (more_plus drops plus digits letter a cs same)
    (more_letter drops plus digits letter 69 a cs refl (upper_e drops plus digits letter) same)
    (more_letter drops plus digits letter 101 a cs refl (lower_e drops plus digits letter) same)
    (λ n p u l. more drops plus digits letter c a cs (stays drops plus digits letter c n p u l) same)

spelled_join : (a b : List ℕ) → spelled (a ++ b) ≡ spelled a ++ spelled b
spelled_join a b = ap (map (λ c. cond (c == 69) 101 c)) (filter-append (λ c. not (c == 95 || c == 43)) a b)
    ∙ map-append (λ c. cond (c == 69) 101 c) (filter (λ c. not (c == 95 || c == 43)) a)
    (filter (λ c. not (c == 95 || c == 43)) b)

spelled_more : (c : ℕ) (a b : List ℕ) → spelled a ≡ spelled b → spelled (c ∷ a) ≡ spelled (c ∷ b)
spelled_more c a b same = spelled_join (c ∷ []) a ∙ ap (λ z. spelled (c ∷ []) ++ z) same ∙ sym (spelled_join (c ∷ []) b)

pub run_joined : (cs : List ℕ) → digit_run cs ++ after_run (is_run_part is_ascii_digit) cs ≡ cs
run_joined [] = refl
run_joined (c ∷ cs) = go (is_run_part is_ascii_digit c) (run_joined cs)
  where
    go : (b : Bool) → digit_run cs ++ after_run (is_run_part is_ascii_digit) cs ≡ cs
        → cond b (c ∷ digit_run cs) [] ++ cond b (after_run (is_run_part is_ascii_digit) cs) (c ∷ cs) ≡ c ∷ cs
    go true h = ap (λ z. c ∷ z) h
    go false h = refl

run_digits : (cs : List ℕ) → list_all (is_run_part is_ascii_digit) (digit_run cs) ≡ true
run_digits [] = refl
run_digits (c ∷ cs) = go (is_run_part is_ascii_digit c) refl (run_digits cs)
  where
    go : (b : Bool) → is_run_part is_ascii_digit c ≡ b → list_all (is_run_part is_ascii_digit) (digit_run cs) ≡ true
        → list_all (is_run_part is_ascii_digit) (cond b (c ∷ digit_run cs) []) ≡ true
    go true h more = and_from (is_run_part is_ascii_digit c) (list_all (is_run_part is_ascii_digit) (digit_run cs)) h
        more
    go false h more = refl

-- The text `cs` is divided into `front` and the text after the leading digits of `cs`. So `front` consists of these digits,
-- and contains no plus.
pub run_cut : (cs front rest : List ℕ) → cs ≡ front ++ rest → rest ≡ after_run (is_run_part is_ascii_digit) cs
    → (front ≡ digit_run cs) × (list_all (λ c. not (c == 43)) front ≡ true)
run_cut cs front rest cut is =
    let same : front ≡ digit_run cs = append_cancel_right front (digit_run cs) rest
    (sym cut ∙ sym (run_joined cs) ∙ ap (λ z. digit_run cs ++ z) (sym is)) in (
      same,
      plus_free (is_run_part is_ascii_digit) front refl
          (ap (list_all (is_run_part is_ascii_digit)) same ∙ run_digits cs),
    )

spelled_row : (drops plus : Bool) (digits letter : Option Case) (from_first : Bool) (size least : ℕ) (cs : List ℕ)
    → spelled (Groups size least from_first (flat_map (becomes drops false plus digits letter) cs)) ≡ spelled cs
spelled_row drops plus digits letter from_first size least cs =
    ap (map (λ c. cond (c == 69) 101 c)) (grouped_kept (λ c. not (c == 95 || c == 43)) from_first size least
    (flat_map (becomes drops false plus digits letter) cs) refl) ∙ spelled_same drops plus digits letter cs

-- The zero that the style adds to a float that ends with its dot, or nothing.
abbrev pub added : FloatShape → Bool → List ℕ
added DotShape true = 48 ∷ []
added DotShape false = []
added PointShape closes = []
added PowerShape closes = []

added_none : (shape : FloatShape) → added shape false ≡ []
added_none DotShape = refl
added_none PointShape = refl
added_none PowerShape = refl

-- The whole part of a float is rewritten, and the text after the whole part gets further digits, for example an added zero.
-- The new value is the old value with these digits at its end.
spelled_at : (drops plus : Bool) (digits letter : Option Case) (size least : ℕ) (numeral new d z w extra : List ℕ)
    → new ≡ Groups size least false (flat_map (becomes drops false plus digits letter) d) ++ w → numeral ≡ d ++ z
    → spelled w ≡ spelled z ++ extra → spelled new ≡ spelled numeral ++ extra
spelled_at drops plus digits letter size least numeral new d z w extra is e same =
    let whole : List ℕ = Groups size least false (flat_map (becomes drops false plus digits letter) d) in
    ap spelled is ∙ spelled_join whole w
    ∙ ap (λ y. y ++ spelled w) (spelled_row drops plus digits letter false size least d)
    ∙ ap (λ y. spelled d ++ y) same ∙ sym (append_assoc (spelled d) (spelled z) extra)
    ∙ ap (λ y. y ++ extra) (sym (spelled_join d z) ∙ ap spelled (sym e))

spelled_numeral : (drops plus : Bool) (digits letter : Option Case) (closes : Bool) (size least : ℕ)
    (numeral x : List ℕ) (form : FloatForm numeral x)
    → spelled (float_in_groups closes (becomes drops false plus digits letter) (Groups size least) numeral)
    ≡ spelled numeral ++ added (shape_of numeral x form) closes
spelled_numeral drops plus digits letter true size least numeral x (inl (d, h, e, n)) =
    spelled_at drops plus digits letter size least numeral _ d (46 ∷ []) (46 ∷ 48 ∷ []) (48 ∷ [])
    (at_dot (becomes drops false plus digits letter) true size least numeral d h e) e refl
spelled_numeral drops plus digits letter false size least numeral x (inl (d, h, e, n)) =
    spelled_at drops plus digits letter size least numeral _ d (46 ∷ []) (46 ∷ []) []
    (at_dot (becomes drops false plus digits letter) false size least numeral d h e) e refl
spelled_numeral drops plus digits letter closes size least numeral x (inr (inl (d, z, h, k, e, n))) =
    let f : ℕ → List ℕ = becomes drops false plus digits letter in
    let fraction : List ℕ = Groups size least true (flat_map f z) in
    spelled_at drops plus digits letter size least numeral _ d (46 ∷ z) (46 ∷ fraction) []
    (at_point f closes size least numeral d z h k e) e
    (spelled_more 46 fraction z (spelled_row drops plus digits letter true size least z)
    ∙ sym (append-nil (spelled (46 ∷ z))))
spelled_numeral drops plus digits letter closes size least numeral x (inr (inr (d, e, h, s, inl n))) =
    let f : ℕ → List ℕ = becomes drops false plus digits letter in
    spelled_at drops plus digits letter size least numeral _ d e (flat_map f e) []
    (at_power f closes size least numeral d e h s n) n
    (spelled_same drops plus digits letter e ∙ sym (append-nil (spelled e)))
spelled_numeral drops plus digits letter closes size least numeral x (inr (inr (d, e, h, s, inr (z, k, n)))) =
    let f : ℕ → List ℕ = becomes drops false plus digits letter in
    let fraction : List ℕ = Groups size least true (flat_map f z) in
    let cut : numeral ≡ d ++ (46 ∷ (z ++ e)) = n ∙ append_assoc d (46 ∷ z) e in
    spelled_at drops plus digits letter size least numeral _ d (46 ∷ (z ++ e)) (46 ∷ (fraction ++ flat_map f e)) []
    (at_point_power f closes size least numeral d z e h k s cut) cut
    (spelled_more 46 (fraction ++ flat_map f e) (z ++ e) (spelled_join fraction (flat_map f e)
    ∙ ap (λ y. y ++ spelled (flat_map f e)) (spelled_row drops plus digits letter true size least z)
    ∙ ap (λ y. spelled z ++ y) (spelled_same drops plus digits letter e) ∙ sym (spelled_join z e))
    ∙ sym (append-nil (spelled (46 ∷ (z ++ e)))))

-- ---- the rewritten float

abbrev Size : Style → List ℕ → ℕ
Size style x = size_by style.digit_groups 10 x

abbrev Least : Style → ℕ
Least style = least_by style.digit_groups

-- The new text of a float before its suffix consists of a whole part of digits and of the text after the whole part
-- (`Numeral`). The form of the float changes only by an added zero.
pub kept_numeral : (style : Style) (numeral x : List ℕ) (form : FloatForm numeral x)
    → Numeral (styled_numeral style x numeral) x
    (closed_shape (shape_of (kept_run style x numeral) x (kept_form style numeral x form).form) style.float_zero)
kept_numeral style numeral x form = form_is (drops_underscores style x) style.exponent_plus style.hex_digits
    style.exponent_letter style.float_zero (Size style x) (Least style) (kept_run style x numeral) x
    (kept_form style numeral x form).form

pub new_form : (style : Style) (numeral x : List ℕ) (form : FloatForm numeral x)
    → Shaped (styled_numeral style x numeral ++ separator style x) x
    (closed_shape (shape_of numeral x form) style.float_zero)
new_form style numeral x form =
    let n = kept_numeral style numeral x form in
    let m = more_form (styled_numeral style x numeral) x (separator style x) n.form
    (separator_all is_ascii_digit style.suffix_separator x) (no_separator style.suffix_separator x) in
    record {
      form = m.form;
      same_shape = m.same_shape ∙ n.same_shape
          ∙ ap (λ shape. closed_shape shape style.float_zero) (kept_form style numeral x form).same_shape;
    }

spelled_kept : (style : Style) (x numeral : List ℕ) → spelled (kept_run style x numeral) ≡ spelled numeral
spelled_kept style x numeral = go (trims_by style.suffix_separator x)
  where
    go : (b : Bool) → spelled (cond b (trimmed numeral) numeral) ≡ spelled numeral
    go true = ap (map (λ c. cond (c == 69) 101 c)) (trimmed_filter (λ c. not (c == 95 || c == 43)) numeral refl)
    go false = refl

-- The value of the new float: the old value, and the zero that the style adds to a float that ends with its dot.
abbrev pub new_digits : Style → (numeral x : List ℕ) → FloatForm numeral x → List ℕ
new_digits style numeral x form = spelled numeral ++ added (shape_of numeral x form) style.float_zero

pub new_spelled : (style : Style) (numeral x : List ℕ) (form : FloatForm numeral x)
    → spelled (styled_numeral style x numeral ++ separator style x) ≡ new_digits style numeral x form
new_spelled style numeral x form =
    let kept = kept_form style numeral x form in
    ap (map (λ c. cond (c == 69) 101 c)) (separator_gone (λ c. not (c == 95 || c == 43)) style.suffix_separator x
    (styled_numeral style x numeral) refl)
    ∙ spelled_numeral (drops_underscores style x) style.exponent_plus style.hex_digits style.exponent_letter
    style.float_zero (Size style x) (Least style) (kept_run style x numeral) x kept.form
    ∙ ap (λ y. y ++ added (shape_of (kept_run style x numeral) x kept.form) style.float_zero)
    (spelled_kept style x numeral)
    ∙ ap (λ shape. spelled numeral ++ added shape style.float_zero) kept.same_shape

pub new_decimal : (style : Style) (numeral x : List ℕ) (form : FloatForm numeral x)
    → IsDecimalText (styled_numeral style x numeral ++ (separator style x ++ x))
new_decimal style numeral x form =
    let n = kept_numeral style numeral x form in
    let end : List ℕ = separator style x ++ x in
    subst IsDecimalText (sym (ap (λ z. z ++ end) n.new_is ∙ append_assoc n.whole n.new end))
    (decimal_by n.whole (n.new ++ end) n.are_digits (n.follows end))

abbrev pub written : (style : Style) (t u : List ℕ) (v : Contents) (x : List ℕ) (s : StrictFloat t v x)
    → u ≡ styled_numeral style x s.numeral ++ (separator style x ++ x)
    → StrictFloat u (Digits (new_digits style s.numeral x s.form)) x
written style t u v x s e = record {
  numeral = styled_numeral style x s.numeral ++ separator style x;
  form = (new_form style s.numeral x s.form).form;
  no_prefix = subst IsDecimalText (sym e) (new_decimal style s.numeral x s.form);
  suffix = s.suffix;
  text = e ∙ sym (append_assoc (styled_numeral style x s.numeral) (separator style x) x);
  contents = ap Digits (sym (new_spelled style s.numeral x s.form));
}

-- If the style adds no zero to floats that end with their dots, the new float has the old value.
digits_kept : (style : Style) (numeral x : List ℕ) (form : FloatForm numeral x) → style.float_zero ≡ false
    → new_digits style numeral x form ≡ spelled numeral
digits_kept style numeral x form off = ap (λ b. spelled numeral ++ added (shape_of numeral x form) b) off
    ∙ ap (λ z. spelled numeral ++ z) (added_none (shape_of numeral x form)) ∙ append-nil (spelled numeral)

kept_float : (t u : List ℕ) (c : KeepsFloat t u) → StrictFloat u c.contents c.suffix
kept_float t u c = subst (λ z. StrictFloat z c.contents c.suffix) (sym c.new_is) c.float

pub float_same : (style : Style) (t u : List ℕ) → style.float_zero ≡ false → RewritesFloat style t u → SameLiteral t u
float_same style t u off (inr c) = record {
  kind = Float;
  contents = c.contents;
  suffix = c.suffix;
  was = c.float;
  is = kept_float t u c;
}
float_same style t u off (inl c) =
    let same : Digits (new_digits style c.float.numeral c.suffix c.float.form) ≡ c.contents =
    ap Digits (digits_kept style c.float.numeral c.suffix c.float.form off) ∙ sym c.float.contents in
    record {
      kind = Float;
      contents = c.contents;
      suffix = c.suffix;
      was = c.float;
      is = subst (λ v. StrictFloat u v c.suffix) same (written style t u c.contents c.suffix c.float c.new_is);
    }

-- The value of the new float is the old one, or the old one with an added zero.
contents_kept : (style : Style) (v : Contents) (numeral x : List ℕ) (form : FloatForm numeral x)
    → v ≡ Digits (spelled numeral)
    → (Digits (new_digits style numeral x form) ≡ v)
    ⊎ ((Float ≡ Float) × GetsZero style v (Digits (new_digits style numeral x form)))
contents_kept style v numeral x (inl (d, h, e, n)) is =
    let cut : spelled numeral ≡ spelled d ++ (46 ∷ []) = ap spelled e ∙ spelled_join d (46 ∷ []) in
    elim (cases_Bool style.float_zero) [
      | inl on ↦ inr (
        refl,
        record {
          float_zero = on;
          digits = spelled d;
          old_is = is ∙ ap Digits cut;
          new_is = ap (λ b. Digits (spelled numeral ++ added DotShape b)) on
              ∙ ap (λ z. Digits (z ++ (48 ∷ []))) cut ∙ ap Digits (append_assoc (spelled d) (46 ∷ []) (48 ∷ []));
        },
      )
      | inr off ↦ inl (ap Digits (digits_kept style numeral x (inl (d, h, e, n)) off) ∙ sym is)
    ]
contents_kept style v numeral x (inr (inl a)) is = inl (ap Digits (append-nil (spelled numeral)) ∙ sym is)
contents_kept style v numeral x (inr (inr a)) is = inl (ap Digits (append-nil (spelled numeral)) ∙ sym is)

pub float_number : (style : Style) (t u : List ℕ) → RewritesFloat style t u → SameNumber style t u
float_number style t u (inr c) = record {
  kind = Float;
  contents = c.contents;
  new_contents = c.contents;
  suffix = c.suffix;
  was = c.float;
  is = kept_float t u c;
  keeps = inl refl;
}
float_number style t u (inl c) = record {
  kind = Float;
  contents = c.contents;
  new_contents = Digits (new_digits style c.float.numeral c.suffix c.float.form);
  suffix = c.suffix;
  was = c.float;
  is = written style t u c.contents c.suffix c.float c.new_is;
  keeps = contents_kept style c.contents c.float.numeral c.suffix c.float.form c.float.contents;
}

-- ---- if a float is rewritten again, nothing changes

-- The second part of a text contains a character other than an underscore. If the whole text has no underscores at its end,
-- the second part has none at its end.
tail_trims : (a b : List ℕ) → only b ≡ false → IsTrim (a ++ b) → IsTrim b
tail_trims a b n h = same_tail a (trimmed b) b (sym (trimmed_join a b n) ∙ h)

row_mapped : (drops plus : Bool) (digits letter : Option Case) (run : List ℕ)
    → list_all (is_run_part is_ascii_digit) run ≡ true → IsTrim run
    → IsTrim (flat_map (becomes drops false plus digits letter) run)
row_mapped drops plus digits letter run each h = mapped_trim (becomes drops false plus digits letter) run
    (keeps_of (becomes drops false plus digits letter) run
    (row_stays (is_run_part is_ascii_digit) drops plus digits letter run refl refl refl each)) h

some_mapped : (drops plus : Bool) (digits letter : Option Case) (run : List ℕ)
    → list_all (is_run_part is_ascii_digit) run ≡ true → list_any is_ascii_digit run ≡ true
    → only (flat_map (becomes drops false plus digits letter) run) ≡ false
some_mapped drops plus digits letter run each some = some_not_only is_ascii_digit
    (flat_map (becomes drops false plus digits letter) run) refl
    (digits_some (becomes drops false plus digits letter) run
    (row_stays (is_run_part is_ascii_digit) drops plus digits letter run refl refl refl each) ∙ some)

exponent_mapped : (drops plus : Bool) (digits letter : Option Case) (e : List ℕ) → IsStrictExponent e → IsTrim e
    → IsTrim (flat_map (becomes drops false plus digits letter) e)
    × (only (flat_map (becomes drops false plus digits letter) e) ≡ false)
exponent_mapped drops plus digits letter e s h =
    let f : ℕ → List ℕ = becomes drops false plus digits letter in
    let front : List ℕ = s.letter ∷ s.sign in
    let last : IsTrim s.run = tail_trims front s.run (some_not_only is_ascii_digit s.run refl s.some)
    (subst IsTrim s.text h) in
    let some : only (flat_map f s.run) ≡ false = some_mapped drops plus digits letter s.run s.each s.some in
    let is : flat_map f e ≡ flat_map f front ++ flat_map f s.run = ap (flat_map f) s.text
    ∙ flat_map-append f front s.run in (
      ap trimmed is ∙ trimmed_join (flat_map f front) (flat_map f s.run) some
          ∙ ap (λ z. flat_map f front ++ z) (row_mapped drops plus digits letter s.run s.each last) ∙ sym is,
      ap only is ∙ only_join (flat_map f front) (flat_map f s.run) some,
    )

row_trims : (drops plus : Bool) (digits letter : Option Case) (from_first : Bool) (size least : ℕ) (run : List ℕ)
    → list_all (is_run_part is_ascii_digit) run ≡ true → IsTrim run
    → IsTrim (Groups size least from_first (flat_map (becomes drops false plus digits letter) run))
row_trims drops plus digits letter from_first size least run each h = grouped_trim from_first size least
    (flat_map (becomes drops false plus digits letter) run) (row_mapped drops plus digits letter run each h)

form_trims : (drops plus : Bool) (digits letter : Option Case) (closes : Bool) (size least : ℕ) (numeral x : List ℕ)
    → FloatForm numeral x
    → IsTrim numeral → IsTrim (float_in_groups closes (becomes drops false plus digits letter) (Groups size least)
    numeral)
form_trims drops plus digits letter true size least numeral x (inl (d, h, e, n)) t =
    let f : ℕ → List ℕ = becomes drops false plus digits letter in
    let is = at_dot f true size least numeral d h e in
    ap trimmed is ∙ trimmed_join (Groups size least false (flat_map f d)) (46 ∷ 48 ∷ []) refl ∙ sym is
form_trims drops plus digits letter false size least numeral x (inl (d, h, e, n)) t =
    let f : ℕ → List ℕ = becomes drops false plus digits letter in
    let is = at_dot f false size least numeral d h e in
    ap trimmed is ∙ trimmed_join (Groups size least false (flat_map f d)) (46 ∷ []) refl ∙ sym is
form_trims drops plus digits letter closes size least numeral x (inr (inl (d, z, h, k, e, n))) t =
    let f : ℕ → List ℕ = becomes drops false plus digits letter in
    let is = at_point f closes size least numeral d z h k e in
    let last : IsTrim z = tail_trims (46 ∷ []) z (digits_some_only z k) (tail_trims d (46 ∷ z) refl (subst IsTrim e t))
    in
    ap trimmed is
    ∙ trimmed_join (Groups size least false (flat_map f d)) (46 ∷ Groups size least true (flat_map f z)) refl
    ∙ ap (λ y. Groups size least false (flat_map f d) ++ (46 ∷ y))
    (row_trims drops plus digits letter true size least z k.1 last) ∙ sym is
form_trims drops plus digits letter closes size least numeral x (inr (inr (d, e, h, s, inl n))) t =
    let f : ℕ → List ℕ = becomes drops false plus digits letter in
    let m = exponent_mapped drops plus digits letter e s (tail_trims d e (exponent_only e s) (subst IsTrim n t)) in
    let whole : List ℕ = Groups size least false (flat_map f d) in
    let is = at_power f closes size least numeral d e h s n in
    ap trimmed is ∙ trimmed_join whole (flat_map f e) m.1 ∙ ap (λ y. whole ++ y) m.0 ∙ sym is
form_trims drops plus digits letter closes size least numeral x (inr (inr (d, e, h, s, inr (z, k, n)))) t =
    let f : ℕ → List ℕ = becomes drops false plus digits letter in
    let m = exponent_mapped drops plus digits letter e s (tail_trims (d ++ (46 ∷ z)) e (exponent_only e s)
    (subst IsTrim n t)) in
    let front : List ℕ = Groups size least false (flat_map f d) ++ (46 ∷ Groups size least true (flat_map f z)) in
    let is : float_in_groups closes f (Groups size least) numeral ≡ front ++ flat_map f e =
    at_point_power f closes size least numeral d z e h k s (n ∙ append_assoc d (46 ∷ z) e)
    ∙ sym (append_assoc (Groups size least false (flat_map f d)) (46 ∷ Groups size least true (flat_map f z))
    (flat_map f e)) in
    ap trimmed is ∙ trimmed_join front (flat_map f e) m.1 ∙ ap (λ y. front ++ y) m.0 ∙ sym is

numeral_trims : (style : Style) (x numeral : List ℕ) → FloatForm numeral x → trims_by style.suffix_separator x ≡ true
    → IsTrim (styled_numeral style x numeral)
numeral_trims style x numeral form h =
    let kept : List ℕ = kept_run style x numeral in
    let short : IsTrim kept = subst IsTrim (sym (ap (λ b. cond b (trimmed numeral) numeral) h)) (trimmed_again numeral)
    in
    form_trims (drops_underscores style x) style.exponent_plus style.hex_digits style.exponent_letter style.float_zero
    (Size style x) (Least style) kept x (kept_form style numeral x form).form short

-- If a sequence of digits is rewritten and divided into groups twice, the second time changes nothing.
row_stays_so : (drops plus : Bool) (digits letter : Option Case) (from_first : Bool) (size least : ℕ) (d : List ℕ)
    → IsDigits d
    → Groups size least from_first (flat_map (becomes drops false plus digits letter)
    (Groups size least from_first (flat_map (becomes drops false plus digits letter) d)))
    ≡ Groups size least from_first (flat_map (becomes drops false plus digits letter) d)
row_stays_so drops plus digits letter from_first size least d h =
    let f : ℕ → List ℕ = becomes drops false plus digits letter in
    let new : List ℕ = Groups size least from_first (flat_map f d) in
    again_grouped drops false plus digits letter from_first size least (flat_map f d)
    (twice drops false plus digits letter d)
    (plain_of f new (keeps_of f new (row_stays (is_run_part is_ascii_digit) drops plus digits letter new refl refl refl
    (row_is drops plus digits letter from_first size least d h).1)))

numeral_stays : (drops plus : Bool) (digits letter : Option Case) (closes : Bool) (size least : ℕ) (numeral x : List ℕ)
    → FloatForm numeral x
    → float_in_groups closes (becomes drops false plus digits letter) (Groups size least)
    (float_in_groups closes (becomes drops false plus digits letter) (Groups size least) numeral)
    ≡ float_in_groups closes (becomes drops false plus digits letter) (Groups size least) numeral
numeral_stays drops plus digits letter true size least numeral x (inl (d, h, e, n)) =
    let f : ℕ → List ℕ = becomes drops false plus digits letter in
    let whole : List ℕ = Groups size least false (flat_map f d) in
    let is = at_dot f true size least numeral d h e in
    at_point f true size least _ whole (48 ∷ []) (row_is drops plus digits letter false size least d h) (refl, refl) is
    ∙ ap (λ y. y ++ (46 ∷ Groups size least true (flat_map f (48 ∷ []))))
    (row_stays_so drops plus digits letter false size least d h)
    ∙ ap (λ y. whole ++ (46 ∷ Groups size least true (y ++ []))) (stays drops plus digits letter 48 refl refl refl refl)
    ∙ ap (λ y. whole ++ (46 ∷ y)) (grouped_one true size least 48 refl) ∙ sym is
numeral_stays drops plus digits letter false size least numeral x (inl (d, h, e, n)) =
    let f : ℕ → List ℕ = becomes drops false plus digits letter in
    let whole : List ℕ = Groups size least false (flat_map f d) in
    let is = at_dot f false size least numeral d h e in
    at_dot f false size least _ whole (row_is drops plus digits letter false size least d h) is
    ∙ ap (λ y. y ++ (46 ∷ [])) (row_stays_so drops plus digits letter false size least d h) ∙ sym is
numeral_stays drops plus digits letter closes size least numeral x (inr (inl (d, z, h, k, e, n))) =
    let f : ℕ → List ℕ = becomes drops false plus digits letter in
    let whole : List ℕ = Groups size least false (flat_map f d) in
    let fraction : List ℕ = Groups size least true (flat_map f z) in
    let is = at_point f closes size least numeral d z h k e in
    at_point f closes size least _ whole fraction (row_is drops plus digits letter false size least d h)
    (row_is drops plus digits letter true size least z k) is
    ∙ ap (λ y. y ++ (46 ∷ Groups size least true (flat_map f fraction)))
    (row_stays_so drops plus digits letter false size least d h)
    ∙ ap (λ y. whole ++ (46 ∷ y)) (row_stays_so drops plus digits letter true size least z k) ∙ sym is
numeral_stays drops plus digits letter closes size least numeral x (inr (inr (d, e, h, s, inl n))) =
    let f : ℕ → List ℕ = becomes drops false plus digits letter in
    let whole : List ℕ = Groups size least false (flat_map f d) in
    let is = at_power f closes size least numeral d e h s n in
    at_power f closes size least _ whole (flat_map f e) (row_is drops plus digits letter false size least d h)
    (exponent_is drops plus digits letter e s).exponent is
    ∙ ap (λ y. y ++ flat_map f (flat_map f e)) (row_stays_so drops plus digits letter false size least d h)
    ∙ ap (λ y. whole ++ y) (twice drops false plus digits letter e) ∙ sym is
numeral_stays drops plus digits letter closes size least numeral x (inr (inr (d, e, h, s, inr (z, k, n)))) =
    let f : ℕ → List ℕ = becomes drops false plus digits letter in
    let whole : List ℕ = Groups size least false (flat_map f d) in
    let fraction : List ℕ = Groups size least true (flat_map f z) in
    let is = at_point_power f closes size least numeral d z e h k s (n ∙ append_assoc d (46 ∷ z) e) in
    at_point_power f closes size least _ whole fraction (flat_map f e)
    (row_is drops plus digits letter false size least d h)
    (row_is drops plus digits letter true size least z k) (exponent_is drops plus digits letter e s).exponent is
    ∙ ap (λ y. y ++ (46 ∷ (Groups size least true (flat_map f fraction) ++ flat_map f (flat_map f e))))
    (row_stays_so drops plus digits letter false size least d h)
    ∙ ap (λ y. whole ++ (46 ∷ (y ++ flat_map f (flat_map f e))))
    (row_stays_so drops plus digits letter true size least z k)
    ∙ ap (λ y. whole ++ (46 ∷ (fraction ++ y))) (twice drops false plus digits letter e) ∙ sym is

styled_stays : (style : Style) (t u : List ℕ) (c : StylesFloat style t u) → is_mistyped_float c.suffix u ≡ false
    → StylesFloat style u u
styled_stays style t u c exact =
    let x : List ℕ = c.suffix in
    let f : ℕ → List ℕ = number_character style (drops_underscores style x) false in
    let end : List ℕ = separator style x ++ x in
    let new : List ℕ = styled_numeral style x c.float.numeral in
    let same : kept_run style x (new ++ separator style x) ≡ new = row_again style.suffix_separator x new
    (numeral_trims style x c.float.numeral c.float.form) in
    let again : styled_numeral style x (new ++ separator style x) ≡ new =
    ap (float_in_groups style.float_zero f (Groups (Size style x) (Least style))) same
    ∙ numeral_stays (drops_underscores style x) style.exponent_plus style.hex_digits style.exponent_letter
    style.float_zero (Size style x) (Least style) (kept_run style x c.float.numeral) x
    (kept_form style c.float.numeral x c.float.form).form in
    record {
      contents = Digits (new_digits style c.float.numeral x c.float.form);
      suffix = x;
      float = written style t u c.contents x c.float c.new_is;
      exact = exact;
      new_is = c.new_is ∙ ap (λ z. z ++ end) (sym again);
    }

pub float_stays : (style : Style) (t u : List ℕ) → RewritesFloat style t u → RewritesFloat style u u
float_stays style t u (inl c) =
    elim (cases_Bool (is_mistyped_float c.suffix u)) [
      | inl mistyped ↦ inr (record {
        contents = Digits (new_digits style c.float.numeral c.suffix c.float.form);
        suffix = c.suffix;
        float = written style t u c.contents c.suffix c.float c.new_is;
        mistyped = mistyped;
        new_is = refl;
      })
      | inr exact ↦ inl (styled_stays style t u c exact)
    ]
float_stays style t u (inr c) = inr (record {
  contents = c.contents;
  suffix = c.suffix;
  float = kept_float t u c;
  mistyped = ap (is_mistyped_float c.suffix) c.new_is ∙ c.mistyped;
  new_is = refl;
})

-- The new text of a float has the form of the old one, except for an added zero.
pub same_shape : (style : Style) (t u : List ℕ) (v : Contents) (x : List ℕ) (s : StrictFloat t v x)
    → (e : u ≡ styled_numeral style x s.numeral ++ (separator style x ++ x))
    → shape_of (styled_numeral style x s.numeral ++ separator style x) x (written style t u v x s e).form
    ≡ closed_shape (shape_of s.numeral x s.form) style.float_zero
same_shape style t u v x s e = (new_form style s.numeral x s.form).same_shape
