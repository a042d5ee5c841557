-- A rewritten integer has the value and the suffix of the old one.
use Rattle.rl_syntax.proofs.Common.{◌≡◌, ℕ, ◌⊎◌, Bool, true, false, not, ◌==◌, ◌&&◌, ◌||◌, cond, nat_lt, List, [], ◌∷◌, ◌++◌, refl, sym, ap, subst, ◌∙◌, inl, inr, append_assoc, append-nil, list_all-append, and_from, and_parts, cases_Bool, digit_value, eqb-true, or_parts, is_ascii_digit, list_all, list_any, flat_map, Some, None}
use Rattle.std.specs.Prelude.{Option}
use Rattle.rl_syntax.specs.Texts.{first_passes, is_run_part}
use Rattle.rl_syntax.specs.declared.kind.Kind.TheVariants.{Int}
use Rattle.rl_syntax.specs.Reading.{Contents, Digits}
use Rattle.rl_syntax.specs.Strict.{BasedPrefix, IsDecimalText, IsDigits, StrictInt, dec}
use Rattle.rl_lexer.specs.Lexemes.{is_base_letter}
use Rattle.rl_style.specs.declared.style.Style.{Style}
use Rattle.rl_style.specs.Cases.{drops_underscores, drops_zeros, exceeds_octal, is_padding, kept_digits, kept_run, number_character, or_zero, separator, significant, trimmed, trims_by}
use Rattle.rl_syntax.specs.Classes.{after_run}
use Rattle.rl_style.specs.declared.style.DigitGroups.{DigitGroups}
use Rattle.rl_style.specs.Groups.{base_group, grouped_run, least_by, regrouped, size_by}
use Rattle.rl_style.specs.Mistyped.{is_mistyped}
use Rattle.rl_style.specs.Rewriting.{SameLiteral, KeepsInt, RewritesInt, StylesInt, styled_run}
use Rattle.rl_syntax.specs.Spelling.{place_value, without_underscores}
use Rattle.rl_style.proofs.LeadingZeros.{left, significant_again, significant_all, significant_any, significant_digits, significant_left, significant_none, significant_number, significant_some}
use Rattle.rl_style.proofs.CaseLemmas.{none_right}
use Rattle.rl_style.proofs.GroupRows.{plus_free}
use Rattle.rl_style.proofs.Regrouped.{again_grouped, grouped_all, grouped_any, grouped_digits, grouped_first, grouped_kept, grouped_one, grouped_some, grouped_trim, plain_of, ungrouped}
use Rattle.rl_style.proofs.Trimmed.{IsTrim, any_left, base_kept, digits_join, mapped_trim, row_again, separator_all, separator_gone, significant_trim, trimmed_again, trimmed_all, trimmed_digits, trimmed_filter, trimmed_some}
use Rattle.rl_style.proofs.NumberCharacters.{RowKeeps, RowStays, decimal_by, digits_stay, each_kept, hex_keeps, keeps_of, number_kept, of_base, row_kept, row_stays, some_kept, some_stays, stays, twice}

-- ---- the digits of an integer without leading zeros

abbrev row_of : ℕ → List ℕ → Type 0
row_of base run = list_all (is_run_part (of_base base)) run ≡ true

-- The sequence `kept` consists of digits and underscores, contains a digit, and represents the number that the sequence `run`
-- represents. If `run` is a sequence of decimal digits, so is `kept`.
pub record RowFacts (base : ℕ) (run kept : List ℕ) : Type 0 where
  pub each : row_of base kept
  pub some : list_any (of_base base) kept ≡ true
  pub number : place_value base (without_underscores kept) ≡ place_value base (without_underscores run)
  pub digits : IsDigits run → IsDigits kept

pub zeros_ten : (style : Style) (base : ℕ) (x : List ℕ) → drops_zeros style base x ≡ true → base ≡ 10
zeros_ten style base x h = eqb-true base 10 (and_parts style.leading_zeros (base == 10) (and_parts
    (style.leading_zeros && base == 10) (not (first_passes is_base_letter x)) h).0).1

facts_then : (base : ℕ) (a b c : List ℕ) → RowFacts base a b → RowFacts base b c → RowFacts base a c
facts_then base a b c f g = record {
  each = g.each;
  some = g.some;
  number = g.number ∙ f.number;
  digits = λ d. g.digits (f.digits d);
}

-- If a sequence of digits loses the underscores at its end, it still contains a digit and represents the old number.
kept_facts : (style : Style) (base : ℕ) (x run : List ℕ) → row_of base run → list_any (of_base base) run ≡ true
    → of_base base 95 ≡ false → RowFacts base run (kept_run style x run)
kept_facts style base x run h some n = go (trims_by style.suffix_separator x)
  where
    go : (b : Bool) → RowFacts base run (cond b (trimmed run) run)
    go true = record {
      each = trimmed_all (is_run_part (of_base base)) run h;
      some = trimmed_some (of_base base) run n ∙ some;
      number = ap (place_value base) (trimmed_filter (λ c. not (c == 95)) run refl);
      digits = trimmed_digits run;
    }
    go false = record { each = h; some = some; number = refl; digits = λ d. d }

zero_facts : (style : Style) (base : ℕ) (x run : List ℕ) → row_of base run → list_any (of_base base) run ≡ true
    → RowFacts base run (kept_digits style base x run)
zero_facts style base x run h some = go (drops_zeros style base x && list_any exceeds_octal run) refl
  where
    of_ten : row_of 10 run → RowFacts 10 run (significant run)
    of_ten h = record {
      each = significant_all (is_run_part (of_base 10)) run refl h;
      some = significant_some (of_base 10) run refl h;
      number = significant_number run;
      digits = significant_digits run;
    }

    go : (b : Bool) → (drops_zeros style base x && list_any exceeds_octal run) ≡ b
        → RowFacts base run (cond b (significant run) run)
    go true e =
        let ten = zeros_ten style base x (and_parts (drops_zeros style base x) (list_any exceeds_octal run) e).0 in
        subst (λ z. RowFacts z run (significant run)) (sym ten) (of_ten (subst (λ z. row_of z run) ten h))
    go false e = record { each = h; some = some; number = refl; digits = λ d. d }

-- The digits of a number, without the leading zeros and the final underscores that the style drops.
abbrev pub kept_of_row : Style → ℕ → List ℕ → List ℕ → List ℕ
kept_of_row style base x run = kept_digits style base x (kept_run style x run)

-- ---- the digits of an integer in each base

pub record IntegerFacts (style : Style) (drops : Bool) (base : ℕ) (run : List ℕ) : Type 0 where
  pub keeps : RowKeeps (number_character style drops (base == 16)) run
  pub underscore : nat_lt (digit_value 95) base ≡ false

small_row : (style : Style) (drops : Bool) (base : ℕ) (run : List ℕ) → is_run_part (of_base base) 43 ≡ false
    → is_run_part (of_base base) 69 ≡ false → is_run_part (of_base base) 101 ≡ false → row_of base run
    → RowStays (number_character style drops false) run
small_row style drops base run p u l h = row_stays (is_run_part (of_base base)) drops style.exponent_plus
    style.hex_digits
    style.exponent_letter run p u l h

pub integer_facts : (style : Style) (drops : Bool) (t : List ℕ) (v : Contents) (x run : List ℕ) → (i : StrictInt t v x)
    → row_of i.base run → IntegerFacts style drops i.base run
integer_facts style drops t v x run i each = go i.is_front
  where
    of : (b : ℕ) → i.base ≡ b → (row_of b run → IntegerFacts style drops b run)
        → IntegerFacts style drops i.base run
    of b e f = subst (λ z. IntegerFacts style drops z run) (sym e) (f (subst (λ z. row_of z run) e each))

    go : ((i.prefix ≡ []) × (i.base ≡ 10) × IsDigits i.run × IsDecimalText t) ⊎ BasedPrefix i.prefix i.base
        → IntegerFacts style drops i.base run
    go (inl f) = of 10 f.1 (λ h. record {
      keeps = keeps_of (number_character style drops false) run (small_row style drops 10 run refl refl refl h);
      underscore = refl;
    })
    go (inr (inl b)) = of 2 b.1 (λ h. record {
      keeps = keeps_of (number_character style drops false) run (small_row style drops 2 run refl refl refl h);
      underscore = refl;
    })
    go (inr (inr (inl b))) = of 8 b.1 (λ h. record {
      keeps = keeps_of (number_character style drops false) run (small_row style drops 8 run refl refl refl h);
      underscore = refl;
    })
    go (inr (inr (inr b))) = of 16 b.1 (λ h. record {
      keeps = hex_keeps drops style.exponent_plus style.hex_digits style.exponent_letter run;
      underscore = refl;
    })

pub row_facts : (style : Style) (t : List ℕ) (v : Contents) (x : List ℕ) → (i : StrictInt t v x)
    → RowFacts i.base i.run (kept_of_row style i.base x i.run)
row_facts style t v x i =
    let kept = kept_facts style i.base x i.run i.each i.some
    (integer_facts style false t v x i.run i i.each).underscore in
    facts_then i.base i.run (kept_run style x i.run) (kept_of_row style i.base x i.run) kept
    (zero_facts style i.base x (kept_run style x i.run) kept.each kept.some)

-- The rewritten digits of a number, without the leading zeros and the final underscores that the style drops.
abbrev pub new_row : Style → Bool → ℕ → List ℕ → List ℕ → List ℕ
new_row style hex base x run = flat_map (number_character style (drops_underscores style x) hex)
    (kept_of_row style base x run)

-- The digits of an integer contain no plus.
pub integer_plus : (t : List ℕ) (v : Contents) (x run : List ℕ) → (i : StrictInt t v x) → row_of i.base run
    → list_all (λ c. not (c == 43)) run ≡ true
integer_plus t v x run i each = go i.is_front
  where
    of : (b : ℕ) → i.base ≡ b → is_run_part (of_base b) 43 ≡ false → list_all (λ c. not (c == 43)) run ≡ true
    of b e n = plus_free (is_run_part (of_base b)) run n (subst (λ z. row_of z run) e each)

    go : ((i.prefix ≡ []) × (i.base ≡ 10) × IsDigits i.run × IsDecimalText t) ⊎ BasedPrefix i.prefix i.base
        → list_all (λ c. not (c == 43)) run ≡ true
    go (inl f) = of 10 f.1 refl
    go (inr (inl b)) = of 2 b.1 refl
    go (inr (inr (inl b))) = of 8 b.1 refl
    go (inr (inr (inr b))) = of 16 b.1 refl

-- ---- the digits of an integer in groups

-- If a sequence of digits is divided into groups, it still contains a digit and represents the old number.
pub in_row_facts : (style : Style) (base : ℕ) (x run : List ℕ) → of_base base 95 ≡ false → row_of base run
    → list_any (of_base base) run ≡ true → RowFacts base run (grouped_run false style base x run)
in_row_facts style base x run n h some =
    let size : ℕ = size_by style.digit_groups base x in
    let least : ℕ = least_by style.digit_groups in
    record {
      each = grouped_all (is_run_part (of_base base)) false size least run (or_true (of_base base 95)) h;
      some = grouped_some (of_base base) false size least run n some;
      number = ap (place_value base) (grouped_kept (λ c. not (c == 95)) false size least run refl);
      digits = grouped_digits false size least run;
    }
  where
    or_true : (b : Bool) → (b || true) ≡ true
    or_true true = refl
    or_true false = refl

-- If the suffix begins with the letter of a base, the digits aren't divided into groups.
no_groups : (groups : Option DigitGroups) (base : ℕ) (x : List ℕ) → first_passes is_base_letter x ≡ true
    → size_by groups base x ≡ 0
no_groups None base x h = refl
no_groups (Some groups) base x h = ap (λ b. cond b 0 (base_group groups base)) h

-- ---- a rewritten decimal integer doesn't begin with a base prefix

-- If the suffix begins with the letter of a base, no underscore is dropped.
kept_before : (style : Style) (x : List ℕ) → first_passes is_base_letter x ≡ true → drops_underscores style x ≡ false
kept_before style x h = ap (λ b. style.underscores && not b) h ∙ none_right style.underscores

kept_zeros : (style : Style) (base : ℕ) (x : List ℕ) → first_passes is_base_letter x ≡ true
    → drops_zeros style base x ≡ false
kept_zeros style base x h = ap (λ b. (style.leading_zeros && base == 10) && not b) h
    ∙ none_right (style.leading_zeros && base == 10)

pub decimal_front : (style : Style) (t : List ℕ) (v : Contents) (x : List ℕ) → (i : StrictInt t v x) → i.prefix ≡ []
    → IsDigits i.run → IsDecimalText t
    → IsDigits (grouped_run false style i.base x (new_row style false i.base x i.run) ++ separator style x)
    × IsDecimalText ((grouped_run false style i.base x (new_row style false i.base x i.run) ++ separator style x) ++ x)
decimal_front style t v x i e d h =
    let drops : Bool = drops_underscores style x in
    let run : List ℕ = kept_of_row style i.base x i.run in
    let sep : List ℕ = separator style x in
    let size : ℕ = size_by style.digit_groups i.base x in
    let least : ℕ = least_by style.digit_groups in
    let kept : IsDigits run = (row_facts style t v x i).digits d in
    let stay = row_stays (is_run_part is_ascii_digit) drops style.exponent_plus style.hex_digits style.exponent_letter
    run
    refl refl refl kept.1 in
    let bare : List ℕ = flat_map (number_character style drops false) run in
    let new : List ℕ = grouped_run false style i.base x bare in
    let digits = grouped_digits false size least bare (digits_stay (number_character style drops false) run stay kept)
    in (
      digits_join new sep digits (separator_all is_ascii_digit style.suffix_separator x),
      elim (cases_Bool (first_passes is_base_letter (sep ++ x))) [
        | inl a ↦
            let base = base_kept style.suffix_separator x a in
            let none : drops ≡ false = kept_before style x base.2 in
            let untrimmed : kept_run style x i.run ≡ i.run = ap (λ b. cond b (trimmed i.run) i.run) base.0 in
            let whole : run ≡ i.run = ap (λ b. cond (b && list_any exceeds_octal (kept_run style x i.run))
            (significant (kept_run style x i.run)) (kept_run style x i.run))
            (kept_zeros style i.base x base.2) ∙ untrimmed in
            let same : new ≡ i.run =
            ungrouped false size least bare (no_groups style.digit_groups i.base x base.2)
            ∙ ap (λ b. flat_map (number_character style b false) run) none
            ∙ row_kept (is_run_part is_ascii_digit) style.exponent_plus style.hex_digits style.exponent_letter run refl
            refl
            refl kept.1 ∙ whole in
            let text : t ≡ (new ++ sep) ++ x =
            i.text ∙ ap (λ z. (z ++ i.run) ++ x) e ∙ ap (λ z. z ++ x) (sym (ap (λ z. z ++ sep) same
            ∙ ap (λ z. i.run ++ z) base.1 ∙ append-nil i.run)) in
            subst IsDecimalText text h
        | inr a ↦ subst IsDecimalText (sym (append_assoc new sep x)) (decimal_by new (sep ++ x) digits a)
      ],
    )

-- ---- the rewritten integer

pub regrouped_text : (p r s x : List ℕ) → p ++ (r ++ (s ++ x)) ≡ (p ++ (r ++ s)) ++ x
regrouped_text p r s x = simp append_assoc

abbrev pub written : (style : Style) (t u : List ℕ) (v : Contents) (x : List ℕ) (i : StrictInt t v x) → u
    ≡ i.prefix ++ (styled_run style i.base x i.run ++ (separator style x ++ x)) → StrictInt u v x
written style t u v x i e =
    let drops : Bool = drops_underscores style x in
    let run : List ℕ = kept_of_row style i.base x i.run in
    let sep : List ℕ = separator style x in
    let f : ℕ → List ℕ = number_character style drops (i.base == 16) in
    let kept = row_facts style t v x i in
    let facts = integer_facts style drops t v x run i kept.each in
    let new : List ℕ = styled_run style i.base x i.run in
    let groups = in_row_facts style i.base x (flat_map f run) facts.underscore
    (each_kept f i.base run facts.keeps kept.each) (some_kept f i.base run facts.keeps facts.underscore ∙ kept.some) in
    let text : u ≡ (i.prefix ++ (new ++ sep)) ++ x = e ∙ regrouped_text i.prefix new sep x in
    record {
      prefix = i.prefix;
      base = i.base;
      run = new ++ sep;
      is_front = elim i.is_front [
        | inl g ↦
            let front = decimal_front style t v x i g.0 g.2 g.3 in
            let hex : (i.base == 16) ≡ false = ap (λ z. z == 16) g.1 in
            let Row : Bool → List ℕ = λ b. grouped_run false style i.base x (new_row style b i.base x i.run) ++ sep in
            let is : u ≡ Row false ++ x = text ∙ ap (λ z. (z ++ Row (i.base == 16)) ++ x) g.0
            ∙ ap (λ b. Row b ++ x) hex in
            inl (g.0, g.1, subst (λ b. IsDigits (Row b)) (sym hex) front.0, subst IsDecimalText (sym is) front.1)
        | inr g ↦ inr g
      ];
      each = list_all-append (is_run_part (of_base i.base)) new sep
          ∙ and_from _ _ groups.each (separator_all (of_base i.base) style.suffix_separator x);
      some = any_left (of_base i.base) new sep groups.some;
      suffix = i.suffix;
      no_exponent = i.no_exponent;
      no_digit = i.no_digit;
      text = text;
      contents = i.contents ∙ ap (λ n. Digits (dec n)) (sym (ap (place_value i.base)
          (separator_gone (λ c. not (c == 95)) style.suffix_separator x new refl)
          ∙ groups.number ∙ number_kept f i.base run facts.keeps ∙ kept.number));
    }

kept_int : (t u : List ℕ) (c : KeepsInt t u) → StrictInt u c.contents c.suffix
kept_int t u c = subst (λ z. StrictInt z c.contents c.suffix) (sym c.new_is) c.int

pub integer_same : (style : Style) (t u : List ℕ) → RewritesInt style t u → SameLiteral t u
integer_same style t u (inl c) = record {
  kind = Int;
  contents = c.contents;
  suffix = c.suffix;
  was = c.int;
  is = written style t u c.contents c.suffix c.int c.new_is;
}
integer_same style t u (inr c) = record {
  kind = Int;
  contents = c.contents;
  suffix = c.suffix;
  was = c.int;
  is = kept_int t u c;
}

-- ---- if an integer is rewritten again, nothing changes

-- If the style drops leading zeros, a rewritten sequence of digits has none.
zeros_again : (style : Style) (drops : Bool) (base : ℕ) (x run : List ℕ) → row_of base run
    → kept_digits style base x (flat_map (number_character style drops (base == 16)) (kept_digits style base x run))
    ≡ flat_map (number_character style drops (base == 16)) (kept_digits style base x run)
zeros_again style drops base x run each = go (drops_zeros style base x) refl
  where
    -- The digits of a decimal integer. If one of the digits is 8 or 9, leading zeros are dropped.
    short : List ℕ → List ℕ
    short z = cond (list_any exceeds_octal z) (significant z) z

    ten : row_of 10 run → short (flat_map (number_character style drops false) (short run))
        ≡ flat_map (number_character style drops false) (short run)
    ten h = some (list_any exceeds_octal run) refl
      where
        f : ℕ → List ℕ
        f = number_character style drops false

        some : (b : Bool) → list_any exceeds_octal run ≡ b
            → short (flat_map f (cond b (significant run) run)) ≡ flat_map f (cond b (significant run) run)
        some true e =
            let each : row_of 10 (significant run) = significant_all (is_run_part (of_base 10)) run refl h in
            let any : list_any exceeds_octal (flat_map f (significant run)) ≡ true =
            some_stays exceeds_octal f (significant run) refl (small_row style drops 10 (significant run) refl refl refl
            each)
            ∙ significant_any exceeds_octal run refl refl ∙ e in
            ap (λ b. cond b (significant (flat_map f (significant run))) (flat_map f (significant run))) any
            ∙ significant_again f run
            (stays drops style.exponent_plus style.hex_digits style.exponent_letter 48 refl refl refl refl)
            (small_row style drops 10 run refl refl refl h)
        some false e = ap (λ b. cond b (significant (flat_map f run)) (flat_map f run))
            (some_stays exceeds_octal f run refl (small_row style drops 10 run refl refl refl h) ∙ e)

    go : (b : Bool) → drops_zeros style base x ≡ b
        → cond (b && list_any exceeds_octal (flat_map (number_character style drops (base == 16))
        (cond (b && list_any exceeds_octal run) (significant run) run)))
        (significant (flat_map (number_character style drops (base == 16))
        (cond (b && list_any exceeds_octal run) (significant run) run)))
        (flat_map (number_character style drops (base == 16))
        (cond (b && list_any exceeds_octal run) (significant run) run))
        ≡ flat_map (number_character style drops (base == 16))
        (cond (b && list_any exceeds_octal run) (significant run) run)
    go true e =
        let is = zeros_ten style base x e in
        subst (λ z. short (flat_map (number_character style drops (z == 16)) (short run))
        ≡ flat_map (number_character style drops (z == 16)) (short run)) (sym is)
        (ten (subst (λ z. row_of z run) is each))
    go false e = refl

-- If the style drops the underscores before a suffix, a rewritten sequence of digits has no underscores at its end.
row_trims : (style : Style) (t : List ℕ) (v : Contents) (x : List ℕ) (i : StrictInt t v x)
    → trims_by style.suffix_separator x ≡ true
    → IsTrim (flat_map (number_character style (drops_underscores style x) (i.base == 16))
    (kept_of_row style i.base x i.run))
row_trims style t v x i h =
    let run : List ℕ = kept_of_row style i.base x i.run in
    let facts = integer_facts style (drops_underscores style x) t v x run i (row_facts style t v x i).each in
    mapped_trim (number_character style (drops_underscores style x) (i.base == 16)) run facts.keeps
    (go (drops_zeros style i.base x && list_any exceeds_octal short))
  where
    short : List ℕ
    short = kept_run style x i.run

    short_trims : IsTrim short
    short_trims = subst IsTrim (sym (ap (λ b. cond b (trimmed i.run) i.run) h)) (trimmed_again i.run)

    go : (b : Bool) → IsTrim (cond b (significant short) short)
    go true = significant_trim short short_trims
    go false = short_trims

-- If a sequence of digits has no leading zeros, it has none after it is divided into groups.
significant_groups : (size least : ℕ) (run : List ℕ) → significant run ≡ run
    → significant (regrouped false size least run) ≡ regrouped false size least run
significant_groups size least run same =
    elim (left run) [
      | inl e ↦
          let is : run ≡ 48 ∷ [] = sym same ∙ significant_none run e in
          let new : regrouped false size least run ≡ 48 ∷ [] = ap (regrouped false size least) is
          ∙ grouped_one false size least 48 refl in
          ap significant new ∙ sym new
      | inr l ↦
          let is : run ≡ l.first ∷ l.rest = sym same ∙ significant_left run l in
          let b = grouped_first false size least l.first l.rest (or_parts (l.first == 48) (l.first == 95) l.other).1 in
          let new : regrouped false size least run ≡ l.first ∷ b.rest = ap (regrouped false size least) is ∙ b.is in
          ap significant new
          ∙ ap (λ k. or_zero (cond k (after_run is_padding b.rest) (l.first ∷ b.rest))) l.other ∙ sym new
    ]

zeros_groups : (style : Style) (base : ℕ) (x run : List ℕ) → kept_digits style base x run ≡ run
    → kept_digits style base x (grouped_run false style base x run) ≡ grouped_run false style base x run
zeros_groups style base x run same =
    ap (λ b. cond (drops_zeros style base x && b) (significant new) new) any
    ∙ go (drops_zeros style base x && list_any exceeds_octal run) same
  where
    size : ℕ
    size = size_by style.digit_groups base x

    new : List ℕ
    new = grouped_run false style base x run

    any : list_any exceeds_octal new ≡ list_any exceeds_octal run
    any = grouped_any exceeds_octal false size (least_by style.digit_groups) run refl

    go : (b : Bool) → cond b (significant run) run ≡ run → cond b (significant new) new ≡ new
    go true h = significant_groups size (least_by style.digit_groups) run h
    go false h = refl

styled_stays : (style : Style) (t u : List ℕ) (c : StylesInt style t u) → is_mistyped c.suffix u ≡ false
    → StylesInt style u u
styled_stays style t u c exact =
    let i = c.int in
    let x : List ℕ = c.suffix in
    let sep : List ℕ = separator style x in
    let drops : Bool = drops_underscores style x in
    let f : ℕ → List ℕ = number_character style drops (i.base == 16) in
    let short : List ℕ = kept_run style x i.run in
    let run : List ℕ = kept_of_row style i.base x i.run in
    let bare : List ℕ = flat_map f run in
    let new : List ℕ = styled_run style i.base x i.run in
    let size : ℕ = size_by style.digit_groups i.base x in
    let least : ℕ = least_by style.digit_groups in
    let facts = row_facts style t c.contents x i in
    let of_row = integer_facts style drops t c.contents x run i facts.each in
    let groups = in_row_facts style i.base x bare of_row.underscore (each_kept f i.base run of_row.keeps facts.each)
    (some_kept f i.base run of_row.keeps of_row.underscore ∙ facts.some) in
    let kept : kept_run style x (new ++ sep) ≡ new = row_again style.suffix_separator x new
    (λ h. grouped_trim false size least bare (row_trims style t c.contents x i h)) in
    let each : row_of i.base short = (kept_facts style i.base x i.run i.each i.some
    (integer_facts style false t c.contents x i.run i i.each).underscore).each in
    let zeros : kept_digits style i.base x new ≡ new = zeros_groups style i.base x bare
    (zeros_again style drops i.base x short each) in
    let same : bare ≡ flat_map f bare = sym (twice drops (i.base == 16) style.exponent_plus style.hex_digits
    style.exponent_letter run) in
    let again : grouped_run false style i.base x (flat_map f new) ≡ new = again_grouped drops (i.base == 16)
    style.exponent_plus style.hex_digits style.exponent_letter false size least bare (sym same)
    (plain_of f new (integer_facts style drops t c.contents x new i groups.each).keeps) in
    let whole : styled_run style i.base x (new ++ sep) ≡ new =
    ap (λ z. grouped_run false style i.base x (flat_map f (kept_digits style i.base x z))) kept
    ∙ ap (λ z. grouped_run false style i.base x (flat_map f z)) zeros ∙ again in
    record {
      contents = c.contents;
      suffix = x;
      int = written style t u c.contents x i c.new_is;
      exact = exact;
      new_is = c.new_is ∙ ap (λ z. i.prefix ++ (z ++ (sep ++ x))) (sym whole);
    }

pub integer_stays : (style : Style) (t u : List ℕ) → RewritesInt style t u → RewritesInt style u u
integer_stays style t u (inl c) =
    elim (cases_Bool (is_mistyped c.suffix u)) [
      | inl mistyped ↦ inr (record {
        contents = c.contents;
        suffix = c.suffix;
        int = written style t u c.contents c.suffix c.int c.new_is;
        mistyped = mistyped;
        new_is = refl;
      })
      | inr exact ↦ inl (styled_stays style t u c exact)
    ]
integer_stays style t u (inr c) = inr (record {
  contents = c.contents;
  suffix = c.suffix;
  int = kept_int t u c;
  mistyped = ap (is_mistyped c.suffix) c.new_is ∙ c.mistyped;
  new_is = refl;
})
