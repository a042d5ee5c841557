-- Escapes, by both definitions: each production against the units of `Strict` that it has.
use Rattle.rl_syntax.proofs.Common.{◌≡◌, ℕ, ◌||◌, ◌&&◌, Bool, true, false, eqb, List, [], ◌∷◌, ◌++◌, refl, sym, ap, subst, ◌∙◌, inl, inr, list_all, flat_map, map, length, replicate, zero, suc, eqb-true, and_parts, and_from, or_cases, digit_value, nat_lt, nat_le, is_ascii_hexdigit, all_scalars}
use Rattle.rl_syntax.specs.Texts.{first_passes, is_dropped_blank}
use Rattle.rl_syntax.specs.Spelling.{place_value}
use Rattle.rl_syntax.specs.Strict.{UnicodeEscape, LineBreak, strict_text, is_plain_letter, plain_value_in, plain_escapes, is_unicode_escape, spaced_digit, spaced_value}
use Rattle.rl_syntax.proofs.Basics.{hex_is_sixteen, all_same, passes_same}
use Rattle.rl_syntax.proofs.StrictQuoted.{digits_count}
use Rattle.rl_theorem.specs.Notation.{Rule, Text, One, Many, As, If, Follow, Means, ◌⋅◌}
use Rattle.rl_theorem.specs.RustRules.{digit, quote_escape, letter_escape, x_escape, u_escape, string_continue}
use Rattle.rl_theorem.proofs.RuleParts.{text_then, then_text, close_then, then_close, unless_then, then_unless, none_passes, passes_none, IsRuleOf, many_to, many_from, row_from_all, all_from_row, run_to, run_from, or_same}

-- ---- quotes and letters

pub quote_to : (c : ℕ) (after : List ℕ) → (eqb c 39 || eqb c 34) ≡ true → Means quote_escape (92 ∷ c ∷ []) after (c ∷ [])
quote_to c after h =
    let At : ℕ → Type 0 = λ k. Means quote_escape (92 ∷ k ∷ []) after (k ∷ []) in
    elim (or_cases (eqb c 39) (eqb c 34) h) [
      | inl e ↦ subst At (sym (eqb-true c 39 e)) (inl ([], (refl, refl), refl))
      | inr e ↦ subst At (sym (eqb-true c 34 e)) (inr ([], (refl, refl), refl))
    ]

pub quote_from : (text after value : List ℕ) → Means quote_escape text after value
    → (c : ℕ) × ((eqb c 39 || eqb c 34) ≡ true) × (text ≡ 92 ∷ c ∷ []) × (value ≡ c ∷ [])
quote_from text after value (inl (x, (t, e), v)) = (39, refl, t, v)
quote_from text after value (inr (x, (t, e), v)) = (34, refl, t, v)

pub letters : (P : ℕ → Type 0) (c : ℕ) → is_plain_letter c ≡ true → P 110 → P 114 → P 116 → P 92 → P 48 → P c
letters P c h n r t b z =
    elim (or_cases (eqb 110 c) _ h) [
      | inl e ↦ subst P (eqb-true 110 c e) n
      | inr h ↦ elim (or_cases (eqb 114 c) _ h) [
        | inl e ↦ subst P (eqb-true 114 c e) r
        | inr h ↦ elim (or_cases (eqb 116 c) _ h) [
          | inl e ↦ subst P (eqb-true 116 c e) t
          | inr h ↦ elim (or_cases (eqb 92 c) _ h) [
            | inl e ↦ subst P (eqb-true 92 c e) b
            | inr h ↦ elim (or_cases (eqb 48 c) _ h) [
              | inl e ↦ subst P (eqb-true 48 c e) z
              | inr h ↦ absurd (cc)
            ]
          ]
        ]
      ]
    ]

pub letter_to : (c : ℕ) (after : List ℕ) → is_plain_letter c ≡ true
    → Means letter_escape (92 ∷ c ∷ []) after (plain_value_in plain_escapes c)
letter_to c after h =
    letters (λ k. Means letter_escape (92 ∷ k ∷ []) after (plain_value_in plain_escapes k)) c h (inl ([], (refl, refl), refl))
    (inr (inl ([], (refl, refl), refl))) (inr (inr (inl ([], (refl, refl), refl))))
    (inr (inr (inr (inl ([], (refl, refl), refl))))) (inr (inr (inr (inr ([], (refl, refl), refl)))))

pub letter_from : (text after value : List ℕ) → Means letter_escape text after value
    → (c : ℕ) × (is_plain_letter c ≡ true) × (text ≡ 92 ∷ c ∷ []) × (value ≡ plain_value_in plain_escapes c)
letter_from text after value (inl (x, (t, e), v)) = (110, refl, t, v)
letter_from text after value (inr (inl (x, (t, e), v))) = (114, refl, t, v)
letter_from text after value (inr (inr (inl (x, (t, e), v)))) = (116, refl, t, v)
letter_from text after value (inr (inr (inr (inl (x, (t, e), v))))) = (92, refl, t, v)
letter_from text after value (inr (inr (inr (inr (x, (t, e), v))))) = (48, refl, t, v)

-- ---- `\x`

abbrev pub hex_text : ℕ → ℕ → List ℕ
hex_text high low = 92 ∷ 120 ∷ high ∷ low ∷ []

abbrev pub hex_value : ℕ → ℕ → List ℕ
hex_value high low = place_value 16 (high ∷ low ∷ []) ∷ []

pub hex_to : (below high low : ℕ) (after : List ℕ) → nat_lt (digit_value high) below ≡ true → is_ascii_hexdigit low ≡ true
    → Means (x_escape below) (hex_text high low) after (hex_value high low)
hex_to below high low after h l =
    text_then (92 ∷ 120 ∷ []) (As (λ ds. place_value 16 ds ∷ []) (digit below ⋅ digit 16)) (high ∷ low ∷ []) after (hex_value high low) (
      high ∷ low ∷ [],
      (high ∷ [], low ∷ [], high ∷ [], low ∷ [], refl, refl, (high, h, refl, refl), (low, sym (hex_is_sixteen low) ∙ l, refl, refl)),
      refl,
    )

pub hex_from : (below : ℕ) (text after value : List ℕ) → Means (x_escape below) text after value
    → (high low : ℕ) × (nat_lt (digit_value high) below ≡ true) × (is_ascii_hexdigit low ≡ true)
    × (text ≡ hex_text high low) × (value ≡ hex_value high low)
hex_from below text after value m =
    let (w, text_is, (z, (a, b, p, q, w_is, z_is, (high, h, a_is, p_is), (low, l, b_is, q_is)), value_is)) =
    then_text (92 ∷ 120 ∷ []) (As (λ ds. place_value 16 ds ∷ []) (digit below ⋅ digit 16)) text after value m in (
      high,
      low,
      h,
      hex_is_sixteen low ∙ l,
      text_is ∙ ap (λ k. 92 ∷ 120 ∷ k) (w_is ∙ ap (λ k. k ++ b) a_is ∙ ap (λ k. high ∷ k) b_is),
      value_is ∙ ap (λ k. place_value 16 k ∷ []) (z_is ∙ ap (λ k. k ++ q) p_is ∙ ap (λ k. high ∷ k) q_is),
    )

-- ---- `\u{..}`

abbrev pub underscores : Rule
underscores = Many (Text (95 ∷ []))

pub underscores_to : (n : ℕ) (after : List ℕ) → Means underscores (replicate n 95) after []
underscores_to zero after = ([], (refl, refl))
underscores_to (suc n) after =
    let (parts, follow) = underscores_to n after in
    ((95 ∷ [], []) ∷ parts, (replicate n 95, [], refl, refl, (refl, refl), follow))

pub underscores_from : (text after value : List ℕ) → Means underscores text after value
    → (n : ℕ) × (text ≡ replicate n 95) × (value ≡ [])
underscores_from text after value (parts, follow) = go parts text value follow
  where
    go : (parts : List (List ℕ × List ℕ)) (text value : List ℕ) → Follow (Means (Text (95 ∷ []))) parts text after value
        → (n : ℕ) × (text ≡ replicate n 95) × (value ≡ [])
    go [] text value (t, v) = (0, t, v)
    go (p ∷ parts) text value (rest, more, t, v, (p_is, q_is), follow) =
        let (n, rest_is, more_is) = go parts rest more follow in
        (suc n, t ∙ ap (λ k. k ++ rest) p_is ∙ ap (λ k. 95 ∷ k) rest_is, v ∙ ap (λ k. k ++ more) q_is ∙ more_is)

abbrev spaced : Rule
spaced = digit 16 ⋅ underscores

abbrev is_hex : ℕ × ℕ → Bool
is_hex d = is_ascii_hexdigit d.0

abbrev digit_of : ℕ × ℕ → List ℕ
digit_of d = d.0 ∷ []

spaced_rule : IsRuleOf spaced spaced_digit digit_of (λ d after. is_hex d ≡ true)
spaced_rule = record { to = to; from = from }
  where
    to : (d : ℕ × ℕ) (after : List ℕ) → is_hex d ≡ true → Means spaced (spaced_digit d) after (digit_of d)
    to d after h = (
      d.0 ∷ [],
      replicate d.1 95,
      d.0 ∷ [],
      [],
      refl,
      refl,
      (d.0, sym (hex_is_sixteen d.0) ∙ h, refl, refl),
      underscores_to d.1 after,
    )

    from : (text after value : List ℕ) → Means spaced text after value
        → (d : ℕ × ℕ) × (is_hex d ≡ true) × (text ≡ spaced_digit d) × (value ≡ digit_of d)
    from text after value (u, w, x, y, text_is, value_is, (c, is, u_is, x_is), more) =
        let (n, w_is, y_is) = underscores_from w after y more in (
          (c, n),
          hex_is_sixteen c ∙ is,
          text_is ∙ ap (λ k. k ++ w) u_is ∙ ap (λ k. c ∷ k) w_is,
          value_is ∙ ap (λ k. k ++ y) x_is ∙ ap (λ k. c ∷ k) y_is,
        )

digits_are : (ds : List (ℕ × ℕ)) → flat_map digit_of ds ≡ map (λ (d : ℕ × ℕ). d.0) ds
digits_are [] = refl
digits_are (d ∷ ds) = ap (λ k. d.0 ∷ k) (digits_are ds)

abbrev is_scalar : List ℕ → Bool
is_scalar ds = nat_le 1 (length ds) && nat_le (length ds) 6 && all_scalars (place_value 16 ds ∷ [])

-- The tests of both definitions, with the digits apart.
same_tests : (a b h s : Bool) → ((a && b && h) && s) ≡ (h && ((a && b) && s))
same_tests true true true s = refl
same_tests true true false s = refl
same_tests true false true s = refl
same_tests true false false s = refl
same_tests false b true s = refl
same_tests false b false s = refl

tested : (ds : List (ℕ × ℕ)) → is_unicode_escape ds ≡ (list_all is_hex ds && is_scalar (flat_map digit_of ds))
tested ds =
    let n = length ds in
    let same = ap (λ k. list_all is_hex ds && is_scalar k) (digits_are ds) in
    let count = ap (λ k. list_all is_hex ds && ((nat_le 1 k && nat_le k 6) && all_scalars (spaced_value ds ∷ []))) (digits_count ds) in
    same_tests (nat_le 1 n) (nat_le n 6) (list_all is_hex ds) (all_scalars (spaced_value ds ∷ [])) ∙ sym count ∙ sym same

abbrev scalar_digits : Rule
scalar_digits = As (λ ds. place_value 16 ds ∷ []) (If is_scalar (Many spaced))

pub unicode_to : (ds : List (ℕ × ℕ)) (after : List ℕ) → is_unicode_escape ds ≡ true
    → Means u_escape (strict_text (UnicodeEscape ds)) after (spaced_value ds ∷ [])
unicode_to ds after h =
    let (each, scalar) = and_parts (list_all is_hex ds) (is_scalar (flat_map digit_of ds)) (sym (tested ds) ∙ h) in
    text_then (92 ∷ 117 ∷ 123 ∷ []) (scalar_digits ⋅ Text (125 ∷ [])) (flat_map spaced_digit ds ++ 125 ∷ []) after (spaced_value ds ∷ [])
    (close_then (125 ∷ []) scalar_digits (flat_map spaced_digit ds) after (spaced_value ds ∷ []) (
      flat_map digit_of ds,
      (scalar, many_to spaced spaced_digit digit_of (λ d after. is_hex d ≡ true) spaced_rule ds (125 ∷ after) (row_from_all spaced_digit is_hex ds (125 ∷ after) each)),
      ap (λ k. place_value 16 k ∷ []) (sym (digits_are ds)),
    ))

pub unicode_from : (text after value : List ℕ) → Means u_escape text after value → (ds : List (ℕ × ℕ))
    × (is_unicode_escape ds ≡ true) × (text ≡ strict_text (UnicodeEscape ds)) × (value ≡ spaced_value ds ∷ [])
unicode_from text after value m =
    let (w, text_is, rest) = then_text (92 ∷ 117 ∷ 123 ∷ []) (scalar_digits ⋅ Text (125 ∷ [])) text after value m in
    let (u, w_is, (x, (scalar, more), value_is)) = then_close (125 ∷ []) scalar_digits w after value rest in
    let (ds, row, u_is, x_is) = many_from spaced spaced_digit digit_of (λ d after. is_hex d ≡ true) spaced_rule u (125 ∷ after) x more in (
      ds,
      passes ds (all_from_row spaced_digit is_hex ds (125 ∷ after) row) (ap is_scalar (sym x_is) ∙ scalar),
      text_is ∙ ap (λ k. 92 ∷ 117 ∷ 123 ∷ k) (w_is ∙ ap (λ k. k ++ 125 ∷ []) u_is),
      value_is ∙ ap (λ k. place_value 16 k ∷ []) (x_is ∙ digits_are ds),
    )
  where
    passes : (ds : List (ℕ × ℕ)) → list_all is_hex ds ≡ true → is_scalar (flat_map digit_of ds) ≡ true → is_unicode_escape ds ≡ true
    passes ds each scalar = tested ds ∙ and_from (list_all is_hex ds) (is_scalar (flat_map digit_of ds)) each scalar

-- ---- escaped line ends

abbrev is_space : ℕ → Bool
is_space c = eqb c 32 || (eqb c 9 || (eqb c 10 || false))

spaces : (c : ℕ) → is_dropped_blank c ≡ is_space c
spaces c = or_same (eqb c 32) (eqb c 9 ∷ eqb c 10 ∷ [])

abbrev line_break : Rule
line_break = As (λ v. []) (Text (92 ∷ 10 ∷ []) ⋅ Many (One is_space))

pub continue_to : (blanks after : List ℕ) → list_all is_dropped_blank blanks ≡ true
    → first_passes is_dropped_blank after ≡ false → Means string_continue (strict_text (LineBreak blanks)) after []
continue_to blanks after each at_end =
    unless_then line_break (One is_space) (92 ∷ 10 ∷ blanks) after [] (
      blanks,
      text_then (92 ∷ 10 ∷ []) (Many (One is_space)) blanks after blanks
          (run_to is_space blanks after (sym (all_same is_dropped_blank is_space spaces blanks) ∙ each)),
      refl,
    ) (none_passes is_space after (sym (passes_same is_dropped_blank is_space spaces after) ∙ at_end))

pub continue_from : (text after value : List ℕ) → Means string_continue text after value
    → (blanks : List ℕ) × (list_all is_dropped_blank blanks ≡ true) × (first_passes is_dropped_blank after ≡ false)
    × (text ≡ strict_text (LineBreak blanks)) × (value ≡ [])
continue_from text after value m =
    let ((x, inner, value_is), none) = then_unless line_break (One is_space) text after value m in
    let (w, text_is, run) = then_text (92 ∷ 10 ∷ []) (Many (One is_space)) text after x inner in (
      w,
      all_same is_dropped_blank is_space spaces w ∙ (run_from is_space w after x run).0,
      passes_same is_dropped_blank is_space spaces after ∙ passes_none is_space after none,
      text_is,
      value_is,
    )
