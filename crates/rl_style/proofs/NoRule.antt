-- A style in which no rule is set changes nothing.
use Rattle.rl_syntax.proofs.Common.{◌≡◌, ℕ, ◌&&◌, ◌||◌, Bool, true, false, not, ◌==◌, cond, List, [], ◌∷◌, ◌++◌, map, None, refl, sym, ap, subst, ◌∙◌, inl, inr, flat_map, list_all, list_any, both_ways, append_assoc, is_ascii_digit}
use Rattle.rl_lenient.proofs.Names.{Kind, StrictUnit, Itself, QuoteEscape, PlainEscape, AsciiEscape, ByteEscape, UnicodeEscape, LineBreak, strict_text}
use Rattle.rl_syntax.specs.Written.{closer}
use Rattle.rl_syntax.specs.Spelling.{place_value}
use Rattle.rl_syntax.specs.Strict.{spaced_value, strict_closer, strict_opener}
use Rattle.rl_syntax.proofs.StrictQuoted.{between}
use Rattle.rl_writing.specs.RawStrings.{raw_text}
use Rattle.rl_style.specs.declared.style.Style.{Style}
use Rattle.rl_style.specs.Cases.{cased, drops_underscores, exceeds_octal, exponent_letter, kept_digits, kept_run, number_character, separator, separator_by, significant, trimmed, trims_by}
use Rattle.rl_style.specs.Rewriting.{HasHashes, HasNoRule, Rewrites, RewritesCooked, RewritesFloat, RewritesInt, RewritesRaw, cased_digit, styled_digits, fewest_digits, needs_number, is_visible, letter_of, loses_raw, may_lose_r, needs_backslash, number_escape, reescaped, respelled, restyled, visible_unit, styled_numeral, styled_run, gets_letter, restyled_units, digit_follows}
use Rattle.rl_syntax.specs.Texts.{first_passes, is_run_part}
use Rattle.rl_style.specs.Groups.{after_dot, digit_run, fraction_in_groups, grouped_run, least_by, regrouped, size_by}
use Rattle.rl_syntax.specs.Classes.{after_run}
use Rattle.rl_lexer.specs.Lexemes.{is_base_letter}
use Rattle.rl_style.proofs.CaseLemmas.{none_right}
use Rattle.rl_style.proofs.SameFloats.{run_joined}
use Rattle.rl_style.proofs.SameRaw.{raw_followed, raw_string}

-- ---- a style without rules doesn't change numbers

character_kept : (style : Style) (drops hex : Bool) (c : ℕ) → HasNoRule style → drops ≡ false
    → number_character style drops hex c ≡ c ∷ []
character_kept style drops hex c n d =
    ap (λ b. cond ((b && c == 95) || ((not hex && style.exponent_plus) && c == 43)) []
    (cond hex (cased style.hex_digits c) (exponent_letter style.exponent_letter c) ∷ [])) d
    ∙ ap (λ b. cond ((not hex && b) && c == 43) []
    (cond hex (cased style.hex_digits c) (exponent_letter style.exponent_letter c) ∷ [])) n.exponent_plus
    ∙ ap (λ b. cond (b && c == 43) [] (cond hex (cased style.hex_digits c) (exponent_letter style.exponent_letter c) ∷
    []))
    (none_right (not hex))
    ∙ ap (λ z. cond hex (cased z c) (exponent_letter style.exponent_letter c) ∷ []) n.hex_digits
    ∙ ap (λ z. cond hex c (exponent_letter z c) ∷ []) n.exponent_letter ∙ ap (λ z. z ∷ []) (either hex)
  where
    either : (b : Bool) → cond b c c ≡ c
    either true = refl
    either false = refl

numeral_kept : (style : Style) (drops hex : Bool) (cs : List ℕ) → HasNoRule style → drops ≡ false
    → flat_map (number_character style drops hex) cs ≡ cs
numeral_kept style drops hex [] n d = refl
numeral_kept style drops hex (c ∷ cs) n d =
    ap (λ z. z ++ flat_map (number_character style drops hex) cs) (character_kept style drops hex c n d)
    ∙ ap (λ z. c ∷ z) (numeral_kept style drops hex cs n d)

none_dropped : (style : Style) (x : List ℕ) → HasNoRule style → drops_underscores style x ≡ false
none_dropped style x n = ap (λ b. b && not (first_passes is_base_letter x)) n.underscores

zeros_kept : (style : Style) (base : ℕ) (x run : List ℕ) → HasNoRule style → kept_digits style base x run ≡ run
zeros_kept style base x run n = ap (λ b. cond (((b && base == 10) && not (first_passes is_base_letter x))
    && list_any exceeds_octal run)
    (significant run) run)
    n.leading_zeros

untrimmed : (style : Style) (x run : List ℕ) → HasNoRule style → kept_run style x run ≡ run
untrimmed style x run n = ap (λ z. cond (trims_by z x) (trimmed run) run) n.suffix_separator

unseparated : (style : Style) (x : List ℕ) → HasNoRule style → separator style x ≡ []
unseparated style x n = ap (λ z. separator_by z x) n.suffix_separator

ungrouped : (style : Style) (from_first : Bool) (base : ℕ) (x run : List ℕ) → HasNoRule style
    → grouped_run from_first style base x run ≡ run
ungrouped style from_first base x run n = ap (λ z. regrouped from_first (size_by z base x) (least_by z) run)
    n.digit_groups

row_same : (style : Style) (base : ℕ) (x run : List ℕ) → HasNoRule style → styled_run style base x run ≡ run
row_same style base x run n =
    let kept : List ℕ = kept_digits style base x (kept_run style x run) in
    ungrouped style false base x _ n
    ∙ numeral_kept style (drops_underscores style x) (base == 16) kept n (none_dropped style x n)
    ∙ zeros_kept style base x (kept_run style x run) n ∙ untrimmed style x run n

dot_same : (f : ℕ → List ℕ) (g : List ℕ → List ℕ) (cs : List ℕ) → ((run : List ℕ) → flat_map f run ≡ run)
    → ((run : List ℕ) → g run ≡ run) → after_dot false f g cs ≡ cs
dot_same f g [] k h = refl
dot_same f g (c ∷ cs) k h =
    let rest : List ℕ = after_run (is_run_part is_ascii_digit) (c ∷ cs) in
    ap (λ z. z ++ flat_map f rest) (h (flat_map f (digit_run (c ∷ cs))) ∙ k (digit_run (c ∷ cs)))
    ∙ ap (λ z. digit_run (c ∷ cs) ++ z) (k rest) ∙ run_joined (c ∷ cs)

fraction_same : (f : ℕ → List ℕ) (g : List ℕ → List ℕ) (cs : List ℕ) → ((run : List ℕ) → flat_map f run ≡ run)
    → ((run : List ℕ) → g run ≡ run) → fraction_in_groups false f g cs ≡ cs
fraction_same f g [] k h = refl
fraction_same f g (c ∷ cs) k h = go (c == 46)
  where
    go : (b : Bool) → cond b (c ∷ after_dot false f g cs) (flat_map f (c ∷ cs)) ≡ c ∷ cs
    go true = ap (λ z. c ∷ z) (dot_same f g cs k h)
    go false = k (c ∷ cs)

numeral_same : (style : Style) (x numeral : List ℕ) → HasNoRule style → styled_numeral style x numeral ≡ numeral
numeral_same style x numeral n =
    let f : ℕ → List ℕ = number_character style (drops_underscores style x) false in
    let kept : List ℕ = kept_run style x numeral in
    let rest : List ℕ = after_run (is_run_part is_ascii_digit) kept in
    let same : (run : List ℕ) → flat_map f run ≡ run =
    λ run. numeral_kept style (drops_underscores style x) false run n (none_dropped style x n) in
    ap (λ b. grouped_run false style 10 x (flat_map f (digit_run kept))
    ++ fraction_in_groups b f (grouped_run true style 10 x) rest) n.float_zero
    ∙ ap (λ z. z ++ fraction_in_groups false f (grouped_run true style 10 x) rest)
    (ungrouped style false 10 x (flat_map f (digit_run kept)) n ∙ same (digit_run kept))
    ∙ ap (λ z. digit_run kept ++ z) (fraction_same f (grouped_run true style 10 x) rest same
    (λ run. ungrouped style true 10 x run n))
    ∙ run_joined kept ∙ untrimmed style x numeral n

integer_kept : (style : Style) (t u : List ℕ) → HasNoRule style → RewritesInt style t u → u ≡ t
integer_kept style t u n (inr c) = c.new_is
integer_kept style t u n (inl c) =
    let x : List ℕ = c.suffix in
    c.new_is ∙ ap (λ z. c.int.prefix ++ (z ++ (separator style x ++ x))) (row_same style c.int.base x c.int.run n)
    ∙ ap (λ z. c.int.prefix ++ (c.int.run ++ (z ++ x))) (unseparated style x n)
    ∙ sym (append_assoc c.int.prefix c.int.run x) ∙ sym c.int.text

float_kept : (style : Style) (t u : List ℕ) → HasNoRule style → RewritesFloat style t u → u ≡ t
float_kept style t u n (inr c) = c.new_is
float_kept style t u n (inl c) =
    let x : List ℕ = c.suffix in
    c.new_is ∙ ap (λ z. z ++ (separator style x ++ x)) (numeral_same style x c.float.numeral n)
    ∙ ap (λ z. c.float.numeral ++ (z ++ x)) (unseparated style x n) ∙ sym c.float.text

-- ---- a style without rules doesn't change quoted literals

raw_kept : (style : Style) (front t u : List ℕ) → HasNoRule style → RewritesRaw style front t u → u ≡ t
raw_kept style front t u n (inl c) =
    let Has : Bool → Type 0 = λ b. HasHashes b c.kind c.raw.inside c.raw.hashes c.hashes in
    let same : c.hashes ≡ c.raw.hashes = subst Has n.raw_hashes c.hashes_are in
    c.new_is ∙ ap (λ z. raw_text c.kind z c.raw.inside ++ c.suffix) same
    ∙ raw_followed c.kind c.raw.hashes c.raw.inside c.suffix (raw_string t c.kind c.contents c.suffix c.raw)
    ∙ sym c.raw.text
raw_kept style front t u n (inr c) =
    let may : Bool = may_lose_r c.kind front in
    let bare : Bool = list_all (λ c. not (needs_backslash c)) c.raw.inside in
    let some : Bool = list_any needs_number c.raw.inside in
    let none : loses_raw style c.kind front c.raw.inside ≡ false =
    ap (λ b. may && ((b && bare) || (style.hidden && some))) n.raw ∙ ap (λ b. may && (b && some)) n.hidden
    ∙ none_right may in
    absurd (both_ways (loses_raw style c.kind front c.raw.inside) none c.loses)

codes_kept : (ds : List (ℕ × ℕ)) → map (cased_digit None) ds ≡ ds
codes_kept [] = refl
codes_kept ((a, b) ∷ ds) = ap (λ z. (a, b) ∷ z) (codes_kept ds)

-- In a style without rules, a numeric escape is unchanged.
escape_kept : (style : Style) (k : Kind) (z : Bool) (n : ℕ) (escape : StrictUnit) → HasNoRule style
    → respelled style k z n escape ≡ escape
escape_kept style k z n escape r =
    ap (λ b. cond (b && is_visible n) (visible_unit k n)
    (cond (style.named_escapes && gets_letter z n) (PlainEscape (letter_of n)) escape)) r.ascii_escapes
    ∙ ap (λ b. cond (b && gets_letter z n) (PlainEscape (letter_of n)) escape) r.named_escapes

unit_kept : (style : Style) (k : Kind) (z : Bool) (u : StrictUnit) → HasNoRule style → restyled style k z u ≡ u
unit_kept style k z (QuoteEscape c) n = ap (λ b. cond (b && not (c == closer k)) (Itself c) (QuoteEscape c))
    n.quote_escapes
unit_kept style k z (AsciiEscape high low) n =
    escape_kept style k z (place_value 16 (high ∷ low ∷ []))
    (AsciiEscape (cased style.escape_digits high) (cased style.escape_digits low)) n
    ∙ ap (λ d. AsciiEscape (cased d high) (cased d low)) n.escape_digits
unit_kept style k z (ByteEscape high low) n =
    escape_kept style k z (place_value 16 (high ∷ low ∷ []))
    (ByteEscape (cased style.escape_digits high) (cased style.escape_digits low)) n
    ∙ ap (λ d. ByteEscape (cased d high) (cased d low)) n.escape_digits
unit_kept style k z (UnicodeEscape digits) n =
    escape_kept style k z (spaced_value digits) (UnicodeEscape (styled_digits style digits)) n
    ∙ ap (λ b. UnicodeEscape (map (cased_digit style.escape_digits) (cond b (fewest_digits digits) digits)))
    n.code_digits
    ∙ ap (λ d. UnicodeEscape (map (cased_digit d) digits)) n.escape_digits ∙ ap UnicodeEscape (codes_kept digits)
unit_kept style k z (Itself c) n =
    ap (λ b. cond (b && needs_number c) (reescaped style k z (number_escape k c)) (Itself c)) n.hidden
unit_kept style k z (PlainEscape c) n = refl
unit_kept style k z (LineBreak blanks) n = refl

units_kept : (style : Style) (k : Kind) (us : List StrictUnit) → HasNoRule style → restyled_units style k us ≡ us
units_kept style k [] n = refl
units_kept style k (u ∷ us) n =
    ap (λ v. v ∷ restyled_units style k us) (unit_kept style k (not (digit_follows k us)) u n)
    ∙ ap (λ vs. u ∷ vs) (units_kept style k us n)

cooked_kept : (style : Style) (t u : List ℕ) → HasNoRule style → RewritesCooked style t u → u ≡ t
cooked_kept style t u n c =
    c.new_is ∙ ap (λ z. strict_opener c.kind ++ (flat_map strict_text z ++ (strict_closer c.kind ++ c.suffix)))
    (units_kept style c.kind c.cooked.units n)
    ∙ sym (between (strict_opener c.kind) (flat_map strict_text c.cooked.units) (strict_closer c.kind) c.suffix)
    ∙ sym c.cooked.text

pub nothing_changes : (style : Style) (front t u : List ℕ) → HasNoRule style → Rewrites style front t u → u ≡ t
nothing_changes style front t u n (inl a) = integer_kept style t u n a
nothing_changes style front t u n (inr (inl a)) = float_kept style t u n a
nothing_changes style front t u n (inr (inr (inl a))) = raw_kept style front t u n a
nothing_changes style front t u n (inr (inr (inr (inl a)))) = cooked_kept style t u n a
nothing_changes style front t u n (inr (inr (inr (inr a)))) = a.new_is
