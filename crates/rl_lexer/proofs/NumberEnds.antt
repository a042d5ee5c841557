-- Lemmas about number tokens. The first digit shows that a token is a number. The token may end right after its digits.
use Rattle.rl_syntax.proofs.Common.{◌≡◌, ℕ, ◌⊎◌, inl, inr, Bool, true, false, not, ◌&&◌, ◌||◌, ◌==◌, cond, List, [], ◌∷◌, Some, refl, sym, ◌∙◌, ap, lit<, arith, drop, nat_tests, is_ascii, is_ascii_digit}
use Rattle.rl_syntax.proofs.Basics.{false_unless}
use Rattle.rl_syntax.specs.Texts.{is_underscore, first_passes, is_run_part, is_start, is_continue}
use Rattle.rl_lexer.specs.Lexemes.{LiteralForm, is_base_letter}
use Rattle.rl_lexer.specs.Mirrors.LexemeAt.{DigitHead, QuoteHead, ApostropheHead, SlashHead, by_class, literal_at, quoted_at, single_at, after_digit, after_suffix, after_lexed_exponent, after_lexed_fraction, after_decimal, lexeme_at, after_sign}
use Rattle.rl_syntax.specs.Classes.{after_run}
use Rattle.rl_lexer.proofs.LexemeRows.{neither_true, not_among}
use Rattle.rl_lexer.proofs.LexemeFronts.{at_class, class34, class39, class47, class_digit, start_ascii}

pub digit_first : (s t : List ℕ) (d : ℕ) → s ≡ d ∷ t → is_ascii_digit d ≡ true → lexeme_at s
    ≡ Some (LiteralForm, after_digit d t)
digit_first s t d e is = ap lexeme_at e ∙ at_class d t DigitHead (class_digit d is)

pub quote_first : (s t : List ℕ) (b : ℕ) → s ≡ b ∷ t → b ≡ 34 → lexeme_at s ≡ literal_at (quoted_at t)
quote_first s t b e is = ap lexeme_at e ∙ ap (λ x. lexeme_at (x ∷ t)) is ∙ at_class 34 t QuoteHead class34

pub apostrophe_first : (s t : List ℕ) (b : ℕ) → s ≡ b ∷ t → b ≡ 39 → lexeme_at s ≡ literal_at (single_at t)
apostrophe_first s t b e is = ap lexeme_at e ∙ ap (λ x. lexeme_at (x ∷ t)) is ∙ at_class 39 t ApostropheHead class39

pub slash_first : (s t : List ℕ) (b : ℕ) → s ≡ b ∷ t → b ≡ 47 → lexeme_at s ≡ by_class SlashHead 47 t
slash_first s t b e is = ap lexeme_at e ∙ ap (λ x. lexeme_at (x ∷ t)) is ∙ at_class 47 t SlashHead class47

-- Whether a character is neither a dot nor the start of an identifier. A number token ends before such a character.
abbrev pub goes_on_none : ℕ → Bool
goes_on_none c = not (c == 46 || is_start c)

pub number_ends : (t : List ℕ) → first_passes goes_on_none t ≡ true
    → after_suffix (after_lexed_exponent (after_lexed_fraction t)) ≡ t
number_ends [] h = absurd (cc)
number_ends (c ∷ u) h =
    let parts : ((c == 46) ≡ false) × (is_start c ≡ false) = neither_true (c == 46) (is_start c) h in
    let plain : not (is_start c) ≡ true = ap not parts.1 in
    let small : (c == 101) ≡ false = not_among c 101 (λ d. not (is_start d)) plain (ap not (start_ascii 101 (lit< tt)))
    in
    let large : (c == 69) ≡ false = not_among c 69 (λ d. not (is_start d)) plain (ap not (start_ascii 69 (lit< tt))) in
    let fraction : after_lexed_fraction (c ∷ u) ≡ c ∷ u = ap (λ b. cond
    (b && not (first_passes (λ d. d == 46 || is_start d) u)) (after_run (is_run_part is_ascii_digit) u) (c ∷ u))
    parts.0 in
    let exponent : after_lexed_exponent (c ∷ u) ≡ c ∷ u =
    ap (λ b. cond ((b || c == 69) && first_passes is_ascii_digit (after_run is_underscore (after_sign u)))
    (after_run (is_run_part is_ascii_digit) (after_sign u)) (c ∷ u)) small
    ∙ ap (λ b. cond (b && first_passes is_ascii_digit (after_run is_underscore (after_sign u)))
    (after_run (is_run_part is_ascii_digit) (after_sign u)) (c ∷ u)) large in
    ap (λ x. after_suffix (after_lexed_exponent x)) fraction ∙ ap after_suffix exponent
    ∙ ap (λ b. cond b (after_run is_continue u) (c ∷ u)) parts.1

-- A text that begins with a non-ASCII character has no leading digits.
pub no_digit : (t : List ℕ) → first_passes is_ascii t ≡ false → after_run is_ascii_digit t ≡ t
no_digit [] h = refl
no_digit (c ∷ u) h = ap (λ b. cond b (after_run is_ascii_digit u) (c ∷ u))
    (false_unless (is_ascii_digit c) (λ d. let low : is_ascii c ≡ true = grind (arith, nat_tests) in absurd (cc)))

abbrev no_start : ℕ → Bool
no_start c = not (is_start c)

starts : (k : ℕ) → is_start k ≡ true → no_start k ≡ false
starts k h = ap not h

-- If the character after the leading digits of a text is neither a dot nor the start of an identifier, no underscore
-- follows the digits.
same_row : (t : List ℕ) → first_passes goes_on_none (after_run is_ascii_digit t) ≡ true
    → after_run (is_run_part is_ascii_digit) t ≡ after_run is_ascii_digit t
same_row [] h = refl
same_row (d ∷ u) h = go (is_ascii_digit d) refl h (same_row u)
  where
    go : (b : Bool) → is_ascii_digit d ≡ b → first_passes goes_on_none (cond b (after_run is_ascii_digit u) (d ∷ u))
        ≡ true → (first_passes goes_on_none (after_run is_ascii_digit u) ≡ true
        → after_run (is_run_part is_ascii_digit) u ≡ after_run is_ascii_digit u)
        → cond (is_ascii_digit d || d == 95) (after_run (is_run_part is_ascii_digit) u) (d ∷ u)
        ≡ cond b (after_run is_ascii_digit u) (d ∷ u)
    go true is h more = ap (λ a. cond (a || d == 95) (after_run (is_run_part is_ascii_digit) u) (d ∷ u)) is ∙ more h
    go false is h more =
        ap (λ a. cond (a || d == 95) (after_run (is_run_part is_ascii_digit) u) (d ∷ u)) is
        ∙ ap (λ a. cond a (after_run (is_run_part is_ascii_digit) u) (d ∷ u))
        (not_among d 95 no_start (ap not (neither_true (d == 46) (is_start d) h).1)
        (starts 95 (start_ascii 95 (lit< tt))))

-- Skipping the leading digits of a text, and then the digits and underscores that follow, skips all leading digits and
-- underscores.
row_on : (t : List ℕ) → after_run (is_run_part is_ascii_digit) (after_run is_ascii_digit t)
    ≡ after_run (is_run_part is_ascii_digit) t
row_on [] = refl
row_on (d ∷ u) = go (is_ascii_digit d) refl (row_on u)
  where
    go : (b : Bool) → is_ascii_digit d ≡ b → after_run (is_run_part is_ascii_digit) (after_run is_ascii_digit u)
        ≡ after_run (is_run_part is_ascii_digit) u → after_run (is_run_part is_ascii_digit)
        (cond b (after_run is_ascii_digit u) (d ∷ u)) ≡ cond (is_ascii_digit d || d == 95)
        (after_run (is_run_part is_ascii_digit) u) (d ∷ u)
    go true is more = more ∙ sym (ap (λ a. cond (a || d == 95) (after_run (is_run_part is_ascii_digit) u) (d ∷ u)) is)
    go false is more = refl

-- After the digit 0, the letter of a base (`x`, `o` or `b`) can be lexed as the start of a suffix. So a number such as
-- `0x1F` ends where the decimal number `0` with the suffix `x1F` ends.
base_is_suffix : (t : List ℕ) → first_passes is_base_letter t ≡ true → after_run is_continue (drop 1 t)
    ≡ after_decimal t
base_is_suffix [] h = absurd (cc)
base_is_suffix (d ∷ u) h = go (letter d h)
  where
    letter : (d : ℕ) → is_base_letter d ≡ true → (d ≡ 120) ⊎ (d ≡ 111) ⊎ (d ≡ 98)
    letter d h = grind (arith, nat_tests)

    starts_suffix : (k : ℕ) → is_start k ≡ true → after_run is_continue u
        ≡ cond (is_start k) (after_run is_continue u) (k ∷ u)
    starts_suffix k is = sym (ap (λ b. cond b (after_run is_continue u) (k ∷ u)) is)

    go : (d ≡ 120) ⊎ (d ≡ 111) ⊎ (d ≡ 98) → after_run is_continue u ≡ after_decimal (d ∷ u)
    go (inl x) = starts_suffix 120 (start_ascii 120 (lit< tt)) ∙ ap (λ k. after_decimal (k ∷ u)) (sym x)
    go (inr (inl o)) = starts_suffix 111 (start_ascii 111 (lit< tt)) ∙ ap (λ k. after_decimal (k ∷ u)) (sym o)
    go (inr (inr b)) = starts_suffix 98 (start_ascii 98 (lit< tt)) ∙ ap (λ k. after_decimal (k ∷ u)) (sym b)

as_decimal : (d : ℕ) (t : List ℕ) → after_digit d t ≡ after_decimal t
as_decimal d t = go (d == 48) (first_passes is_base_letter t) (base_is_suffix t)
  where
    go : (a b : Bool) → (b ≡ true → after_run is_continue (drop 1 t) ≡ after_decimal t)
        → cond (a && b) (after_run is_continue (drop 1 t)) (after_decimal t) ≡ after_decimal t
    go true true h = h refl
    go true false h = refl
    go false b h = refl

pub number_short : (c : ℕ) (t r : List ℕ) → r ≡ after_run is_ascii_digit t → first_passes goes_on_none r ≡ true → r
    ≡ after_digit c t
number_short c t r e h =
    let k : first_passes goes_on_none (after_run is_ascii_digit t) ≡ true = ap (first_passes goes_on_none) (sym e)
    ∙ h in
    e
    ∙ sym (number_ends (after_run is_ascii_digit t) k)
    ∙ ap (λ s. after_suffix (after_lexed_exponent (after_lexed_fraction s))) (sym (same_row t k))
    ∙ sym (as_decimal c t)

pub number_long : (c : ℕ) (t r s : List ℕ) → r ≡ after_run is_ascii_digit t → s ≡ after_decimal r → s ≡ after_digit c t
number_long c t r s e h =
    h
    ∙ ap (λ x. after_suffix (after_lexed_exponent (after_lexed_fraction (after_run (is_run_part is_ascii_digit) x)))) e
    ∙ ap (λ x. after_suffix (after_lexed_exponent (after_lexed_fraction x))) (row_on t)
    ∙ sym (as_decimal c t)
