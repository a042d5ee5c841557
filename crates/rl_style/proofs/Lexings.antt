-- The text after a literal token decides where the lexer ends the token.
use Rattle.rl_syntax.proofs.Common.{◌≡◌, ℕ, ◌≤◌, suc, ◌⊎◌, inl, inr, Bool, true, false, not, ◌&&◌, ◌||◌, ◌==◌, cond, List, [], ◌∷◌, ◌++◌, length, Option, Some, None, drop, replicate, refl, sym, ◌∙◌, ap, subst, arith, append_assoc, lit<, and_parts, or_cases, eqb-true, nat_lt, digit_value, list_all, list_any, is_ascii_digit, option_map}
use Rattle.rl_syntax.specs.Texts.{is_underscore, first_passes, is_run_part, is_start, is_continue, begins_char}
use Rattle.rl_syntax.specs.Classes.{after_run}
use Rattle.rl_syntax.proofs.Basics.{all_weaker, false_unless}
use Rattle.rl_syntax.specs.Strict.{IsDecimalText, IsDigits, IsStrictExponent}
use Rattle.rl_lexer.specs.Lexemes.{is_base_letter, begins_dot, BodyPart, body_text, IsBody, CharacterBody, character_body_text, IsCharacterBody, IsRawBody, LiteralPrefix, NoPrefix, BytePrefix, CPrefix, LexemeForm, LiteralForm, lexeme_text, QuotedLexeme, RawLexeme, CharacterLexeme}
use Rattle.rl_lexer.specs.Mirrors.LexemeAt.{after_suffix, after_decimal, after_digit, after_lexed_exponent, after_lexed_fraction, after_raw, after_sign, lexeme_at, literal_at, quoted_at, raw_at, single_at, word_at, LetterBHead, LetterCHead, LetterRHead, QuoteHead, ApostropheHead, DigitHead, begins_hashed_quote}
use Rattle.rl_syntax.specs.Classes.{is_hash}
use Rattle.rl_lexer.proofs.Continues.{row_continues}
use Rattle.rl_lexer.proofs.HashLemmas.{hashes_count, hashes_past}
use Rattle.rl_lexer.proofs.LexemeFronts.{at_class, class34, class39, class98, class99, class114, class_digit, digit_not_start, raw_text, same_pair, start_ascii}
use Rattle.rl_lexer.proofs.LexemeOpeners.{raw_opens_here}
use Rattle.rl_lexer.proofs.LexemeRows.{not_among, quote_past, raw_past, run_past, single_past}
use Rattle.rl_lexer.proofs.Pieces.{is_equal}
use Rattle.rl_lenient.proofs.FloatLemmas.{run_off}

-- ---- the lexer consumes a sequence of characters

run_shorter : (test : ℕ → Bool) (t : List ℕ) → length (after_run test t) ≤ length t
run_shorter test [] = omega arith
run_shorter test (c ∷ t) = go (test c) (run_shorter test t)
  where
    go : (b : Bool) → length (after_run test t) ≤ length t → length (cond b (after_run test t) (c ∷ t)) ≤ suc (length t)
    go true h = omega (arith, h)
    go false h = omega arith

-- If characters at the start of a text are skipped, the text after them isn't longer than the whole text.
no_longer : (test : ℕ → Bool) (c : ℕ) (t : List ℕ) → after_run test t ≡ c ∷ t → ⊥
no_longer test c t e =
    let same : length (after_run test t) ≡ suc (length t) = ap length e in
    let less = run_shorter test t in
    absurd (omega (arith, same, less))

-- ---- the end of a quoted literal in the lexer

pub quoted_goes : (p : LiteralPrefix) (parts : List BodyPart) (x y : List ℕ) → IsBody parts
    → lexeme_at (lexeme_text (QuotedLexeme p parts x) ++ y) ≡ Some (LiteralForm, after_suffix (x ++ y))
quoted_goes p parts x y is = go p
  where
    at : quoted_at (body_text parts ++ 34 ∷ x ++ y) ≡ Some (after_suffix (x ++ y))
    at = ap quoted_at (append_assoc (body_text parts) (34 ∷ x) y) ∙ ap (option_map after_suffix)
        (quote_past parts (x ++ y) is)

    go : (p : LiteralPrefix) → lexeme_at (lexeme_text (QuotedLexeme p parts x) ++ y)
        ≡ Some (LiteralForm, after_suffix (x ++ y))
    go NoPrefix = at_class 34 (body_text parts ++ 34 ∷ x ++ y) QuoteHead class34 ∙ ap literal_at at
    go BytePrefix = at_class 98 (34 ∷ (body_text parts ++ 34 ∷ x ++ y)) LetterBHead class98 ∙ ap literal_at at
    go CPrefix = at_class 99 (34 ∷ (body_text parts ++ 34 ∷ x ++ y)) LetterCHead class99 ∙ ap literal_at at

pub character_goes : (b : Bool) (inside : CharacterBody) (x y : List ℕ) → IsCharacterBody inside
    → lexeme_at (lexeme_text (CharacterLexeme b inside x) ++ y) ≡ Some (LiteralForm, after_suffix (x ++ y))
character_goes b inside x y is = go b
  where
    at : single_at (character_body_text inside ++ 39 ∷ x ++ y) ≡ Some (after_suffix (x ++ y))
    at = ap single_at (append_assoc (character_body_text inside) (39 ∷ x) y) ∙ ap (option_map after_suffix)
        (single_past inside (x ++ y) is)

    go : (b : Bool) → lexeme_at (lexeme_text (CharacterLexeme b inside x) ++ y)
        ≡ Some (LiteralForm, after_suffix (x ++ y))
    go false = at_class 39 (character_body_text inside ++ 39 ∷ x ++ y) ApostropheHead class39 ∙ ap literal_at at
    go true = at_class 98 (39 ∷ (character_body_text inside ++ 39 ∷ x ++ y)) LetterBHead class98 ∙ ap literal_at at

raw_chosen : (u : List ℕ) (other : Option (LexemeForm × List ℕ)) (r : List ℕ) → begins_hashed_quote u ≡ true → raw_at u
    ≡ Some r → cond (begins_hashed_quote u) (literal_at (raw_at u)) other ≡ Some (LiteralForm, r)
raw_chosen u other r opens h = ap (λ b. cond b (literal_at (raw_at u)) other) opens ∙ ap literal_at h

pub raw_goes : (p : LiteralPrefix) (n : ℕ) (body x y : List ℕ) → IsRawBody n body
    → lexeme_at (lexeme_text (RawLexeme p n body x) ++ y) ≡ Some (LiteralForm, after_suffix (x ++ y))
raw_goes p n body x y is = go p
  where
    v : List ℕ
    v = body ++ 34 ∷ (replicate n 35 ++ (x ++ y))

    u : List ℕ
    u = replicate n 35 ++ 34 ∷ v

    at : raw_at u ≡ Some (after_suffix (x ++ y))
    at = ap (λ k. option_map after_suffix (after_raw k (drop 1 (after_run is_hash u)))) (hashes_count n v)
        ∙ ap (λ s. option_map after_suffix (after_raw n (drop 1 s))) (hashes_past n v)
        ∙ ap (option_map after_suffix) (raw_past n body (x ++ y) is)

    go : (p : LiteralPrefix) → lexeme_at (lexeme_text (RawLexeme p n body x) ++ y)
        ≡ Some (LiteralForm, after_suffix (x ++ y))
    go NoPrefix = ap (λ s. lexeme_at (114 ∷ s)) (raw_text n body x y) ∙ at_class 114 u LetterRHead class114
        ∙ raw_chosen u (cond (begins_char 35 u && first_passes is_start (drop 1 u)) None (word_at u))
        (after_suffix (x ++ y)) (raw_opens_here n v) at
    go BytePrefix = ap (λ s. lexeme_at (98 ∷ 114 ∷ s)) (raw_text n body x y) ∙ at_class 98 (114 ∷ u) LetterBHead class98
        ∙ raw_chosen u (word_at (114 ∷ u)) (after_suffix (x ++ y)) (raw_opens_here n v) at
    go CPrefix = ap (λ s. lexeme_at (99 ∷ 114 ∷ s)) (raw_text n body x y) ∙ at_class 99 (114 ∷ u) LetterCHead class99
        ∙ raw_chosen u (word_at (114 ∷ u)) (after_suffix (x ++ y)) (raw_opens_here n v) at

-- ---- the end of a number with a base prefix in the lexer

pub based_goes : (letter : ℕ) (digits y : List ℕ) → is_base_letter letter ≡ true → list_all is_continue digits ≡ true
    → lexeme_at (48 ∷ letter ∷ digits ++ y) ≡ Some (LiteralForm, after_run is_continue y)
based_goes letter digits y is each =
    at_class 48 (letter ∷ digits ++ y) DigitHead (class_digit 48 refl)
    ∙ ap (λ b. Some (LiteralForm, cond b (after_run is_continue (digits ++ y)) (after_decimal (letter ∷ digits ++ y))))
    is
    ∙ ap (λ s. Some (LiteralForm, s)) (run_off is_continue digits y each)

-- ---- the end of a decimal number in the lexer

-- The text is a decimal number: a digit, and more text.
pub record DecimalForm (t : List ℕ) : Type 0 where
  pub digit : ℕ
  pub more : List ℕ
  pub is_digit : is_ascii_digit digit ≡ true
  pub is_decimal : IsDecimalText (digit ∷ more)
  pub text_is : t ≡ digit ∷ more

not_based : (d : ℕ) (u : List ℕ) → IsDecimalText (d ∷ u) → (d == 48 && first_passes is_base_letter u) ≡ false
not_based d [] h = none (d == 48)
  where
    none : (b : Bool) → (b && false) ≡ false
    none true = refl
    none false = refl
not_based d (c ∷ u) h = go (d == 48) (c == 98) (c == 111) (c == 120) h
  where
    go : (a p q r : Bool) → (((a && (p && true)) || (a && (q && true))) || (a && (r && true))) ≡ false
        → (a && ((r || q) || p)) ≡ false
    go false p q r h = refl
    go true false false false h = refl
    go true true q r h = absurd (cc)
    go true false true r h = absurd (cc)
    go true false false true h = absurd (cc)

-- If the lexer consumes no suffix at the start of a text, the text doesn't begin with the first character of an identifier.
letter_taken : (k : ℕ) (t : List ℕ) → is_start k ≡ true → after_suffix (k ∷ t) ≡ k ∷ t → ⊥
letter_taken k t is h = no_longer is_continue k t (sym (ap (λ b. cond b (after_run is_continue t) (k ∷ t)) is) ∙ h)

-- If the lexer's parser of decimal numbers consumes nothing of a text, the text doesn't begin with the letter of a base.
base_taken : (c : ℕ) (t : List ℕ) → is_base_letter c ≡ true → after_decimal (c ∷ t) ≡ c ∷ t → ⊥
base_taken c t is h = go (c == 120) (c == 111) refl refl is
  where
    At : ℕ → Type 0
    At k = after_decimal (k ∷ t) ≡ k ∷ t

    go : (a b : Bool) → (c == 120) ≡ a → (c == 111) ≡ b → (a || b || c == 98) ≡ true → ⊥
    go true b e f h2 = letter_taken 120 t (start_ascii 120 (lit< tt)) (subst At (is_equal c 120 e) h)
    go false true e f h2 = letter_taken 111 t (start_ascii 111 (lit< tt)) (subst At (is_equal c 111 f) h)
    go false false e f h2 = letter_taken 98 t (start_ascii 98 (lit< tt)) (subst At (is_equal c 98 h2) h)

no_base_after : (y : List ℕ) → after_decimal y ≡ y → first_passes is_base_letter y ≡ false
no_base_after [] h = refl
no_base_after (c ∷ t) h = false_unless (is_base_letter c) (λ is. base_taken c t is h)

-- Whether a text begins with the prefix of a base, such as `0x`. The text consists of the digit `d` and the text `u` after
-- it.
abbrev turns : ℕ → List ℕ → Bool
turns d u = d == 48 && first_passes is_base_letter u

chosen : (d : ℕ) (u : List ℕ) → turns d u ≡ false → after_digit d u ≡ after_decimal u
chosen d u h = ap (λ b. cond b (after_run is_continue (drop 1 u)) (after_decimal u)) h

no_turn_old : (d : ℕ) (m y : List ℕ) → IsDecimalText (d ∷ m) → after_digit d (m ++ y) ≡ y → turns d (m ++ y) ≡ false
no_turn_old d (c ∷ m) y is h = not_based d (c ∷ m) is
no_turn_old d [] [] is h = not_based d [] is
no_turn_old d [] (c ∷ t) is h = false_unless (turns d (c ∷ t))
    (λ k. no_longer is_continue c t (sym (ap (λ b. cond b (after_run is_continue t) (after_decimal (c ∷ t))) k) ∙ h))

no_turn_new : (d : ℕ) (m y : List ℕ) → IsDecimalText (d ∷ m) → after_decimal (m ++ y) ≡ y → turns d (m ++ y) ≡ false
no_turn_new d (c ∷ m) y is h = not_based d (c ∷ m) is
no_turn_new d [] y is h = ap (λ b. d == 48 && b) (no_base_after y h) ∙ none (d == 48)
  where
    none : (b : Bool) → (b && false) ≡ false
    none true = refl
    none false = refl

at_digit : (t y : List ℕ) (s : DecimalForm t) → lexeme_at (t ++ y)
    ≡ Some (LiteralForm, after_digit s.digit (s.more ++ y))
at_digit t y s = ap (λ z. lexeme_at (z ++ y)) s.text_is ∙ at_class s.digit (s.more ++ y) DigitHead
    (class_digit s.digit s.is_digit)

-- If the lexer reads a decimal number before the text `y` as one token, its parser of decimal numbers ends at `y`.
pub decimal_ends : (t y : List ℕ) (f : LexemeForm) (s : DecimalForm t) → lexeme_at (t ++ y) ≡ Some (f, y)
    → (f ≡ LiteralForm) × (after_decimal (s.more ++ y) ≡ y)
decimal_ends t y f s h =
    let p = same_pair LiteralForm f (after_digit s.digit (s.more ++ y)) y (sym (at_digit t y s) ∙ h) in
    (sym p.0, sym (chosen s.digit (s.more ++ y) (no_turn_old s.digit s.more y s.is_decimal p.1)) ∙ p.1)

pub decimal_goes : (t y : List ℕ) (f : LexemeForm) (s : DecimalForm t) → f ≡ LiteralForm
    → after_decimal (s.more ++ y) ≡ y → lexeme_at (t ++ y) ≡ Some (f, y)
decimal_goes t y f s e h =
    at_digit t y s
    ∙ ap (λ z. Some (LiteralForm, z)) (chosen s.digit (s.more ++ y) (no_turn_new s.digit s.more y s.is_decimal h) ∙ h)
    ∙ ap (λ z. Some (z, y)) (sym e)

-- ---- the lexer consumes the parts of a decimal number

abbrev is_part : ℕ → Bool
is_part c = is_run_part is_ascii_digit c

-- The lexer's parser of decimal numbers consumes digits and underscores, and continues after them.
pub digits_gone : (more z : List ℕ) → list_all is_part more ≡ true → after_decimal (more ++ z) ≡ after_decimal z
digits_gone more z h = ap (λ s. after_suffix (after_lexed_exponent (after_lexed_fraction s)))
    (run_off is_part more z h)

stands : (test : ℕ → Bool) (t : List ℕ) → first_passes test t ≡ false → after_run test t ≡ t
stands test t h = run_past test [] t (record { each = refl; ends = h })

-- The lexer's parser of decimal numbers consumes a dot and the digits after it. After them, it continues with an exponent and
-- a suffix.
pub fraction_gone : (f z : List ℕ) → IsDigits f → after_decimal (46 ∷ f ++ z) ≡ after_suffix (after_lexed_exponent
    (after_run is_part z))
fraction_gone [] z (first, each) = absurd (cc)
fraction_gone (d ∷ f) z (first, each) =
    let free : (d == 46 || is_start d) ≡ false = ap (λ b. b || is_start d) (not_among d 46 is_ascii_digit first refl)
    ∙ digit_not_start d first in
    ap (λ b. after_suffix (after_lexed_exponent (cond (not b) (after_run is_part (d ∷ f ++ z)) (46 ∷ d ∷ f ++ z)))) free
    ∙ ap (λ s. after_suffix (after_lexed_exponent s)) (run_off is_part (d ∷ f) z each)

letter_fails : (test : ℕ → Bool) (c : ℕ) → test 101 ≡ false → test 69 ≡ false → (c == 101 || c == 69) ≡ true
    → test c ≡ false
letter_fails test c lower upper h =
    elim (or_cases (c == 101) (c == 69) h) [
      | inl a ↦ subst (λ (x : ℕ). test x ≡ false) (sym (eqb-true c 101 a)) lower
      | inr a ↦ subst (λ (x : ℕ). test x ≡ false) (sym (eqb-true c 69 a)) upper
    ]

-- If a sequence of digits and underscores contains a digit, a digit follows its leading underscores.
row_digit : (row w : List ℕ) → list_all is_part row ≡ true → list_any is_ascii_digit row ≡ true
    → first_passes is_ascii_digit (after_run is_underscore (row ++ w)) ≡ true
row_digit [] w each some = absurd (cc)
row_digit (c ∷ row) w each some =
    let p = and_parts (is_part c) (list_all is_part row) each in
    go (is_ascii_digit c) refl p.0 some (row_digit row w p.1)
  where
    go : (b : Bool) → is_ascii_digit c ≡ b → (is_ascii_digit c || c == 95) ≡ true → (b || list_any is_ascii_digit row)
        ≡ true → (list_any is_ascii_digit row ≡ true → first_passes is_ascii_digit (after_run is_underscore (row ++ w))
        ≡ true) → first_passes is_ascii_digit (after_run is_underscore (c ∷ row ++ w)) ≡ true
    go true digit here more rest =
        ap (λ b. first_passes is_ascii_digit (cond b (after_run is_underscore (row ++ w)) (c ∷ row ++ w)))
        (not_among c 95 is_ascii_digit digit refl) ∙ digit
    go false digit here more rest =
        let e : (c == 95) ≡ true = ap (λ b. b || c == 95) (sym digit) ∙ here in
        ap (λ b. first_passes is_ascii_digit (cond b (after_run is_underscore (row ++ w)) (c ∷ row ++ w))) e ∙ rest more

-- If a sequence of digits and underscores contains a digit, it doesn't begin with a sign.
row_unsigned : (row w : List ℕ) → list_all is_part row ≡ true → list_any is_ascii_digit row ≡ true
    → after_sign (row ++ w) ≡ row ++ w
row_unsigned [] w each some = absurd (cc)
row_unsigned (c ∷ row) w each some =
    let h = (and_parts (is_part c) (list_all is_part row) each).0 in
    ap (λ b. cond (b || c == 45) (row ++ w) (c ∷ row ++ w)) (not_among c 43 is_part h refl)
    ∙ ap (λ b. cond b (row ++ w) (c ∷ row ++ w)) (not_among c 45 is_part h refl)

sign_gone : (sign row w : List ℕ) → ((sign ≡ []) ⊎ ((sign ≡ 43 ∷ []) ⊎ (sign ≡ 45 ∷ []))) → list_all is_part row ≡ true
    → list_any is_ascii_digit row ≡ true → after_sign (sign ++ (row ++ w)) ≡ row ++ w
sign_gone sign row w (inl e) each some = ap (λ z. after_sign (z ++ (row ++ w))) e ∙ row_unsigned row w each some
sign_gone sign row w (inr (inl e)) each some = ap (λ z. after_sign (z ++ (row ++ w))) e
sign_gone sign row w (inr (inr e)) each some = ap (λ z. after_sign (z ++ (row ++ w))) e

-- The lexer consumes the letter of an exponent, its sign and its digits.
power_gone : (letter : ℕ) (u row w : List ℕ) → (letter == 101 || letter == 69) ≡ true → after_sign u ≡ row ++ w
    → list_all is_part row ≡ true → list_any is_ascii_digit row ≡ true
    → after_lexed_exponent (letter ∷ u) ≡ after_run is_part w
power_gone letter u row w is e each some =
    let digit : first_passes is_ascii_digit (after_run is_underscore (after_sign u)) ≡ true = ap
    (λ z. first_passes is_ascii_digit (after_run is_underscore z)) e ∙ row_digit row w each some in
    ap (λ b. cond (b && first_passes is_ascii_digit (after_run is_underscore (after_sign u)))
    (after_run is_part (after_sign u)) (letter ∷ u)) is
    ∙ ap (λ b. cond b (after_run is_part (after_sign u)) (letter ∷ u)) digit
    ∙ ap (after_run is_part) e ∙ run_off is_part row w each

-- If a text begins with an exponent, the lexer's parser of exponents consumes it, and the digits and underscores after it.
exponent_gone : (e w : List ℕ) → IsStrictExponent e → after_lexed_exponent (e ++ w) ≡ after_run is_part w
exponent_gone e w s =
    ap (λ z. after_lexed_exponent (z ++ w)) s.text
    ∙ ap (λ z. after_lexed_exponent (s.letter ∷ z)) (append_assoc s.sign s.run w)
    ∙ power_gone s.letter (s.sign ++ (s.run ++ w)) s.run w s.is_letter
    (sign_gone s.sign s.run w s.is_sign s.each s.some) s.each s.some

-- If `e` and `E` fail a test, the first character of each exponent fails it.
exponent_stands : (test : ℕ → Bool) (e w : List ℕ) → IsStrictExponent e → test 101 ≡ false → test 69 ≡ false
    → first_passes test (e ++ w) ≡ false
exponent_stands test e w s a b = ap (λ z. first_passes test (z ++ w)) s.text
    ∙ letter_fails test s.letter a b s.is_letter

no_dot : (s : List ℕ) → first_passes (λ c. c == 46) s ≡ false → begins_dot s ≡ false
no_dot [] h = refl
no_dot (c ∷ t) h = ap (λ b. b && not (first_passes (λ d. d == 46 || is_start d) t)) h

-- The lexer's parser of decimal numbers consumes digits and an exponent. After them, it continues with a suffix.
pub power_ends : (more e w : List ℕ) → list_all is_part more ≡ true → IsStrictExponent e
    → after_decimal (more ++ (e ++ w)) ≡ after_suffix (after_run is_part w)
power_ends more e w each s =
    digits_gone more (e ++ w) each
    ∙ ap (λ z. after_suffix (after_lexed_exponent (after_lexed_fraction z)))
    (stands is_part (e ++ w) (exponent_stands is_part e w s refl refl))
    ∙ ap (λ b. after_suffix (after_lexed_exponent (cond b (after_run is_part (drop 1 (e ++ w))) (e ++ w))))
    (no_dot (e ++ w) (exponent_stands (λ c. c == 46) e w s refl refl))
    ∙ ap after_suffix (exponent_gone e w s)

-- The lexer's parser of decimal numbers consumes digits, a dot, digits and an exponent. After them, it continues with a
-- suffix.
pub pointed_power_ends : (more f e w : List ℕ) → list_all is_part more ≡ true → IsDigits f → IsStrictExponent e
    → after_decimal (more ++ (46 ∷ f ++ (e ++ w))) ≡ after_suffix (after_run is_part w)
pointed_power_ends more f e w each digits s =
    digits_gone more (46 ∷ f ++ (e ++ w)) each ∙ fraction_gone f (e ++ w) digits
    ∙ ap (λ z. after_suffix (after_lexed_exponent z))
    (stands is_part (e ++ w) (exponent_stands is_part e w s refl refl))
    ∙ ap after_suffix (exponent_gone e w s)

-- ---- a sequence of digits and a suffix contain only characters of identifiers

pub row_goes_on : (n : ℕ) (row : List ℕ) → n ≤ 16 → list_all (is_run_part (λ d. nat_lt (digit_value d) n)) row ≡ true
    → list_all is_continue row ≡ true
row_goes_on n row few h = all_weaker (is_run_part (λ d. nat_lt (digit_value d) n)) is_continue
    (λ c h. row_continues n c few h) row h
