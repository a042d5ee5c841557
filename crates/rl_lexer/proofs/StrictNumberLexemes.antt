-- A number by Rust's grammar is one lexeme before each text that may follow a literal.
use Rattle.rl_syntax.proofs.Common.{◌≡◌, ℕ, ◌≤◌, ◌⊎◌, inl, inr, suc, Bool, true, false, not, ◌&&◌, ◌||◌, ◌==◌, List, [], ◌∷◌, ◌++◌, replicate, refl, sym, ◌∙◌, ap, subst, arith, append_assoc, append-nil, lit<, nat_lt, list_all, list_any, digit_value, is_ascii_digit, and_parts, and_from, or_from, or_cases, eqb-true, list_all-append}
use Rattle.rl_syntax.specs.Texts.{first_passes, begins, is_run_part, is_start, is_continue}
use Rattle.rl_syntax.specs.Numbers.{Decimal, is_digit}
use Rattle.rl_lexer.specs.Lexemes.{is_base_letter, begins_dot, LexedFraction, NoLexedFraction, LexedDot, lexed_fraction_text, LexedSign, NoLexedSign, LexedPlus, LexedMinus, lexed_sign_text, LexedExponent, NoLexedExponent, LexedPower, lexed_exponent_text, IsLexedFraction, IsLexedExponent, BasedLexeme, DecimalLexeme}
use Rattle.rl_syntax.specs.Reading.{Contents}
use Rattle.rl_syntax.specs.Strict.{IsDigits, IsDecimalText, IsStrictSuffix, IsNumberSuffix, StrictInt, StrictFloat, IsStrictExponent}
use Rattle.rl_syntax.proofs.Basics.{all_weaker, passes_same, digit_is_ten}
use Rattle.rl_syntax.proofs.StrictNumbers.{suffix_of_strict, suffix_no_part}
use Rattle.rl_lexer.proofs.Continues.{row_continues}
use Rattle.rl_lexer.proofs.LexemeRows.{not_among}
use Rattle.rl_lexer.proofs.LexemeOpeners.{no_exponent_begins}
use Rattle.rl_lexer.proofs.LexemeFronts.{start_ascii, digit_not_start, decimal_text}
use Rattle.rl_lexer.proofs.LexemeGaps.{and_false, and_more, assoc3}
use Rattle.rl_lexer.proofs.PrintedCuts.{LexedBefore}
use Rattle.rl_lexer.proofs.LiteralEnds.{EndsLiteral, Clear, clear_continue, clear_part, clear_dot, clear_base, clear_exponent, clear_code, ends_fails, front_fails, suffix_starts, suffix_continues, strict_suffix_lexed}
use Rattle.rl_lexer.specs.Mirrors.LexemeAt.{begins_exponent, after_sign}
use Rattle.rl_syntax.specs.Classes.{after_run}

-- Lemmas about the parts of a decimal number, without the text that follows.
abbrev is_dot_or_start : ℕ → Bool
is_dot_or_start d = d == 46 || is_start d

abbrev is_letter : ℕ → Bool
is_letter c = c == 101 || c == 69

abbrev FractionFacts : LexedFraction → List ℕ → Type 0
FractionFacts NoLexedFraction s = first_passes (λ c. c == 46) s ≡ false
FractionFacts (LexedDot digits) s = (first_passes is_dot_or_start (digits ++ s) ≡ false)
    × (list_all (is_run_part is_ascii_digit) digits ≡ true) × (first_passes (is_run_part is_ascii_digit) s ≡ false)

abbrev ExponentFacts : LexedExponent → List ℕ → Type 0
ExponentFacts NoLexedExponent x = first_passes is_letter x ≡ false
ExponentFacts (LexedPower letter sign n d more) x = (is_letter letter ≡ true) × (is_ascii_digit d ≡ true)
    × (list_all (is_run_part is_ascii_digit) more ≡ true) × (first_passes (is_run_part is_ascii_digit) x ≡ false)

record DecimalFacts (t : List ℕ) : Type 0 where
  pub digit : ℕ
  pub more : List ℕ
  pub fraction : LexedFraction
  pub exponent : LexedExponent
  pub suffix : List ℕ
  pub is_digit : is_ascii_digit digit ≡ true
  pub each : list_all (is_run_part is_ascii_digit) more ≡ true
  pub row_ends : first_passes (is_run_part is_ascii_digit) (lexed_fraction_text fraction
      ++ (lexed_exponent_text exponent ++ suffix)) ≡ false
  pub is_fraction : FractionFacts fraction (lexed_exponent_text exponent ++ suffix)
  pub is_exponent : ExponentFacts exponent suffix
  pub is_suffix : IsStrictSuffix suffix
  pub is_decimal : IsDecimalText t
  pub text : t ≡ digit ∷ (more ++ (lexed_fraction_text fraction ++ (lexed_exponent_text exponent ++ suffix)))

not_based : (d : ℕ) (u : List ℕ) → IsDecimalText (d ∷ u) → (d == 48 && first_passes is_base_letter u) ≡ false
not_based d [] h = and_false (d == 48)
not_based d (c ∷ u) h = go (d == 48) (c == 98) (c == 111) (c == 120) h
  where
    go : (a p q r : Bool) → (((a && (p && true)) || (a && (q && true))) || (a && (r && true))) ≡ false
        → (a && ((r || q) || p)) ≡ false
    go false p q r h = refl
    go true false false false h = refl
    go true true q r h = absurd (cc)
    go true false true r h = absurd (cc)
    go true false false true h = absurd (cc)

no_dot : (s : List ℕ) → first_passes (λ c. c == 46) s ≡ false → begins_dot s ≡ false
no_dot [] h = refl
no_dot (c ∷ t) h = ap (λ b. b && not (first_passes (λ d. d == 46 || is_start d) t)) h

no_exponent : (s : List ℕ) → first_passes is_letter s ≡ false → begins_exponent s ≡ false
no_exponent [] h = refl
no_exponent (c ∷ t) h = ap (λ b. b && first_passes is_ascii_digit (after_run (λ c. c == 95) (after_sign t))) h

-- Suppose that a test fails for each character that may follow a literal in a printed list. If two joined texts don't
-- begin with a character that passes the test, this is still so after a text that may follow a literal is appended.
fails_tail2 : (test : ℕ → Bool) (e x after : List ℕ) → Clear test → EndsLiteral after → first_passes test (e ++ x)
    ≡ false → first_passes test (e ++ (x ++ after)) ≡ false
fails_tail2 test e x after clear ends h = ap (first_passes test) (sym (append_assoc e x after))
    ∙ front_fails test (e ++ x) after clear ends h

fails_tail3 : (test : ℕ → Bool) (f e x after : List ℕ) → Clear test → EndsLiteral after
    → first_passes test (f ++ (e ++ x)) ≡ false → first_passes test (f ++ (e ++ (x ++ after))) ≡ false
fails_tail3 test f e x after clear ends h = ap (first_passes test) (sym (assoc3 f e x after))
    ∙ front_fails test (f ++ (e ++ x)) after clear ends h

fraction_lexed : (f : LexedFraction) (e x after : List ℕ) → EndsLiteral after → FractionFacts f (e ++ x)
    → IsLexedFraction f (e ++ (x ++ after))
fraction_lexed NoLexedFraction e x after ends h = no_dot (e ++ (x ++ after))
    (fails_tail2 (λ c. c == 46) e x after (clear_code 46 refl refl) ends h)
fraction_lexed (LexedDot digits) e x after ends (begins, each, row_ends) = (
  ap not (fails_tail3 is_dot_or_start digits e x after clear_dot ends begins),
  record
      { each = each; ends = fails_tail2 (is_run_part is_ascii_digit) e x after clear_part ends row_ends },
)

exponent_lexed : (e : LexedExponent) (x after : List ℕ) → EndsLiteral after → ExponentFacts e x
    → IsLexedExponent e (x ++ after)
exponent_lexed NoLexedExponent x after ends h =
    no_exponent_begins (x ++ after) (no_exponent (x ++ after) (front_fails is_letter x after clear_exponent ends h))
exponent_lexed (LexedPower letter sign n d more) x after ends (is, digit, each, row_ends) =
    (is, digit, record { each = each; ends = front_fails (is_run_part is_ascii_digit) x after clear_part ends row_ends })

decimal_lexed : (t : List ℕ) → DecimalFacts t → LexedBefore EndsLiteral t
decimal_lexed t s =
    let f = lexed_fraction_text s.fraction in
    let e = lexed_exponent_text s.exponent in
    let u = s.more ++ (f ++ (e ++ s.suffix)) in
    let decimal : IsDecimalText (s.digit ∷ u) = subst (λ (z : List ℕ). IsDecimalText z) s.text s.is_decimal in
    record {
      lexeme = DecimalLexeme s.digit s.more s.fraction s.exponent s.suffix;
      is_lexeme = λ after ends. (
        s.is_digit,
        ap (λ z. s.digit == 48 && first_passes is_base_letter z) (sym (decimal_text s.more f e s.suffix after))
            ∙ and_more (s.digit == 48) (first_passes is_base_letter u) (first_passes is_base_letter (u ++ after))
            (front_fails is_base_letter u after clear_base ends) (not_based s.digit u decimal),
        record { each = s.each; ends = fails_tail3 (is_run_part is_ascii_digit) f e s.suffix after clear_part ends s.row_ends },
        fraction_lexed s.fraction e s.suffix after ends s.is_fraction,
        exponent_lexed s.exponent s.suffix after ends s.is_exponent,
        strict_suffix_lexed s.suffix after s.is_suffix ends,
      );
      form = refl;
      text_is = s.text;
    }

-- Lemmas about sequences of digits, suffixes and exponents.
record DigitRun (run : List ℕ) : Type 0 where
  pub digit : ℕ
  pub more : List ℕ
  pub text : run ≡ digit ∷ more
  pub is_digit : is_ascii_digit digit ≡ true
  pub each : list_all (is_run_part is_ascii_digit) more ≡ true

digit_row : (run : List ℕ) → IsDigits run → DigitRun run
digit_row [] (first, each) = absurd (cc)
digit_row (d ∷ more) (first, each) = record { digit = d; more = more; text = refl; is_digit = first; each = (and_parts (is_run_part is_ascii_digit d) (list_all (is_run_part is_ascii_digit) more) each).1 }

suffix_no_numeral : (x : List ℕ) → IsNumberSuffix x → first_passes (is_run_part is_ascii_digit) x ≡ false
suffix_no_numeral x is = passes_same (is_run_part is_ascii_digit) (is_run_part (is_digit Decimal))
    (λ c. ap (λ b. b || c == 95) (digit_is_ten c)) x ∙ suffix_no_part x (suffix_of_strict x is)

suffix_no_dot : (x : List ℕ) → IsStrictSuffix x → first_passes (λ c. c == 46) x ≡ false
suffix_no_dot [] is = refl
suffix_no_dot (c ∷ cs) is = not_among c 46 is_start (suffix_starts c cs is) (start_ascii 46 (lit< tt))

letter_fails : (test : ℕ → Bool) (c : ℕ) → test 101 ≡ false → test 69 ≡ false → is_letter c ≡ true → test c ≡ false
letter_fails test c lower upper h =
    elim (or_cases (c == 101) (c == 69) h) [
      | inl a ↦ subst (λ (x : ℕ). test x ≡ false) (sym (eqb-true c 101 a)) lower
      | inr a ↦ subst (λ (x : ℕ). test x ≡ false) (sym (eqb-true c 69 a)) upper
    ]

-- The sequence of an exponent's digits: underscores, a digit, and more digits and underscores.
record PowerRow (run : List ℕ) : Type 0 where
  pub underscores : ℕ
  pub digit : ℕ
  pub more : List ℕ
  pub text : run ≡ replicate underscores 95 ++ (digit ∷ more)
  pub is_digit : is_ascii_digit digit ≡ true
  pub each : list_all (is_run_part is_ascii_digit) more ≡ true

power_run : (run : List ℕ) → list_all (is_run_part is_ascii_digit) run ≡ true → list_any is_ascii_digit run ≡ true
    → PowerRow run
power_run [] each some = absurd (cc)
power_run (c ∷ run) each some =
    let p = and_parts (is_run_part is_ascii_digit c) (list_all (is_run_part is_ascii_digit) run) each in
    go (is_ascii_digit c) refl p.0 p.1 (power_run run p.1) some
  where
    go : (b : Bool) → is_ascii_digit c ≡ b → is_run_part is_ascii_digit c ≡ true
        → list_all (is_run_part is_ascii_digit) run
        ≡ true → (list_any is_ascii_digit run ≡ true → PowerRow run) → (b || list_any is_ascii_digit run) ≡ true
        → PowerRow (c ∷ run)
    go true digit here each rest some = record { underscores = 0; digit = c; more = run; text = refl; is_digit = digit; each = each }
    go false digit here each rest some =
        let r = rest some in
        let e : (c == 95) ≡ true = ap (λ b. b || c == 95) (sym digit) ∙ here in
        record { underscores = suc r.underscores; digit = r.digit; more = r.more; text = ap (λ z. z ∷ run) (eqb-true c 95 e) ∙ ap (λ z. 95 ∷ z) r.text; is_digit = r.is_digit; each = r.each }

record PowerFacts (e : List ℕ) : Type 0 where
  pub letter : ℕ
  pub sign : LexedSign
  pub run : List ℕ
  pub is_letter : is_letter letter ≡ true
  pub power : PowerRow run
  pub text : e ≡ lexed_exponent_text (LexedPower letter sign power.underscores power.digit power.more)

sign_of : (sign : List ℕ) → ((sign ≡ []) ⊎ ((sign ≡ 43 ∷ []) ⊎ (sign ≡ 45 ∷ []))) → (s : LexedSign)
    × (sign ≡ lexed_sign_text s)
sign_of sign (inl e) = (NoLexedSign, e)
sign_of sign (inr (inl e)) = (LexedPlus, e)
sign_of sign (inr (inr e)) = (LexedMinus, e)

power_facts : (e : List ℕ) → IsStrictExponent e → PowerFacts e
power_facts e s =
    let p = power_run s.run s.each s.some in
    let (sign, same) = sign_of s.sign s.is_sign in
    record { letter = s.letter; sign = sign; run = s.run; is_letter = s.is_letter; power = p; text = s.text ∙ ap (λ z. s.letter ∷ (z ++ s.run)) same ∙ ap (λ z. s.letter ∷ (lexed_sign_text sign ++ z)) p.text }

-- Lemmas about integer literals by Rust's grammar.
decimal_int : (t x : List ℕ) (v : Contents) (s : StrictInt t v x) → s.prefix ≡ [] → IsDigits s.run → IsDecimalText t
    → LexedBefore EndsLiteral t
decimal_int t x v s none digits decimal =
    let r = digit_row s.run digits in
    decimal_lexed t
    (record {
      digit = r.digit;
      more = r.more;
      fraction = NoLexedFraction;
      exponent = NoLexedExponent;
      suffix = x;
      is_digit = r.is_digit;
      each = r.each;
      row_ends = suffix_no_numeral x s.suffix;
      is_fraction = suffix_no_dot x s.suffix.0;
      is_exponent = s.no_exponent;
      is_suffix = s.suffix.0;
      is_decimal = decimal;
      text = s.text ∙ ap (λ z. (z ++ s.run) ++ x) none ∙ ap (λ z. z ++ x) r.text;
    })

based_int : (letter n : ℕ) (t x : List ℕ) (v : Contents) (s : StrictInt t v x) → s.prefix ≡ 48 ∷ letter ∷ [] → s.base
    ≡ n → n ≤ 16 → is_base_letter letter ≡ true → LexedBefore EndsLiteral t
based_int letter n t x v s front base few is =
    let each : list_all (is_run_part (λ d. nat_lt (digit_value d) n)) s.run
    ≡ true = subst (λ (k : ℕ). list_all (is_run_part (λ d. nat_lt (digit_value d) k)) s.run ≡ true) base s.each in
    let digits : list_all is_continue s.run ≡ true = all_weaker (is_run_part (λ d. nat_lt (digit_value d) n))
    is_continue
    (λ c h. row_continues n c few h) s.run each in
    record {
      lexeme = BasedLexeme letter (s.run ++ x);
      is_lexeme = λ after ends. (
        is,
        record {
          each = list_all-append is_continue s.run x ∙ and_from _ _ digits (suffix_continues x s.suffix.0);
          ends = ends_fails is_continue after clear_continue ends;
        },
      );
      form = refl;
      text_is = s.text ∙ ap (λ z. (z ++ s.run) ++ x) front;
    }

-- An integer by Rust's grammar is one lexeme before each text that may follow a literal.
pub int_lexed : (t x : List ℕ) (v : Contents) → StrictInt t v x → LexedBefore EndsLiteral t
int_lexed t x v s =
    elim s.is_front [
      | inl f ↦ decimal_int t x v s f.0 f.2 f.3
      | inr f ↦ elim f [
        | inl g ↦ based_int 98 2 t x v s g.0 g.1 (omega arith) refl
        | inr g ↦ elim g [
          | inl h ↦ based_int 111 8 t x v s h.0 h.1 (omega arith) refl
          | inr h ↦ based_int 120 16 t x v s h.0 h.1 (omega arith) refl
        ]
      ]
    ]

-- Lemmas about float literals by Rust's grammar.
float_from : (t x d : List ℕ) (v : Contents) (s : StrictFloat t v x) (f : LexedFraction) (e : LexedExponent)
    → IsDigits d → s.numeral ≡ d ++ (lexed_fraction_text f ++ lexed_exponent_text e)
    → first_passes (is_run_part is_ascii_digit) (lexed_fraction_text f ++ (lexed_exponent_text e ++ x)) ≡ false
    → FractionFacts f (lexed_exponent_text e ++ x) → ExponentFacts e x → LexedBefore EndsLiteral t
float_from t x d v s f e digits numeral row_ends is_fraction is_exponent =
    let r = digit_row d digits in
    decimal_lexed t
    (record {
      digit = r.digit;
      more = r.more;
      fraction = f;
      exponent = e;
      suffix = x;
      is_digit = r.is_digit;
      each = r.each;
      row_ends = row_ends;
      is_fraction = is_fraction;
      is_exponent = is_exponent;
      is_suffix = s.suffix.0;
      is_decimal = s.no_prefix;
      text = s.text ∙ ap (λ z. z ++ x) numeral
          ∙ ap (λ z. (z ++ (lexed_fraction_text f ++ lexed_exponent_text e)) ++ x) r.text
          ∙ ap (λ z. r.digit ∷ z) (assoc3 r.more (lexed_fraction_text f) (lexed_exponent_text e) x);
    })

dot_alone : (t x d : List ℕ) (v : Contents) (s : StrictFloat t v x) → IsDigits d → s.numeral ≡ d ++ (46 ∷ []) → x ≡ []
    → LexedBefore EndsLiteral t
dot_alone t x d v s digits numeral none =
    float_from t x d v s (LexedDot []) NoLexedExponent digits numeral refl
    (ap (first_passes is_dot_or_start) none, refl, ap (first_passes (is_run_part is_ascii_digit)) none)
    (ap (first_passes is_letter) none)

-- The digits after a float's dot begin neither with a dot nor with a character that may begin an identifier.
digits_behind_dot : (f s : List ℕ) → IsDigits f → first_passes is_dot_or_start (f ++ s) ≡ false
digits_behind_dot f s digits =
    let r = digit_row f digits in
    ap (λ z. first_passes is_dot_or_start (z ++ s)) r.text ∙ or_from (r.digit == 46) (is_start r.digit)
    (not_among r.digit 46 is_ascii_digit r.is_digit refl) (digit_not_start r.digit r.is_digit)

pointed : (t x d f : List ℕ) (v : Contents) (s : StrictFloat t v x) → IsDigits d → IsDigits f → s.numeral ≡ d
    ++ (46 ∷ f) → first_passes is_letter x ≡ false → LexedBefore EndsLiteral t
pointed t x d f v s digits following numeral no_letter =
    float_from t x d v s (LexedDot f) NoLexedExponent digits (numeral ∙ ap (λ z. d ++ (46 ∷ z)) (sym (append-nil f)))
    refl
    (digits_behind_dot f x following, following.1, suffix_no_numeral x s.suffix) no_letter

whole_power : (t x d e : List ℕ) (v : Contents) (s : StrictFloat t v x) → IsDigits d → PowerFacts e → s.numeral ≡ d ++ e
    → LexedBefore EndsLiteral t
whole_power t x d e v s digits p numeral =
    float_from t x d v s NoLexedFraction (LexedPower p.letter p.sign p.power.underscores p.power.digit p.power.more)
    digits (numeral ∙ ap (λ z. d ++ z) p.text)
    (letter_fails (is_run_part is_ascii_digit) p.letter refl refl p.is_letter)
    (letter_fails (λ c. c == 46) p.letter refl refl p.is_letter)
    (p.is_letter, p.power.is_digit, p.power.each, suffix_no_numeral x s.suffix)

pointed_power : (t x d f e : List ℕ) (v : Contents) (s : StrictFloat t v x) → IsDigits d → IsDigits f → PowerFacts e
    → s.numeral ≡ (d ++ (46 ∷ f)) ++ e → LexedBefore EndsLiteral t
pointed_power t x d f e v s digits following p numeral =
    float_from t x d v s (LexedDot f) (LexedPower p.letter p.sign p.power.underscores p.power.digit p.power.more) digits
    (numeral ∙ append_assoc d (46 ∷ f) e ∙ ap (λ z. d ++ ((46 ∷ f) ++ z)) p.text) refl (
      digits_behind_dot f _ following,
      following.1,
      letter_fails (is_run_part is_ascii_digit) p.letter refl refl
          p.is_letter,
    )
    (p.is_letter, p.power.is_digit, p.power.each, suffix_no_numeral x s.suffix)

-- A float by Rust's grammar is one lexeme before each text that may follow a literal.
pub float_lexed : (t x : List ℕ) (v : Contents) → StrictFloat t v x → LexedBefore EndsLiteral t
float_lexed t x v s =
    elim s.form [
      | inl a ↦ dot_alone t x a.0 v s a.1 a.2 a.3
      | inr b ↦ elim b [
        | inl a ↦ pointed t x a.0 a.1 v s a.2 a.3 a.4 a.5
        | inr a ↦ elim a.4 [
          | inl e ↦ whole_power t x a.0 a.1 v s a.2 (power_facts a.1 a.3) e
          | inr e ↦ pointed_power t x a.0 e.0 a.1 v s a.2 e.1 (power_facts a.1 a.3) e.2
        ]
      ]
    ]
