-- Identifiers and punctuation characters that are recognized by their first one or two bytes.
use Rattle.rl_syntax.proofs.Common.{◌≡◌, ℕ, inl, lit<, Bool, true, false, not, ◌&&◌, ◌||◌, ◌==◌, cond, List, [], ◌∷◌, Some, None, nat_le, ◌<◌, ◌≤◌, ◌+◌, ◌-◌, refl, sym, subst, ◌∙◌, ap, arith, or_parts, and_parts, agree_below, agree_below_at, nat_tests, is_ascii, is_ascii_alphabetic, is_ascii_digit}
use Rattle.rl_lexer.proofs.LexemeRows.{not_true}
use Rattle.rl_syntax.specs.Texts.{first_passes, is_among, is_white, is_start, is_continue}
use Rattle.rl_lexer.specs.Lexemes.{delimiters, marks, LexemeForm, IdentifierForm, DelimiterForm, MarkForm}
use Rattle.rl_syntax.specs.Classes.{after_run}
use Rattle.rl_lexer.specs.Mirrors.LexemeAt.{FormBefore, LetterBHead, LetterCHead, LetterRHead, OtherLetterHead, StrayHead, is_prefix_letter, begins_word, continues_word, is_always_token, makes_comment, mark_form, start_class, lexeme_at, word_at}
use Rattle.rl_syntax.specs.Mirrors.RunsAt.{has_bit}
use Rattle.rl_lexer.proofs.LexemeFronts.{at_class, class_start, low_among, stray_class, front_delimiter, front_mark, front_slash, start_ascii, class98, class99, class114}
use Rattle.rl_lexer.proofs.LexemeAnswers.{form_before}
use Rattle.rl_syntax.proofs.Basics.{false_unless}
use Rattle.rl_lexer.proofs.Pieces.{is_equal}

-- ---- sets of 64 characters, a bit for each

pub low_marks : (c : ℕ) → c < 64 → has_bit 18158653859520577536 c ≡ is_always_token c
low_marks c low = agree_below_at (has_bit 18158653859520577536) is_always_token 64 c refl low

-- If the bits of a mask agree with a test for the characters 64 to 127, the bit of one of these characters is the
-- result of the test.
high_set : (bits : ℕ) (test : ℕ → Bool) → agree_below (has_bit bits) (λ k. test (64 + k)) 64 ≡ true → (c : ℕ) → 64 ≤ c
    → c < 128 → has_bit bits (c - 64) ≡ test c
high_set bits test all c h low =
    let e : 64 + (c - 64) ≡ c = omega arith in
    agree_below_at (has_bit bits) (λ k. test (64 + k)) 64 (c - 64) all (omega arith) ∙ ap test e

pub high_marks : (c : ℕ) → 64 ≤ c → c < 128 → has_bit 8646911286296182785 (c - 64) ≡ is_always_token c
high_marks c h low = high_set 8646911286296182785 is_always_token refl c h low

-- All delimiters and punctuation characters are ASCII.
mark_low : (c : ℕ) (d : Bool) → is_among delimiters c ≡ d → (d || is_among marks c) ≡ true → c < 128
mark_low c true is h = low_among delimiters c refl is
mark_low c false is h = low_among marks c refl h

pub wide_marks : (c : ℕ) → 128 ≤ c → is_always_token c ≡ false
wide_marks c high = false_unless (is_always_token c) (λ h. let low = mark_low c (is_among delimiters c) refl h in omega
    (arith, high, low))

pub high_words : (c : ℕ) → 64 ≤ c → c < 128 → has_bit 575334794548740094 (c - 64) ≡ true → begins_word c ≡ true
high_words c h low is =
    ap (λ b. not (is_prefix_letter c) && b) (start_ascii c low)
    ∙ sym (high_set 575334794548740094 (λ k. not (is_prefix_letter k)
    && ((k == 95 || is_ascii_alphabetic k) && not (is_white k))) refl c h low)
    ∙ is

-- ---- identifiers

other_letter : (b d r : Bool) → not (b || d || r) ≡ true → cond b LetterBHead
    (cond d LetterCHead (cond r LetterRHead OtherLetterHead)) ≡ OtherLetterHead
other_letter false false false h = refl
other_letter true d r h = absurd (cc)
other_letter false true r h = absurd (cc)
other_letter false false true h = absurd (cc)

word_here : (s t r : List ℕ) (c : ℕ) → s ≡ c ∷ t → lexeme_at (c ∷ t) ≡ word_at t → r ≡ after_run is_continue t
    → FormBefore s IdentifierForm r
word_here s t r c e h run = form_before s (IdentifierForm, r)
    (ap lexeme_at e ∙ h ∙ ap (λ x. Some (IdentifierForm, x)) (sym run))

pub word_found : (s t r : List ℕ) (c : ℕ) → s ≡ c ∷ t → begins_word c ≡ true → r ≡ after_run is_continue t
    → FormBefore s IdentifierForm r
word_found s t r c e is run =
    let parts = and_parts (not (is_prefix_letter c)) (is_start c) is in
    word_here s t r c e (at_class c t OtherLetterHead (class_start c parts.1
    ∙ other_letter (c == 98) (c == 99) (c == 114) parts.0)) run

-- ---- a first letter `b`, `c` or `r` that doesn't begin a literal

-- A character whose code is at least 64 differs from each character whose code is below 64, for example from the quote.
other_than : (d k : ℕ) → k < 64 → nat_le 64 d ≡ true → (d == k) ≡ false
other_than d k small h = grind (arith, nat_tests)

by_letter : (b d r : Bool) (c : ℕ) (t : List ℕ) → (c == 98) ≡ b → (c == 99) ≡ d → (c == 114) ≡ r → (b || d || r) ≡ true
    → first_passes continues_word t ≡ true → lexeme_at (c ∷ t) ≡ word_at t
by_letter b d r c [] eb ed er is h = absurd (cc)
by_letter true d r c (x ∷ u) eb ed er is h =
    let parts = and_parts (nat_le 64 x) (not (x == 114)) h in
    subst (λ (k : ℕ). lexeme_at (k ∷ x ∷ u) ≡ word_at (x ∷ u)) (sym (is_equal c 98 eb))
    (at_class 98 (x ∷ u) LetterBHead class98 ∙ rw (
      other_than x 34 (lit< tt) parts.0,
      other_than x 39 (lit< tt) parts.0,
      not_true (x == 114) parts.1,
    ) refl)
by_letter false true r c (x ∷ u) eb ed er is h =
    let parts = and_parts (nat_le 64 x) (not (x == 114)) h in
    subst (λ (k : ℕ). lexeme_at (k ∷ x ∷ u) ≡ word_at (x ∷ u)) (sym (is_equal c 99 ed))
    (at_class 99 (x ∷ u) LetterCHead class99 ∙ rw (other_than x 34 (lit< tt) parts.0, not_true (x == 114) parts.1) refl)
by_letter false false true c (x ∷ u) eb ed er is h =
    let parts = and_parts (nat_le 64 x) (not (x == 114)) h in
    subst (λ (k : ℕ). lexeme_at (k ∷ x ∷ u) ≡ word_at (x ∷ u)) (sym (is_equal c 114 er))
    (at_class 114 (x ∷ u) LetterRHead class114 ∙ rw (
      other_than x 35 (lit< tt) parts.0,
      other_than x 34 (lit< tt)
          parts.0,
    ) refl)
by_letter false false false c (x ∷ u) eb ed er is h = absurd (cc)

pub prefix_word_found : (s t r : List ℕ) (c : ℕ) → s ≡ c ∷ t → is_prefix_letter c ≡ true
    → first_passes continues_word t ≡ true → r ≡ after_run is_continue t → FormBefore s IdentifierForm r
prefix_word_found s t r c e is h run = word_here s t r c e (by_letter (c == 98) (c == 99) (c == 114) c t refl refl refl
    is h) run

-- ---- punctuation characters

mark_cases : (c : ℕ) (t : List ℕ) (d : Bool) → is_among delimiters c ≡ d → (d || is_among marks c) ≡ true
    → lexeme_at (c ∷ t) ≡ Some (cond d (DelimiterForm c) (MarkForm c), t)
mark_cases c t true is h = front_delimiter c t is
mark_cases c t false is h = front_mark c t (inl h)

pub mark_first : (s t : List ℕ) (c : ℕ) → s ≡ c ∷ t → is_always_token c ≡ true → lexeme_at s ≡ Some (mark_form c, t)
mark_first s t c e is = ap lexeme_at e ∙ mark_cases c t (is_among delimiters c) refl is

pub mark_found : (s t : List ℕ) (c : ℕ) (form : LexemeForm) → s ≡ c ∷ t → is_always_token c ≡ true → form ≡ mark_form c
    → FormBefore s form t
mark_found s t c form e is same = subst (λ (f : LexemeForm). FormBefore s f t) (sym same)
    (form_before s (mark_form c, t) (mark_first s t c e is))

pub slash_found : (s t : List ℕ) (c : ℕ) → s ≡ c ∷ t → c ≡ 47 → first_passes makes_comment t ≡ false
    → FormBefore s (MarkForm 47) t
slash_found s t c e is h = form_before s (MarkForm 47, t) (ap lexeme_at (e ∙ ap (λ x. x ∷ t) is) ∙ front_slash t h)

-- ---- text that begins no lexeme

pub stray_first : (s t : List ℕ) (c : ℕ) → s ≡ c ∷ t → is_start c ≡ false → is_always_token c ≡ false → (c == 47) ≡ false
    → is_ascii_digit c ≡ false → (c == 34) ≡ false → (c == 39) ≡ false → lexeme_at s ≡ None
stray_first s t c e start mark slash digit quote apostrophe =
    let parts = or_parts (is_among delimiters c) (is_among marks c) mark in
    ap lexeme_at e ∙ at_class c t StrayHead (stray_class c start parts.0 slash parts.1 digit quote apostrophe)

-- ---- non-ASCII characters

not_low : (c k : ℕ) → k < 128 → is_ascii c ≡ false → (c == k) ≡ false
not_low c k low is = grind (arith, nat_tests)

pub wide_word : (s t r : List ℕ) (c : ℕ) → s ≡ c ∷ t → is_ascii c ≡ false → is_start c ≡ true → r
    ≡ after_run is_continue t → Some (IdentifierForm, r) ≡ lexeme_at s
wide_word s t r c e wide start run =
    let letter : start_class c ≡ OtherLetterHead = rw (
      not_low c 98 (lit< tt) wide,
      not_low c 99 (lit< tt) wide,
      not_low
          c 114 (lit< tt) wide,
    ) refl in
    ap (λ x. Some (IdentifierForm, x)) run ∙ sym (ap lexeme_at e
    ∙ at_class c t OtherLetterHead (class_start c start ∙ letter))

pub wide_stray : (s t : List ℕ) (c : ℕ) → s ≡ c ∷ t → is_ascii c ≡ false → is_start c ≡ false → lexeme_at s ≡ None
wide_stray s t c e wide start =
    let high : 128 ≤ c = grind (arith, nat_tests) in
    let digit : is_ascii_digit c ≡ false = grind (arith, nat_tests) in
    stray_first s t c e start (wide_marks c high) (not_low c 47 (lit< tt) wide) digit (not_low c 34 (lit< tt) wide)
    (not_low c 39 (lit< tt) wide)
