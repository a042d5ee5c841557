-- A new decimal number has the first digit and the suffix of the old one. The new number has a fraction if the old one has
-- one, and an exponent if the old one has one. Each text that may follow the old number may also follow the new one.
use Rattle.rl_syntax.proofs.Common.{◌≡◌, ℕ, ◌<◌, inl, inr, Bool, true, false, not, ◌&&◌, ◌||◌, ◌==◌, List, [], ◌∷◌, ◌++◌, replicate, refl, sym, ◌∙◌, ap, subst, arith, nat_tests, lit<, append_assoc, and_parts, list_all, is_ascii_alphabetic, is_ascii_digit}
use Rattle.rl_syntax.proofs.Basics.{false_unless}
use Rattle.rl_syntax.specs.Texts.{is_white, first_passes, is_run_part, is_start}
use Rattle.rl_lexer.specs.Lexemes.{begins_dot, is_base_letter, LexedFraction, NoLexedFraction, LexedDot, lexed_fraction_text, LexedSign, LexedExponent, NoLexedExponent, LexedPower, lexed_exponent_text, lexed_sign_text, IsRun, IsLexedSuffix, IsLexedFraction, IsLexedExponent, DecimalLexeme, IsLexeme}
use Rattle.rl_lexer.proofs.Pieces.{is_equal}
use Rattle.rl_lexer.proofs.LexemeFronts.{start_ascii}
use Rattle.rl_lexer.proofs.LexemeRows.{not_among}
use Rattle.rl_style.specs.Around.{SameFraction, SamePower}

abbrev is_part : ℕ → Bool
is_part c = is_run_part is_ascii_digit c

pub letter_out : (test : ℕ → Bool) (c : ℕ) → (c == 101 || c == 69) ≡ true → test 101 ≡ false → test 69 ≡ false → test c
    ≡ false
letter_out test c is p q = go (c == 101) refl is
  where
    go : (b : Bool) → (c == 101) ≡ b → (b || c == 69) ≡ true → test c ≡ false
    go true e h = subst (λ (z : ℕ). test z ≡ false) (sym (is_equal c 101 e)) p
    go false e h = subst (λ (z : ℕ). test z ≡ false) (sym (is_equal c 69 h)) q

base_start : (c : ℕ) → (c == 120 || c == 111 || c == 98) ≡ true → is_start c ≡ true
base_start c is = go (c == 120) (c == 111) refl refl is
  where
    go : (a b : Bool) → (c == 120) ≡ a → (c == 111) ≡ b → (a || b || c == 98) ≡ true → is_start c ≡ true
    go true b e f h = subst (λ (z : ℕ). is_start z ≡ true) (sym (is_equal c 120 e)) (start_ascii 120 (lit< tt))
    go false true e f h = subst (λ (z : ℕ). is_start z ≡ true) (sym (is_equal c 111 f)) (start_ascii 111 (lit< tt))
    go false false e f h = subst (λ (z : ℕ). is_start z ≡ true) (sym (is_equal c 98 h)) (start_ascii 98 (lit< tt))

no_start_no_base : (t : List ℕ) → first_passes is_start t ≡ false → first_passes is_base_letter t ≡ false
no_start_no_base [] h = refl
no_start_no_base (c ∷ t) h = false_unless (is_base_letter c) (λ is. let q : true ≡ false = sym (base_start c is) ∙ h in
    absurd (cc))

-- The text after the last sequence of digits of a number begins with neither a digit nor an underscore.
tail_ends : (f : LexedFraction) (e : LexedExponent) (more u : List ℕ)
    → IsRun is_part more (lexed_fraction_text f ++ (lexed_exponent_text e ++ u))
    → IsLexedFraction f (lexed_exponent_text e ++ u) → IsLexedExponent e u → first_passes is_part u ≡ false
tail_ends NoLexedFraction NoLexedExponent more u run fraction power = run.ends
tail_ends (LexedDot ds) NoLexedExponent more u run (begins, digits) power = digits.ends
tail_ends f (LexedPower letter s n d ds) more u run fraction (il, id, digits) = digits.ends

-- A text consists of an optional exponent, and of the text `u` after it. If `e`, `E` and the first character of `u` fail a
-- test, the first character of the whole text fails it.
power_first : (test : ℕ → Bool) (e p : LexedExponent) (u : List ℕ) → SamePower e p → test 101 ≡ false → test 69 ≡ false
    → first_passes test u ≡ false → first_passes test (lexed_exponent_text p ++ u) ≡ false
power_first test NoLexedExponent NoLexedExponent u same a b h = h
power_first test (LexedPower _ _ _ _ _) (LexedPower letter s n d ds) u (il, id, run) a b h = letter_out test letter il a
    b
power_first test NoLexedExponent (LexedPower letter s n d ds) u same a b h = absurd same
power_first test (LexedPower _ _ _ _ _) NoLexedExponent u same a b h = absurd same

dot_first : (e p : LexedExponent) (u : List ℕ) → SamePower e p → begins_dot (lexed_exponent_text e ++ u) ≡ false
    → begins_dot (lexed_exponent_text p ++ u) ≡ false
dot_first NoLexedExponent NoLexedExponent u same h = h
dot_first (LexedPower _ _ _ _ _) (LexedPower letter s n d ds) u (il, id, run) h =
    let rest : List ℕ = (lexed_sign_text s ++ (replicate n 95 ++ d ∷ ds)) ++ u in
    ap (λ b. b && not (first_passes (λ k. k == 46 || is_start k) rest)) (letter_out (λ c. c == 46) letter il refl refl)
dot_first NoLexedExponent (LexedPower letter s n d ds) u same h = absurd same
dot_first (LexedPower _ _ _ _ _) NoLexedExponent u same h = absurd same

no_digit_start : (c : ℕ) → is_ascii_digit c ≡ true → is_start c ≡ true → ⊥
no_digit_start c d s =
    let low : c < 128 = grind (arith, nat_tests) in
    let q : ((c == 95 || is_ascii_alphabetic c) && not (is_white c)) ≡ true = sym (start_ascii c low) ∙ s in
    let k : (c == 95 || is_ascii_alphabetic c) ≡ true = (and_parts (c == 95 || is_ascii_alphabetic c) (not (is_white c))
    q).0 in
    grind (arith, nat_tests)

no_power : (a : ℕ) (b : LexedSign) (c d : ℕ) (k : List ℕ) → LexedPower a b c d k ≡ NoLexedExponent → ⊥
no_power a b c d k e = cc

digit_dot : (es u : List ℕ) → first_passes is_ascii_digit es ≡ true → begins_dot (46 ∷ es ++ u) ≡ true
digit_dot [] u h = let q : true ≡ false = sym h in absurd (cc)
digit_dot (c ∷ es) u h =
    ap (λ b. not (b || is_start c)) (not_among c 46 is_ascii_digit h refl)
    ∙ ap not (false_unless (is_start c) (λ s. both s))
  where
    both : is_start c ≡ true → ⊥
    both s = no_digit_start c h s

fraction_is : (f g : LexedFraction) (e p : LexedExponent) (u : List ℕ) → SameFraction f g e → SamePower e p
    → first_passes is_part u ≡ false → IsLexedFraction f (lexed_exponent_text e ++ u)
    → IsLexedFraction g (lexed_exponent_text p ++ u)
fraction_is NoLexedFraction NoLexedFraction e p u same power ends is = dot_first e p u power is
fraction_is (LexedDot ds) (LexedDot es) e p u (each, inl first) power ends is =
    (digit_dot es (lexed_exponent_text p ++ u) first, record { each = each; ends = power_first is_part e p u power refl refl ends })
fraction_is (LexedDot ds) (LexedDot es) NoLexedExponent NoLexedExponent u (each, inr (no_ds, no_es, none)) power ends
    (begins, run) =
    (ap (λ z. begins_dot (46 ∷ z ++ u)) (no_es ∙ sym no_ds) ∙ begins, record { each = each; ends = ends })
fraction_is (LexedDot ds) (LexedDot es) (LexedPower a b c d k) p u (each, inr (no_ds, no_es, none)) power ends is =
    absurd (no_power a b c d k none)
fraction_is (LexedDot ds) (LexedDot es) NoLexedExponent (LexedPower a b c d k) u (each, inr s) power ends is = absurd
    power
fraction_is NoLexedFraction (LexedDot es) e p u same power ends is = absurd same
fraction_is (LexedDot ds) NoLexedFraction e p u same power ends is = absurd same

power_is : (e p : LexedExponent) (u : List ℕ) → SamePower e p → first_passes is_part u ≡ false → IsLexedExponent e u
    → IsLexedExponent p u
power_is NoLexedExponent NoLexedExponent u same ends is = is
power_is (LexedPower _ _ _ _ _) (LexedPower letter s n d ds) u (il, id, run) ends is =
    (il, id, record { each = run; ends = ends })
power_is NoLexedExponent (LexedPower letter s n d ds) u same ends is = absurd same
power_is (LexedPower _ _ _ _ _) NoLexedExponent u same ends is = absurd same

row_ends : (f g : LexedFraction) (e p : LexedExponent) (u : List ℕ) → SameFraction f g e → SamePower e p
    → first_passes is_part u ≡ false → first_passes is_part (lexed_fraction_text g ++ (lexed_exponent_text p ++ u))
    ≡ false
row_ends NoLexedFraction NoLexedFraction e p u same power ends = power_first is_part e p u power refl refl ends
row_ends (LexedDot ds) (LexedDot es) e p u same power ends = refl
row_ends NoLexedFraction (LexedDot es) e p u same power ends = absurd same
row_ends (LexedDot ds) NoLexedFraction e p u same power ends = absurd same

base_new : (b : Bool) (s x after : List ℕ) → (b && first_passes is_base_letter (s ++ x)) ≡ false → IsLexedSuffix x after
    → (b && first_passes is_base_letter ((s ++ x) ++ after)) ≡ false
base_new true [] [] after h is = no_start_no_base after is
base_new false [] [] after h is = refl
base_new b [] (c ∷ x) after h is = h
base_new b (c ∷ s) x after h is = h

joined : (m f e x t : List ℕ) → ((m ++ (f ++ e)) ++ x) ++ t ≡ m ++ (f ++ (e ++ (x ++ t)))
joined m f e x t = simp append_assoc

joined_short : (m f e x : List ℕ) → (m ++ (f ++ e)) ++ x ≡ m ++ (f ++ (e ++ x))
joined_short m f e x = simp append_assoc

pub decimal_is : (d : ℕ) (more new : List ℕ) (f g : LexedFraction) (e p : LexedExponent) (x after : List ℕ)
    → list_all is_part new ≡ true → SameFraction f g e → SamePower e p
    → (d == 48 && first_passes is_base_letter (new ++ (lexed_fraction_text g ++ (lexed_exponent_text p ++ x)))) ≡ false
    → IsLexeme (DecimalLexeme d more f e x) after → IsLexeme (DecimalLexeme d new g p x) after
decimal_is d more new f g e p x after each same power no_base (id, not_based, run, fraction, exponent, suffix) =
    let ends : first_passes is_part (x ++ after) ≡ false = tail_ends f e more (x ++ after) run fraction exponent in
    let s : List ℕ = new ++ (lexed_fraction_text g ++ lexed_exponent_text p) in
    let base : (d == 48 && first_passes is_base_letter ((s ++ x) ++ after)) ≡ false = base_new (d == 48) s x after
    (ap (λ z. d == 48 && first_passes is_base_letter z) (joined_short new (lexed_fraction_text g)
    (lexed_exponent_text p) x)
    ∙ no_base) suffix in (
      id,
      sym (ap (λ z. d == 48 && first_passes is_base_letter z) (joined new (lexed_fraction_text g)
          (lexed_exponent_text p) x
          after)) ∙ base,
      record { each = each; ends = row_ends f g e p (x ++ after) same power ends },
      fraction_is f g e p (x ++ after) same power ends fraction,
      power_is e p (x ++ after) power ends exponent,
      suffix,
    )
