-- Lemmas about functions that skip one part of a lexeme, such as the body of a string: each returns the text after the
-- part.
use Rattle.rl_syntax.proofs.Common.{◌≡◌, ℕ, suc, zero, Bool, true, false, not, ◌&&◌, ◌||◌, ◌==◌, cond, List, [], ◌∷◌, ◌++◌, Some, None, drop, replicate, refl, sym, ◌∙◌, ap, subst, append_assoc, and_parts, list_all, is_ascii_digit}
use Rattle.rl_syntax.specs.Texts.{is_underscore, first_passes, is_run_part, is_continue}
use Rattle.rl_lexer.specs.Lexemes.{BodyPart, PlainPart, EscapedPart, body_text, IsBody, CharacterBody, OneCharacter, EscapedCharacter, character_body_text, IsCharacterBody, LexedFraction, NoLexedFraction, LexedDot, lexed_fraction_text, LexedSign, NoLexedSign, LexedPlus, LexedMinus, lexed_sign_text, LexedPower, lexed_exponent_text, IsRun, IsLexedSuffix, IsRawBody, IsLexedFraction}
use Rattle.rl_syntax.proofs.Basics.{false_unless}
use Rattle.rl_lexer.proofs.HashLemmas.{hashes_here, drop_hashes, hashes_inside}
use Rattle.rl_lexer.proofs.Pieces.{is_equal}
use Rattle.rl_lexer.specs.Mirrors.LexemeAt.{after_suffix, after_quote, after_raw, after_apostrophe, after_single, after_lexed_fraction, after_sign}
use Rattle.rl_syntax.specs.Classes.{after_run}

pub not_true : (a : Bool) → not a ≡ true → a ≡ false
not_true true h = absurd (cc)
not_true false h = refl

pub neither_true : (a b : Bool) → not (a || b) ≡ true → (a ≡ false) × (b ≡ false)
neither_true true b h = absurd (cc)
neither_true false b h = (refl, not_true b h)

-- If a text doesn't begin with a character that passes a test, `after_run` returns the text itself.
run_stops : (test : ℕ → Bool) (t : List ℕ) → first_passes test t ≡ false → after_run test t ≡ t
run_stops test [] h = refl
run_stops test (c ∷ t) h = ap (λ b. cond b (after_run test t) (c ∷ t)) h

pub run_past : (test : ℕ → Bool) (run t : List ℕ) → IsRun test run t → after_run test (run ++ t) ≡ t
run_past test [] t is = run_stops test t is.ends
run_past test (c ∷ run) t is =
    let k : (test c ≡ true) × (list_all test run ≡ true) = and_parts (test c) (list_all test run) is.each in
    ap (λ b. cond b (after_run test (run ++ t)) (c ∷ run ++ t)) k.0
    ∙ run_past test run t (record { each = k.1; ends = is.ends })

pub suffix_past : (x t : List ℕ) → IsLexedSuffix x t → after_suffix (x ++ t) ≡ t
suffix_past [] [] is = refl
suffix_past [] (c ∷ t) is = ap (λ b. cond b (after_run is_continue t) (c ∷ t)) is
suffix_past (c ∷ x) t (is, run) = ap (λ b. cond b (after_run is_continue (x ++ t)) (c ∷ x ++ t)) is
    ∙ run_past is_continue x t run

-- At a closing quote, a string literal ends, so `after_quote` returns the text after the quote.
pub quote_now : (t : List ℕ) → after_quote (34 ∷ t) ≡ Some t
quote_now [] = refl
quote_now (e ∷ t) = refl

plain_past : (c : ℕ) (s t : List ℕ) → ((e : ℕ) × (u : List ℕ) × (s ≡ e ∷ u)) → (c == 34) ≡ false → (c == 92) ≡ false
    → after_quote (c ∷ s) ≡ after_quote s
plain_past c s t (e, u, same) a b =
    ap (λ x. after_quote (c ∷ x)) same
    ∙ ap (λ x. cond x (Some (e ∷ u)) (cond (c == 92) (after_quote u) (after_quote (e ∷ u)))) a
    ∙ ap (λ x. cond x (after_quote u) (after_quote (e ∷ u))) b
    ∙ ap after_quote (sym same)

body_cons : (parts : List BodyPart) (t : List ℕ) → (e : ℕ) × (u : List ℕ) × (body_text parts ++ 34 ∷ t ≡ e ∷ u)
body_cons [] t = (34, t, refl)
body_cons (PlainPart c ∷ parts) t = (c, body_text parts ++ 34 ∷ t, refl)
body_cons (EscapedPart c ∷ parts) t = (92, c ∷ (body_text parts ++ 34 ∷ t), refl)

pub quote_past : (parts : List BodyPart) (t : List ℕ) → IsBody parts → after_quote (body_text parts ++ 34 ∷ t) ≡ Some t
quote_past [] t is = quote_now t
quote_past (PlainPart c ∷ parts) t (plain, is) =
    let k : ((c == 34) ≡ false) × ((c == 92) ≡ false) = neither_true (c == 34) (c == 92) plain in
    plain_past c (body_text parts ++ 34 ∷ t) t (body_cons parts t) k.0 k.1 ∙ quote_past parts t is
quote_past (EscapedPart c ∷ parts) t is = quote_past parts t is

-- If a text consists of the body of a raw literal, the closing delimiter and the text `t`, `after_raw` returns `t`.
pub raw_past : (n : ℕ) (body t : List ℕ) → IsRawBody n body → after_raw n (body ++ 34 ∷ (replicate n 35 ++ t)) ≡ Some t
raw_past n [] t is =
    ap (λ b. cond b (Some (drop n (replicate n 35 ++ t))) (after_raw n (replicate n 35 ++ t))) (hashes_here n t)
    ∙ ap Some (drop_hashes n t)
raw_past n (c ∷ body) t (here, is) =
    ap (λ b. cond b (Some (drop n (body ++ 34 ∷ (replicate n 35 ++ t))))
    (after_raw n (body ++ 34 ∷ (replicate n 35 ++ t)))) (ap (λ b. c == 34 && b)
    (hashes_inside n body (replicate n 35 ++ t)) ∙ here)
    ∙ raw_past n body t is

-- If a text consists of the end of an escape, the closing apostrophe and the text `t`, `after_apostrophe` returns `t`.
-- In `'\u{41}'` the end of the escape is `{41}`.
apostrophe_past : (more t : List ℕ) → list_all (λ d. not (d == 39 || d == 10)) more ≡ true
    → after_apostrophe (more ++ 39 ∷ t) ≡ Some t
apostrophe_past [] t is = refl
apostrophe_past (c ∷ more) t is =
    let k : (not (c == 39 || c == 10) ≡ true) × (list_all (λ d. not (d == 39 || d == 10)) more ≡ true) = and_parts
    (not (c == 39 || c == 10)) (list_all (λ d. not (d == 39 || d == 10)) more) is in
    let m : ((c == 39) ≡ false) × ((c == 10) ≡ false) = neither_true (c == 39) (c == 10) k.0 in
    ap (λ b. cond b (Some (more ++ 39 ∷ t)) (cond (c == 10) None (after_apostrophe (more ++ 39 ∷ t)))) m.0
    ∙ ap (λ b. cond b None (after_apostrophe (more ++ 39 ∷ t))) m.1
    ∙ apostrophe_past more t k.1

pub single_past : (inside : CharacterBody) (t : List ℕ) → IsCharacterBody inside
    → after_single (character_body_text inside ++ 39 ∷ t) ≡ Some t
single_past (OneCharacter c) t is = ap (λ b. cond b (after_apostrophe t) (Some t)) (not_true (c == 92) is)
single_past (EscapedCharacter c more) t is = apostrophe_past more t is

-- If a text consists of the fraction of a decimal number and the text `t`, `after_lexed_fraction` returns `t`.
pub fraction_past : (f : LexedFraction) (t : List ℕ) → IsLexedFraction f t
    → after_lexed_fraction (lexed_fraction_text f ++ t) ≡ t
fraction_past NoLexedFraction t is = ap (λ b. cond b (after_run (is_run_part is_ascii_digit) (drop 1 t)) t) is
fraction_past (LexedDot digits) t (begins, run) =
    ap (λ b. cond b (after_run (is_run_part is_ascii_digit) (digits ++ t)) (46 ∷ digits ++ t)) begins
    ∙ run_past (is_run_part is_ascii_digit) digits t run

pub not_among : (c k : ℕ) (test : ℕ → Bool) → test c ≡ true → test k ≡ false → (c == k) ≡ false
not_among c k test passed other = false_unless (c == k) (λ h. let q : c ≡ k = is_equal c k h in let r : test k
    ≡ true = subst (λ (x : ℕ). test x ≡ true) q passed in absurd (cc))

pub underscores_past : (n d : ℕ) (t : List ℕ) → is_ascii_digit d ≡ true
    → after_run is_underscore (replicate n 95 ++ d ∷ t) ≡ d ∷ t
underscores_past zero d t is = ap (λ b. cond b (after_run is_underscore t) (d ∷ t))
    (not_among d 95 is_ascii_digit is refl)
underscores_past (suc n) d t is = underscores_past n d t is

pub digits_past : (n d : ℕ) (more t : List ℕ) → is_ascii_digit d ≡ true → IsRun (is_run_part is_ascii_digit) more t
    → after_run (is_run_part is_ascii_digit) (replicate n 95 ++ d ∷ (more ++ t)) ≡ t
digits_past zero d more t is run = ap (λ b. cond (b || d == 95) (after_run (is_run_part is_ascii_digit) (more ++ t))
    (d ∷ more ++ t)) is ∙ run_past (is_run_part is_ascii_digit) more t run
digits_past (suc n) d more t is run = digits_past n d more t is run

pub sign_past : (s : LexedSign) (n d : ℕ) (t : List ℕ) → is_ascii_digit d ≡ true
    → after_sign (lexed_sign_text s ++ (replicate n 95 ++ d ∷ t)) ≡ replicate n 95 ++ d ∷ t
sign_past LexedPlus n d t is = refl
sign_past LexedMinus n d t is = refl
sign_past NoLexedSign (suc n) d t is = refl
sign_past NoLexedSign zero d t is =
    ap (λ b. cond (b || d == 45) t (d ∷ t)) (not_among d 43 is_ascii_digit is refl)
    ∙ ap (λ b. cond b t (d ∷ t)) (not_among d 45 is_ascii_digit is refl)

pub power_text : (letter : ℕ) (s : LexedSign) (n d : ℕ) (more t : List ℕ)
    → lexed_exponent_text (LexedPower letter s n d more) ++ t ≡ letter ∷
    (lexed_sign_text s ++ (replicate n 95 ++ d ∷ (more ++ t)))
power_text letter s n d more t = ap (λ x. letter ∷ x) (append_assoc (lexed_sign_text s) (replicate n 95 ++ d ∷ more) t
    ∙ ap (λ x. lexed_sign_text s ++ x) (append_assoc (replicate n 95) (d ∷ more) t))
