-- A lexeme is exactly the text that `lexeme_at` consumes, so a text begins with at most one lexeme.
use Rattle.rl_syntax.proofs.Common.{◌≡◌, ℕ, ◌<◌, inl, inr, Bool, true, false, not, ◌&&◌, ◌||◌, ◌==◌, cond, List, [], ◌∷◌, ◌++◌, Option, Some, None, drop, replicate, refl, sym, ◌∙◌, ap, subst, arith, append_assoc, lit<, and_parts, or_parts, nat_tests, list_all, IsTrue, nat_lt, is_ascii_alphabetic, is_ascii_digit, option_map, is_xid_start-ascii, append_cancel_right}
use Rattle.rl_syntax.specs.Texts.{is_white, is_among, first_passes, is_run_part, is_start, is_continue, begins_char}
use Rattle.rl_lexer.specs.Lexemes.{BeginsOtherwise, is_base_letter, delimiters, marks, BodyPart, body_text, IsBody, CharacterBody, character_body_text, IsCharacterBody, LexedFraction, lexed_fraction_text, LexedExponent, lexed_exponent_text, IsRun, IsLexedSuffix, IsRawBody, LiteralPrefix, NoPrefix, BytePrefix, CPrefix, Lexeme, QuotedLexeme, RawLexeme, CharacterLexeme, BasedLexeme, DecimalLexeme, IdentifierLexeme, DelimiterLexeme, MarkLexeme, lexeme_text, IsLexeme, LexemeForm, LiteralForm, IdentifierForm, DelimiterForm, MarkForm, form_of, is_punct}
use Rattle.rl_lexer.proofs.Gaps.{OneLexeme}
use Rattle.rl_syntax.proofs.Basics.{false_unless}
use Rattle.rl_lexer.proofs.Comments.{same_Some}
use Rattle.rl_lexer.proofs.Pieces.{is_equal}
use Rattle.rl_lexer.specs.Mirrors.LexemeAt.{after_suffix, after_raw, after_lexed_fraction, after_lexed_exponent, after_decimal, HeadClass, LetterBHead, LetterCHead, LetterRHead, OtherLetterHead, QuoteHead, ApostropheHead, DigitHead, SlashHead, StrayHead, start_class, other_class, head_class, quoted_at, raw_at, single_at, word_at, by_class, lexeme_at, literal_at, DelimiterHead, MarkHead, begins_hashed_quote, begins_otherwise}
use Rattle.rl_syntax.specs.Classes.{is_hash, after_run}
use Rattle.rl_lexer.proofs.LexemeRows.{not_true, run_past, suffix_past, quote_past, raw_past, single_past, fraction_past, not_among}
use Rattle.rl_lexer.proofs.HashLemmas.{hashes_count, hashes_past}
use Rattle.rl_lexer.proofs.LexemeOpeners.{raw_opens_here, exponent_past, no_otherwise}

-- For a character that doesn't begin an identifier, `head_class` returns the class that `other_class` returns.
pub class_other : (c : ℕ) → is_start c ≡ false → head_class c ≡ other_class c
class_other c h = ap (λ b. cond b (start_class c) (other_class c)) h

pub class_start : (c : ℕ) → is_start c ≡ true → head_class c ≡ start_class c
class_start c h = ap (λ b. cond b (start_class c) (other_class c)) h

-- The test `is_start` for ASCII characters.
abbrev ascii_start : ℕ → Bool
ascii_start c = (c == 95 || is_ascii_alphabetic c) && not (is_white c)

pub start_ascii : (c : ℕ) → c < 128 → is_start c ≡ ascii_start c
start_ascii c l = ap (λ b. (c == 95 || b) && not (is_white c)) (is_xid_start-ascii c l)

-- If all codes of a list pass a test, a character whose code is in the list passes it.
pub among : (codes : List ℕ) (test : ℕ → Bool) (c : ℕ) → list_all test codes ≡ true → is_among codes c ≡ true → test c
    ≡ true
among [] test c all is = absurd (cc)
among (k ∷ codes) test c all is = go (c == k) refl is (among codes test c
    (and_parts (test k) (list_all test codes) all).1)
  where
    go : (b : Bool) → (c == k) ≡ b → (b || is_among codes c) ≡ true → (is_among codes c ≡ true → test c ≡ true) → test c
        ≡ true
    go true e h more = subst (λ (x : ℕ). test x ≡ true) (sym (is_equal c k e))
        (and_parts (test k) (list_all test codes) all).0
    go false e h more = more h

pub low_among : (codes : List ℕ) (c : ℕ) → list_all (λ k. nat_lt k 128) codes ≡ true → is_among codes c ≡ true → c < 128
low_among codes c all is = let q : nat_lt c 128 ≡ true = among codes (λ k. nat_lt k 128) c all is in grind
    (arith, nat_tests)

pub not_start_among : (codes : List ℕ) (c : ℕ) → list_all (λ k. nat_lt k 128) codes ≡ true
    → list_all (λ k. not (ascii_start k)) codes ≡ true → is_among codes c ≡ true → is_start c ≡ false
not_start_among codes c low all is = start_ascii c (low_among codes c low is)
    ∙ not_true (ascii_start c) (among codes (λ k. not (ascii_start k)) c all is)

pub at_class : (c : ℕ) (t : List ℕ) (k : HeadClass) → head_class c ≡ k → lexeme_at (c ∷ t) ≡ by_class k c t
at_class c t k h = ap (λ x. by_class x c t) h

-- The class of a character that is neither the start of an identifier, nor a delimiter, nor a punctuation character.
abbrev pub tail_punct : ℕ → HeadClass
tail_punct c = cond (is_ascii_digit c) DigitHead (cond (c == 34) QuoteHead (cond (c == 39) ApostropheHead StrayHead))

abbrev pub tail_slash : ℕ → HeadClass
tail_slash c = cond (is_punct c) MarkHead (tail_punct c)

abbrev pub after_delimiter : ℕ → HeadClass
after_delimiter c = cond (c == 47) SlashHead (tail_slash c)

-- For a character that is in no other class, `head_class` returns the class `StrayHead`.
pub stray_class : (c : ℕ) → is_start c ≡ false → is_among delimiters c ≡ false → (c == 47) ≡ false → is_among marks c
    ≡ false → is_ascii_digit c ≡ false → (c == 34) ≡ false → (c == 39) ≡ false → head_class c ≡ StrayHead
stray_class c start delimiter slash mark digit quote apostrophe =
    class_other c start ∙ none (is_among delimiters c) (c == 47) (is_among marks c) (is_ascii_digit c) (c == 34)
    (c == 39) delimiter slash mark digit quote apostrophe
  where
    none : (d s m n q a : Bool) → d ≡ false → s ≡ false → m ≡ false → n ≡ false → q ≡ false → a ≡ false
        → cond d DelimiterHead (cond s SlashHead (cond (m || s) MarkHead
        (cond n DigitHead (cond q QuoteHead (cond a ApostropheHead StrayHead))))) ≡ StrayHead
    none d s m n q a d0 s0 m0 n0 q0 a0 = rw (d0, s0, m0, n0, q0, a0) refl

pub class34 : head_class 34 ≡ QuoteHead
class34 = class_other 34 (start_ascii 34 (lit< tt))

pub class39 : head_class 39 ≡ ApostropheHead
class39 = class_other 39 (start_ascii 39 (lit< tt))

pub class47 : head_class 47 ≡ SlashHead
class47 = class_other 47 (start_ascii 47 (lit< tt))

pub class98 : head_class 98 ≡ LetterBHead
class98 = class_start 98 (start_ascii 98 (lit< tt))

pub class99 : head_class 99 ≡ LetterCHead
class99 = class_start 99 (start_ascii 99 (lit< tt))

pub class114 : head_class 114 ≡ LetterRHead
class114 = class_start 114 (start_ascii 114 (lit< tt))

-- For the text after the opening quote of a string literal with escapes, `quoted_at` returns the text after the literal
-- and its suffix.
quoted_past : (parts : List BodyPart) (x t : List ℕ) → IsBody parts → IsLexedSuffix x t
    → quoted_at (body_text parts ++ 34 ∷ x ++ t) ≡ Some t
quoted_past parts x t is suffix =
    ap quoted_at (append_assoc (body_text parts) (34 ∷ x) t) ∙ ap (option_map after_suffix)
    (quote_past parts (x ++ t) is) ∙ ap Some (suffix_past x t suffix)

front_quoted : (p : LiteralPrefix) (parts : List BodyPart) (x t : List ℕ) → IsBody parts → IsLexedSuffix x t
    → lexeme_at (lexeme_text (QuotedLexeme p parts x) ++ t) ≡ Some (LiteralForm, t)
front_quoted NoPrefix parts x t is suffix = at_class 34 (body_text parts ++ 34 ∷ x ++ t) QuoteHead class34
    ∙ ap literal_at (quoted_past parts x t is suffix)
front_quoted BytePrefix parts x t is suffix = at_class 98 (34 ∷ (body_text parts ++ 34 ∷ x ++ t)) LetterBHead class98
    ∙ ap literal_at (quoted_past parts x t is suffix)
front_quoted CPrefix parts x t is suffix = at_class 99 (34 ∷ (body_text parts ++ 34 ∷ x ++ t)) LetterCHead class99
    ∙ ap literal_at (quoted_past parts x t is suffix)

-- For the text after the opening apostrophe of a character or byte literal, `single_at` returns the text after the
-- literal and its suffix.
single_front : (inside : CharacterBody) (x t : List ℕ) → IsCharacterBody inside → IsLexedSuffix x t
    → single_at (character_body_text inside ++ 39 ∷ x ++ t) ≡ Some t
single_front inside x t is suffix =
    ap single_at (append_assoc (character_body_text inside) (39 ∷ x) t)
    ∙ ap (option_map after_suffix) (single_past inside (x ++ t) is) ∙ ap Some (suffix_past x t suffix)

front_character : (b : Bool) (inside : CharacterBody) (x t : List ℕ) → IsCharacterBody inside → IsLexedSuffix x t
    → lexeme_at (lexeme_text (CharacterLexeme b inside x) ++ t) ≡ Some (LiteralForm, t)
front_character false inside x t is suffix = at_class 39 (character_body_text inside ++ 39 ∷ x ++ t) ApostropheHead
    class39 ∙ ap literal_at (single_front inside x t is suffix)
front_character true inside x t is suffix = at_class 98 (39 ∷ (character_body_text inside ++ 39 ∷ x ++ t)) LetterBHead
    class98 ∙ ap literal_at (single_front inside x t is suffix)

-- If no element of a list is a delimiter, a character in the list isn't a delimiter.
not_delimiter : (codes : List ℕ) (c : ℕ) → list_all (λ k. not (is_among delimiters k)) codes ≡ true → is_among codes c
    ≡ true → is_among delimiters c ≡ false
not_delimiter codes c all is = not_true (is_among delimiters c)
    (among codes (λ k. not (is_among delimiters k)) c all is)

pub front_delimiter : (c : ℕ) (t : List ℕ) → IsTrue (is_among delimiters c) → lexeme_at (c ∷ t)
    ≡ Some (DelimiterForm c, t)
front_delimiter c t is = at_class c t DelimiterHead (class_other c (not_start_among delimiters c refl refl is)
    ∙ ap (λ b. cond b DelimiterHead (after_delimiter c)) is)

pub front_slash : (t : List ℕ) → first_passes (λ d. d == 47 || d == 42) t ≡ false → lexeme_at (47 ∷ t)
    ≡ Some (MarkForm 47, t)
front_slash t h = at_class 47 t SlashHead class47 ∙ ap (λ b. cond b None (Some (MarkForm 47, t))) h

pub front_mark : (c : ℕ) (t : List ℕ) → IsLexeme (MarkLexeme c) t → lexeme_at (c ∷ t) ≡ Some (MarkForm c, t)
front_mark c t (inl is) =
    at_class c t MarkHead
    (class_other c (not_start_among marks c refl refl is)
    ∙ ap (λ b. cond b DelimiterHead (after_delimiter c)) (not_delimiter marks c refl is)
    ∙ ap (λ b. cond b SlashHead (tail_slash c)) (not_among c 47 (is_among marks) is refl)
    ∙ ap (λ b. cond (b || c == 47) MarkHead (tail_punct c)) is)
front_mark c t (inr (e, h)) = ap (λ x. lexeme_at (x ∷ t)) e ∙ front_slash t h ∙ ap (λ x. Some (MarkForm x, t)) (sym e)

-- The parts of a raw literal and the text after the literal can be joined from the left or from the right: the joined
-- text is the same.
pub raw_text : (n : ℕ) (body x t : List ℕ) → (((replicate n 35 ++ (34 ∷ body)) ++ (34 ∷ replicate n 35)) ++ x) ++ t
    ≡ replicate n 35 ++ (34 ∷ (body ++ (34 ∷ (replicate n 35 ++ (x ++ t)))))
raw_text n body x t = simp append_assoc

raw_front : (n : ℕ) (body x t : List ℕ) → IsRawBody n body → IsLexedSuffix x t
    → raw_at (replicate n 35 ++ 34 ∷ (body ++ 34 ∷ (replicate n 35 ++ (x ++ t)))) ≡ Some t
raw_front n body x t is suffix =
    let u = body ++ 34 ∷ (replicate n 35 ++ (x ++ t)) in
    ap (λ k. option_map after_suffix (after_raw k (drop 1 (after_run is_hash (replicate n 35 ++ 34 ∷ u)))))
    (hashes_count n u)
    ∙ ap (λ s. option_map after_suffix (after_raw n (drop 1 s))) (hashes_past n u)
    ∙ ap (option_map after_suffix) (raw_past n body (x ++ t) is)
    ∙ ap Some (suffix_past x t suffix)

raw_chosen : (u : List ℕ) (other : Option (LexemeForm × List ℕ)) (r : List ℕ) → begins_hashed_quote u ≡ true → raw_at u
    ≡ Some r → cond (begins_hashed_quote u) (literal_at (raw_at u)) other ≡ Some (LiteralForm, r)
raw_chosen u other r opens h = ap (λ b. cond b (literal_at (raw_at u)) other) opens ∙ ap literal_at h

front_raw : (p : LiteralPrefix) (n : ℕ) (body x t : List ℕ) → IsRawBody n body → IsLexedSuffix x t
    → lexeme_at (lexeme_text (RawLexeme p n body x) ++ t) ≡ Some (LiteralForm, t)
front_raw NoPrefix n body x t is suffix =
    let u = replicate n 35 ++ 34 ∷ (body ++ 34 ∷ (replicate n 35 ++ (x ++ t))) in
    ap (λ s. lexeme_at (114 ∷ s)) (raw_text n body x t) ∙ at_class 114 u LetterRHead class114
    ∙ raw_chosen u (cond (begins_char 35 u && first_passes is_start (drop 1 u)) None (word_at u)) t
    (raw_opens_here n (body ++ 34 ∷ (replicate n 35 ++ (x ++ t)))) (raw_front n body x t is suffix)
front_raw BytePrefix n body x t is suffix =
    let u = replicate n 35 ++ 34 ∷ (body ++ 34 ∷ (replicate n 35 ++ (x ++ t))) in
    ap (λ s. lexeme_at (98 ∷ 114 ∷ s)) (raw_text n body x t) ∙ at_class 98 (114 ∷ u) LetterBHead class98
    ∙ raw_chosen u (word_at (114 ∷ u)) t (raw_opens_here n (body ++ 34 ∷ (replicate n 35 ++ (x ++ t))))
    (raw_front n body x t is suffix)
front_raw CPrefix n body x t is suffix =
    let u = replicate n 35 ++ 34 ∷ (body ++ 34 ∷ (replicate n 35 ++ (x ++ t))) in
    ap (λ s. lexeme_at (99 ∷ 114 ∷ s)) (raw_text n body x t) ∙ at_class 99 (114 ∷ u) LetterCHead class99
    ∙ raw_chosen u (word_at (114 ∷ u)) t (raw_opens_here n (body ++ 34 ∷ (replicate n 35 ++ (x ++ t))))
    (raw_front n body x t is suffix)

-- `lexeme_at` returns the text after a number with a prefix, such as `0x1F`.
front_based : (letter : ℕ) (digits t : List ℕ) → IsTrue (is_base_letter letter) → IsRun is_continue digits t
    → lexeme_at (48 ∷ letter ∷ digits ++ t) ≡ Some (LiteralForm, t)
front_based letter digits t is run =
    at_class 48 (letter ∷ digits ++ t) DigitHead (class_other 48 (start_ascii 48 (lit< tt)))
    ∙ ap (λ b. Some (LiteralForm, cond b (after_run is_continue (digits ++ t)) (after_decimal (letter ∷ digits ++ t))))
    is
    ∙ ap (λ s. Some (LiteralForm, s)) (run_past is_continue digits t run)

digit_low : (d : ℕ) → is_ascii_digit d ≡ true → d < 128
digit_low d is = grind (arith, nat_tests)

digit_no_start : (d : ℕ) → is_ascii_digit d ≡ true → ascii_start d ≡ true → ⊥
digit_no_start d is h =
    let k : (d == 95 || is_ascii_alphabetic d) ≡ true = (and_parts (d == 95 || is_ascii_alphabetic d) (not (is_white d))
    h).0 in
    grind (arith, nat_tests)

pub digit_not_start : (d : ℕ) → is_ascii_digit d ≡ true → is_start d ≡ false
digit_not_start d is = start_ascii d (digit_low d is) ∙ false_unless (ascii_start d) (digit_no_start d is)

not_digit_among : (codes : List ℕ) (d : ℕ) → list_all (λ k. not (is_ascii_digit k)) codes ≡ true → is_ascii_digit d
    ≡ true → is_among codes d ≡ false
not_digit_among codes d all is = false_unless (is_among codes d)
    (λ h. let k : is_ascii_digit d ≡ false = not_true (is_ascii_digit d)
    (among codes (λ k. not (is_ascii_digit k)) d all h) in absurd (cc))

pub class_digit : (d : ℕ) → is_ascii_digit d ≡ true → head_class d ≡ DigitHead
class_digit d is =
    class_other d (digit_not_start d is)
    ∙ ap (λ b. cond b DelimiterHead (after_delimiter d)) (not_digit_among delimiters d refl is)
    ∙ ap (λ b. cond b SlashHead (tail_slash d)) (not_among d 47 is_ascii_digit is refl)
    ∙ ap (λ b. cond (b || d == 47) MarkHead (tail_punct d)) (not_digit_among marks d refl is)
    ∙ ap (λ b. cond b MarkHead (tail_punct d)) (not_among d 47 is_ascii_digit is refl)
    ∙ ap (λ b. cond b DigitHead (cond (d == 34) QuoteHead (cond (d == 39) ApostropheHead StrayHead))) is

pub decimal_text : (more f e x t : List ℕ) → (more ++ (f ++ (e ++ x))) ++ t ≡ more ++ (f ++ (e ++ (x ++ t)))
decimal_text more f e x t = simp append_assoc

front_decimal : (d : ℕ) (more : List ℕ) (f : LexedFraction) (e : LexedExponent) (x t : List ℕ)
    → IsLexeme (DecimalLexeme d more f e x) t → lexeme_at (lexeme_text (DecimalLexeme d more f e x) ++ t)
    ≡ Some (LiteralForm, t)
front_decimal d more f e x t (is, not_based, run, fraction, exponent, suffix) =
    let u = more ++ (lexed_fraction_text f ++ (lexed_exponent_text e ++ (x ++ t))) in
    ap (λ s. lexeme_at (d ∷ s)) (decimal_text more (lexed_fraction_text f) (lexed_exponent_text e) x t)
    ∙ at_class d u DigitHead (class_digit d is)
    ∙ ap (λ b. Some (LiteralForm, cond b (after_run is_continue (drop 1 u)) (after_decimal u))) not_based
    ∙ ap (λ s. Some (LiteralForm, after_suffix (after_lexed_exponent (after_lexed_fraction s))))
    (run_past (is_run_part is_ascii_digit) more (lexed_fraction_text f ++ (lexed_exponent_text e ++ (x ++ t))) run)
    ∙ ap (λ s. Some (LiteralForm, after_suffix (after_lexed_exponent s)))
    (fraction_past f (lexed_exponent_text e ++ (x ++ t)) fraction)
    ∙ ap (λ s. Some (LiteralForm, after_suffix s)) (exponent_past e (x ++ t) exponent)
    ∙ ap (λ s. Some (LiteralForm, s)) (suffix_past x t suffix)

-- A choice by three conditions that are all false returns its last value.
pub none_of3 : {A : Type 0} (p q r : Bool) (x y z w : A) → (p || (q || r)) ≡ false → cond p x (cond q y (cond r z w))
    ≡ w
none_of3 true q r x y z w h = absurd (cc)
none_of3 false true r x y z w h = absurd (cc)
none_of3 false false true x y z w h = absurd (cc)
none_of3 false false false x y z w h = refl

pub none_of2 : {A : Type 0} (p q : Bool) (x y w : A) → (p || q) ≡ false → cond p x (cond q y w) ≡ w
none_of2 true q x y w h = absurd (cc)
none_of2 false true x y w h = absurd (cc)
none_of2 false false x y w h = refl

word_class : (c : ℕ) (u : List ℕ) → begins_otherwise (c ∷ u) ≡ false → by_class (start_class c) c u ≡ word_at u
word_class c u h = go (c == 98) (c == 99) (c == 114) h
  where
    go : (a b r : Bool) → ((a && (begins_char 34 u || (begins_char 39 u
        || (begins_char 114 u && begins_hashed_quote (drop 1 u)))))
        || ((b && (begins_char 34 u || (begins_char 114 u && begins_hashed_quote (drop 1 u))))
        || (r && (begins_hashed_quote u || (begins_char 35 u && first_passes is_start (drop 1 u)))))) ≡ false
        → by_class (cond a LetterBHead (cond b LetterCHead (cond r LetterRHead OtherLetterHead))) c u ≡ word_at u
    go true b r h = none_of3 (begins_char 34 u) (begins_char 39 u)
        (begins_char 114 u && begins_hashed_quote (drop 1 u)) (literal_at (quoted_at (drop 1 u)))
        (literal_at (single_at (drop 1 u))) (literal_at (raw_at (drop 1 u))) (word_at u) (or_parts _ _ h).0
    go false true r h = none_of2 (begins_char 34 u) (begins_char 114 u && begins_hashed_quote (drop 1 u))
        (literal_at (quoted_at (drop 1 u))) (literal_at (raw_at (drop 1 u))) (word_at u) (or_parts _ _ h).0
    go false false true h = none_of2 (begins_hashed_quote u) (begins_char 35 u && first_passes is_start (drop 1 u))
        (literal_at (raw_at u)) None (word_at u) h
    go false false false h = refl

front_identifier : (c : ℕ) (more t : List ℕ) → IsTrue (is_start c) → IsRun is_continue more t
    → (BeginsOtherwise (c ∷ more ++ t) → ⊥) → lexeme_at (c ∷ more ++ t) ≡ Some (IdentifierForm, t)
front_identifier c more t is run other =
    at_class c (more ++ t) (start_class c) (class_start c is) ∙ word_class c (more ++ t)
    (no_otherwise (c ∷ more ++ t) other) ∙ ap (λ s. Some (IdentifierForm, s)) (run_past is_continue more t run)

-- For a lexeme and a text after it, `lexeme_at` returns the form of the lexeme and that text. A lexeme has one of eight
-- forms.
pub lexeme_at-past : (l : Lexeme) (t : List ℕ) → IsLexeme l t → lexeme_at (lexeme_text l ++ t) ≡ Some (form_of l, t)
lexeme_at-past (QuotedLexeme p parts x) t (is, suffix) = front_quoted p parts x t is suffix
lexeme_at-past (RawLexeme p n body x) t (is, suffix) = front_raw p n body x t is suffix
lexeme_at-past (CharacterLexeme b inside x) t (is, suffix) = front_character b inside x t is suffix
lexeme_at-past (BasedLexeme letter digits) t (is, run) = front_based letter digits t is run
lexeme_at-past (DecimalLexeme d more f e x) t is = front_decimal d more f e x t is
lexeme_at-past (IdentifierLexeme c more) t (is, run, other) = front_identifier c more t is run other
lexeme_at-past (DelimiterLexeme c) t is = front_delimiter c t is
lexeme_at-past (MarkLexeme c) t is = front_mark c t is

pub same_pair : (f g : LexemeForm) (x y : List ℕ) → ◌≡◌ {A = Option (LexemeForm × List ℕ)} (Some (f, x)) (Some (g, y))
    → (f ≡ g) × (x ≡ y)
same_pair f g x y e = let q : ◌≡◌ {A = LexemeForm × List ℕ} (f, x) (g, y) = same_Some (f, x) (g, y) e in
    (ap (λ (z : LexemeForm × List ℕ). z.0) q, ap (λ (z : LexemeForm × List ℕ). z.1) q)

same_front : (v w x : List ℕ) → v ++ x ≡ w ++ x → v ≡ w
same_front v w x h = append_cancel_right v w x h

pub one_front : OneLexeme
one_front t v w x y p q (l, is, v_is) (m, ms, w_is) =
    let a : lexeme_at t ≡ Some (form_of l, x) = ap lexeme_at (p ∙ ap (λ s. s ++ x) v_is) ∙ lexeme_at-past l x is in
    let b : lexeme_at t ≡ Some (form_of m, y) = ap lexeme_at (q ∙ ap (λ s. s ++ y) w_is) ∙ lexeme_at-past m y ms in
    let e : x ≡ y = (same_pair (form_of l) (form_of m) x y (sym a ∙ b)).1 in
    (same_front v w x (sym p ∙ q ∙ ap (λ s. w ++ s) (sym e)), e)
