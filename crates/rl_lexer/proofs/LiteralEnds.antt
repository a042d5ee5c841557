-- Lemmas about the texts that may follow a literal in a printed list of literals, and about tests that fail for the
-- first characters of these texts.
use Rattle.rl_syntax.proofs.Common.{◌≡◌, ℕ, ◌<◌, inl, inr, Bool, true, false, not, ◌&&◌, ◌||◌, ◌==◌, List, [], ◌∷◌, ◌++◌, refl, ◌∙◌, ap, lit<, and_parts, IsTrue, ⊤, codes, list_all, is_ascii_digit, is_ascii_alphanumeric, and_from, or_from, is_xid_start, is_xid_continue}
use Rattle.rl_syntax.specs.Texts.{is_white, is_among, first_passes, is_run_part, is_start, is_continue}
use Rattle.rl_lexer.specs.Lexemes.{is_base_letter, IsLexedSuffix, IsLexeme}
use Rattle.rl_lexer.proofs.Gaps.{BeginsGap}
use Rattle.rl_syntax.specs.Strict.{IsStrictSuffix}
use Rattle.rl_syntax.proofs.Basics.{word_continues, all_weaker}
use Rattle.rl_syntax.proofs.WhiteLemmas.{continues, starts}
use Rattle.rl_lexer.proofs.LexemeRows.{not_true, not_among}
use Rattle.rl_lexer.proofs.LexemeOpeners.{none_otherwise}
use Rattle.rl_lexer.proofs.LexemeFronts.{start_ascii, among, low_among, not_start_among}
use Rattle.rl_lexer.proofs.LexemeGaps.{and_false, digit_solid}
use Rattle.rl_lexer.proofs.Continues.{continue_ascii}
use Rattle.rl_lexer.proofs.PrintedCuts.{word_lexeme}

-- The characters other than white space that may follow a literal in a printed list: slash, quote, apostrophe and
-- minus.
abbrev pub enders : List ℕ
enders = 47 ∷ 34 ∷ 39 ∷ 45 ∷ []

abbrev pub is_ender : ℕ → Bool
is_ender c = is_white c || is_among enders c

-- The text may follow a literal: it is empty, or begins with white space, a slash, a quote, an apostrophe or a minus.
abbrev pub EndsLiteral : List ℕ → Type 0
EndsLiteral [] = ⊤
EndsLiteral (c ∷ t) = IsTrue (is_ender c)

-- A condition on a test: it fails for each character that may follow a literal in a printed list.
abbrev pub Clear : (ℕ → Bool) → Type 0
Clear test = (c : ℕ) → is_ender c ≡ true → test c ≡ false

clear_from : (test : ℕ → Bool) → ((c : ℕ) → is_white c ≡ true → test c ≡ false)
    → ((c : ℕ) → is_among enders c ≡ true → test c ≡ false) → Clear test
clear_from test at_white at_other c h = go (is_white c) refl h
  where
    go : (b : Bool) → is_white c ≡ b → (b || is_among enders c) ≡ true → test c ≡ false
    go true w h = at_white c w
    go false w h = at_other c h

fails_among : (test : ℕ → Bool) → list_all (λ k. not (test k)) enders ≡ true → (c : ℕ) → is_among enders c ≡ true
    → test c ≡ false
fails_among test all c is = not_true (test c) (among enders (λ k. not (test k)) c all is)

-- A character that may follow a literal in a printed list doesn't begin an identifier.
pub clear_start : Clear is_start
clear_start = clear_from is_start (λ c w. ap (λ b. (c == 95 || is_xid_start c) && not b) w
    ∙ and_false (c == 95 || is_xid_start c)) (λ c is. not_start_among enders c refl refl is)

-- A character that may follow a literal in a printed list doesn't continue an identifier.
pub clear_continue : Clear is_continue
clear_continue =
    clear_from is_continue (λ c w. ap (λ b. is_xid_continue c && not b) w ∙ and_false (is_xid_continue c))
    (λ c is. continue_ascii c (low_among enders c refl is) ∙ fails_among
    (λ k. (is_ascii_alphanumeric k || (k == 95)) && not (is_white k)) refl c is)

-- A character that may follow a literal in a printed list isn't a digit.
pub clear_digit : Clear is_ascii_digit
clear_digit = clear_from is_ascii_digit (λ c w. digit_solid c (ap (λ b. b || c == 47) w))
    (fails_among is_ascii_digit refl)

-- A character that isn't white space, a slash, a quote, an apostrophe or a minus differs from each character that may
-- follow a literal in a printed list.
pub clear_code : (k : ℕ) → is_white k ≡ false → list_all (λ c. not (c == k)) enders ≡ true → Clear (λ c. c == k)
clear_code k w all = clear_from (λ c. c == k) (λ c h. not_among c k is_white h w) (fails_among (λ c. c == k) all)

clear_or : (f g : ℕ → Bool) → Clear f → Clear g → Clear (λ c. f c || g c)
clear_or f g a b c h = or_from (f c) (g c) (a c h) (b c h)

-- A character that may follow a literal in a printed list doesn't continue a sequence of digits.
pub clear_part : Clear (is_run_part is_ascii_digit)
clear_part = clear_or is_ascii_digit (λ c. c == 95) clear_digit (clear_code 95 refl refl)

-- A character that may follow a literal in a printed list is neither a dot nor the start of an identifier. So a dot
-- before this character is part of a float.
pub clear_dot : Clear (λ d. d == 46 || is_start d)
clear_dot = clear_or (λ d. d == 46) is_start (clear_code 46 refl refl) clear_start

-- A character that may follow a literal in a printed list isn't the letter of a base, such as the `x` of `0x`.
pub clear_base : Clear is_base_letter
clear_base = clear_or (λ c. c == 120 || c == 111) (λ c. c == 98)
    (clear_or (λ c. c == 120) (λ c. c == 111) (clear_code 120 refl refl) (clear_code 111 refl refl))
    (clear_code 98 refl refl)

-- A character that may follow a literal in a printed list is neither `e` nor `E`, which begin an exponent.
pub clear_exponent : Clear (λ c. c == 101 || c == 69)
clear_exponent = clear_or (λ c. c == 101) (λ c. c == 69) (clear_code 101 refl refl) (clear_code 69 refl refl)

-- If a test fails for each character that may follow a literal in a printed list, it fails for the first character of a
-- text that may follow a literal.
pub ends_fails : (test : ℕ → Bool) (after : List ℕ) → Clear test → EndsLiteral after → first_passes test after ≡ false
ends_fails test [] clear is = refl
ends_fails test (c ∷ t) clear is = clear c is

-- Suppose that a test fails for each character that may follow a literal in a printed list. If a text doesn't begin
-- with a character that passes the test, this is still so after a text that may follow a literal is appended.
pub front_fails : (test : ℕ → Bool) (s after : List ℕ) → Clear test → EndsLiteral after → first_passes test s ≡ false
    → first_passes test (s ++ after) ≡ false
front_fails test [] after clear ends h = ends_fails test after clear ends
front_fails test (c ∷ s) after clear ends h = h

-- A separator may follow a literal.
pub gap_ends : (t : List ℕ) → BeginsGap t → EndsLiteral t
gap_ends [] is = tt
gap_ends (c ∷ t) is = go (is_white c) (c == 47) is
  where
    go : (a b : Bool) → (a || b) ≡ true → (a || (b || (c == 34 || (c == 39 || (c == 45 || false))))) ≡ true
    go true b h = refl
    go false true h = refl
    go false false h = absurd (cc)

-- The lexer accepts the first character of a suffix by Rust's grammar as the first character of a suffix.
pub suffix_starts : (c : ℕ) (cs : List ℕ) → IsStrictSuffix (c ∷ cs) → is_start c ≡ true
suffix_starts c cs (inl e) = absurd (cc)
suffix_starts c cs (inr w) =
    starts c (and_parts (c == 95 || is_xid_start c) (list_all is_xid_continue cs) w.identifier).0

-- The lexer accepts each character of a suffix by Rust's grammar as a character of an identifier.
pub suffix_continues : (x : List ℕ) → IsStrictSuffix x → list_all is_continue x ≡ true
suffix_continues x (inl e) = ap (list_all is_continue) e
suffix_continues x (inr w) = all_weaker is_xid_continue is_continue continues x (word_continues x w.identifier)

-- Before a text that may follow a literal, a suffix by Rust's grammar is also a suffix for the lexer.
pub strict_suffix_lexed : (x after : List ℕ) → IsStrictSuffix x → EndsLiteral after → IsLexedSuffix x after
strict_suffix_lexed [] after is ends = ends_fails is_start after clear_start ends
strict_suffix_lexed (c ∷ cs) after is ends =
    (suffix_starts c cs is, record { each = (and_parts (is_continue c) (list_all is_continue cs) (suffix_continues (c ∷ cs) is)).1; ends = ends_fails is_continue after clear_continue ends })

-- Lemmas about the words `true` and `false`.
letter_continues : (c : ℕ) → c < 128 → ((is_ascii_alphanumeric c || (c == 95)) && not (is_white c)) ≡ true
    → is_continue c ≡ true
letter_continues c low is = continue_ascii c low ∙ is

-- Before a text that may follow a literal, the word `true` or `false` is lexed as an identifier.
pub word_ends : (truth : Bool) (after : List ℕ) → EndsLiteral after → IsLexeme (word_lexeme truth) after
word_ends true after ends = (
  start_ascii 116 (lit< tt),
  record {
    each = and_from _ _ (letter_continues 114 (lit< tt) refl) (and_from _ _ (letter_continues 117 (lit< tt) refl)
        (and_from _ _ (letter_continues 101 (lit< tt) refl) refl));
    ends = ends_fails is_continue after clear_continue ends;
  },
  none_otherwise (codes "true" ++ after) refl,
)
word_ends false after ends = (
  start_ascii 102 (lit< tt),
  record {
    each = and_from _ _ (letter_continues 97 (lit< tt) refl) (and_from _ _ (letter_continues 108 (lit< tt) refl)
        (and_from _ _ (letter_continues 115 (lit< tt) refl) (and_from _ _ (letter_continues 101 (lit< tt) refl) refl)));
    ends = ends_fails is_continue after clear_continue ends;
  },
  none_otherwise (codes "false" ++ after) refl,
)
