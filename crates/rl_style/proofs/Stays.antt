-- If a literal is rewritten, the token directly before it is lexed as before.
use Rattle.rl_syntax.proofs.Common.{◌≡◌, ℕ, inl, inr, Bool, false, ◌&&◌, ◌||◌, ◌==◌, List, [], ◌∷◌, ◌++◌, refl, sym, ◌∙◌, ap, is_ascii_digit}
use Rattle.rl_syntax.specs.Texts.{first_passes, is_run_part, is_start, is_continue}
use Rattle.rl_lexer.specs.Lexemes.{is_base_letter, LexedFraction, NoLexedFraction, LexedDot, lexed_fraction_text, LexedExponent, NoLexedExponent, LexedPower, lexed_exponent_text, IsRun, IsLexedSuffix, IsLexedFraction, IsLexedExponent, Lexeme, QuotedLexeme, RawLexeme, CharacterLexeme, BasedLexeme, DecimalLexeme, IdentifierLexeme, DelimiterLexeme, MarkLexeme, IsLexeme}
use Rattle.rl_lexer.specs.Sources.{is_in_line, is_apostrophe, PlainToken, RawIdentifierToken, LifetimeToken, RawLifetimeToken, DocLineToken, DocBlockToken, BadQuoteToken, StrayToken, IsName}
use Rattle.rl_lexer.proofs.LexemeOpeners.{no_exponent_here, no_exponent_begins, none_otherwise, no_otherwise}
use Rattle.rl_style.specs.Around.{SameFront, StaysAround}
use Rattle.rl_style.proofs.FrontTests.{OnDigits, base_on, code_on, continue_on, front_more, line_on, part_on, same_first, same_dot, same_exponent, same_otherwise, same_identifier, slash_on, start_on}

first_stays : (test : ℕ → Bool) → OnDigits test → (a b : List ℕ) → SameFront a b → first_passes test a ≡ false
    → first_passes test b ≡ false
first_stays test on a b s h = sym (same_first test on a b s) ∙ h

row_stays : (test : ℕ → Bool) → OnDigits test → (run a b : List ℕ) → SameFront a b → IsRun test run a
    → IsRun test run b
row_stays test on run a b s r = record { each = r.each; ends = first_stays test on a b s r.ends }

apostrophe_on : OnDigits is_apostrophe
apostrophe_on = code_on 39 refl

suffix_stays : (x a b : List ℕ) → SameFront a b → IsLexedSuffix x a → IsLexedSuffix x b
suffix_stays [] a b s h = first_stays is_start start_on a b s h
suffix_stays (c ∷ x) a b s (h, r) = (h, row_stays is_continue continue_on x a b s r)

fraction_stays : (f : LexedFraction) (a b : List ℕ) → SameFront a b → IsLexedFraction f a → IsLexedFraction f b
fraction_stays NoLexedFraction a b s h = sym (same_dot a b s) ∙ h
fraction_stays (LexedDot digits) a b s (h, r) = (
  sym (same_dot (46 ∷ digits ++ a) (46 ∷ digits ++ b) (front_more (46 ∷ digits) a b s)) ∙ h,
  row_stays
      (is_run_part is_ascii_digit) part_on digits a b s r,
)

power_stays : (e : LexedExponent) (a b : List ℕ) → SameFront a b → IsLexedExponent e a → IsLexedExponent e b
power_stays NoLexedExponent a b s none =
    no_exponent_begins b (sym (same_exponent a b s) ∙ no_exponent_here a none)
power_stays (LexedPower letter sign n d more) a b s (il, id, r) =
    (il, id, row_stays (is_run_part is_ascii_digit) part_on more a b s r)

decimal_stays : (d : ℕ) (more : List ℕ) (f : LexedFraction) (e : LexedExponent) (x a b : List ℕ) → SameFront a b
    → IsLexeme (DecimalLexeme d more f e x) a → IsLexeme (DecimalLexeme d more f e x) b
decimal_stays d more f e x a b s (id, not_based, run, fraction, exponent, suffix) =
    let sx : SameFront (x ++ a) (x ++ b) = front_more x a b s in
    let se : SameFront (lexed_exponent_text e ++ (x ++ a)) (lexed_exponent_text e ++ (x ++ b)) =
    front_more (lexed_exponent_text e) (x ++ a) (x ++ b) sx in
    let sf : SameFront (lexed_fraction_text f ++ (lexed_exponent_text e ++ (x ++ a)))
    (lexed_fraction_text f ++ (lexed_exponent_text e ++ (x ++ b))) =
    front_more (lexed_fraction_text f) (lexed_exponent_text e ++ (x ++ a)) (lexed_exponent_text e ++ (x ++ b)) se in
    let all_a : List ℕ = lexed_fraction_text f ++ (lexed_exponent_text e ++ (x ++ a)) in
    let all_b : List ℕ = lexed_fraction_text f ++ (lexed_exponent_text e ++ (x ++ b)) in (
      id,
      sym (ap (λ z. d == 48 && z) (same_first is_base_letter base_on (more ++ all_a) (more ++ all_b)
          (front_more more all_a all_b sf))) ∙ not_based,
      row_stays (is_run_part is_ascii_digit) part_on more all_a all_b sf run,
      fraction_stays f (lexed_exponent_text e ++ (x ++ a)) (lexed_exponent_text e ++ (x ++ b)) se fraction,
      power_stays e (x ++ a) (x ++ b) sx exponent,
      suffix_stays x a b s suffix,
    )

pub lexeme_stays : (l : Lexeme) (a b : List ℕ) → SameFront a b → IsLexeme l a → IsLexeme l b
lexeme_stays (QuotedLexeme p parts x) a b s (l, suffix) = (l, suffix_stays x a b s suffix)
lexeme_stays (RawLexeme p n body x) a b s (l, suffix) = (l, suffix_stays x a b s suffix)
lexeme_stays (CharacterLexeme k inside x) a b s (l, suffix) = (l, suffix_stays x a b s suffix)
lexeme_stays (BasedLexeme letter digits) a b s (l, run) = (l, row_stays is_continue continue_on digits a b s run)
lexeme_stays (DecimalLexeme d more f e x) a b s l = decimal_stays d more f e x a b s l
lexeme_stays (IdentifierLexeme c more) a b s (l, run, other) = (
  l,
  row_stays is_continue continue_on more a b s run,
  none_otherwise (c ∷ more ++ b) (sym (same_otherwise c (more ++ a) (more ++ b) (front_more more a b s))
      ∙ no_otherwise (c ∷ more ++ a) other),
)
lexeme_stays (DelimiterLexeme c) a b s l = l
lexeme_stays (MarkLexeme c) a b s (inl l) = inl l
lexeme_stays (MarkLexeme c) a b s (inr (l, free)) =
    inr (l, first_stays (λ d. d == 47 || d == 42) slash_on a b s free)

name_stays : (c : ℕ) (more a b : List ℕ) → SameFront a b → IsName c more a → IsName c more b
name_stays c more a b s (l, run) = (l, row_stays is_continue continue_on more a b s run)

pub stays_around : StaysAround
stays_around (PlainToken l) a b s is = lexeme_stays l a b s is
stays_around (RawIdentifierToken c more) a b s is = name_stays c more a b s is
stays_around (LifetimeToken c more) a b s (run, free, plain) = (
  name_stays c more a b s run,
  first_stays is_apostrophe apostrophe_on a b s free,
  sym (same_identifier c (more ++ a) (more ++ b) (front_more more a b s)) ∙ plain,
)
stays_around (RawLifetimeToken c more) a b s (run, free) =
    (name_stays c more a b s run, first_stays is_apostrophe apostrophe_on a b s free)
stays_around (DocLineToken body) a b s (run, doc) = (row_stays is_in_line line_on body a b s run, doc)
stays_around (DocBlockToken inside) a b s is = is
stays_around (BadQuoteToken q) a b s is = absurd is
stays_around (StrayToken c) a b s is = absurd is
