-- In a source, single quotes around no character or several characters don't parse by `syn`'s grammar, and aren't a literal
-- token.
use Rattle.rl_strict.proofs.Names.{◌≡◌, ℕ, ◌==◌, ◌||◌, true, false, not, List, [], ◌∷◌, ◌++◌, refl, sym, ap, inl, lit<, and_parts, both_ways, list_all, or_parts, subst, is_ascii_digit, Byte, Char, Continuation, CrLf, Hex, HasNoReading, IsUnit, Kind, Named, Plain, QuotedUnit, Unicode, append_cancel_left, first_passes, is_plain, is_single, opener, unit_text, is_continue, is_start, begins_number, int_front, BadQuoteToken, BeginsProper, IsSource, PlainToken, suffix_found, neither_true, not_among, HasNoParts, SingleForm, front_complete, not_both, only_quoted, IsToken}
use Rattle.rl_lexer.specs.BadQuotes.{BadQuote, ByteQuote, DigitQuote, IsQuoteBody, OtherQuote, RawWordQuote, WordQuote, bad_quote_text, begins_escape, begins_word_or_escape}
use Rattle.rl_lexer.specs.Lexemes.{BodyPart, CharacterLexeme, EscapedPart, IsLexedSuffix, OneCharacter, PlainPart, body_text}
use Rattle.rl_lexer.specs.Mirrors.LexemeAt.{after_suffix}
use Rattle.rl_lexer.proofs.BadQuotes.{continue_39}
use Rattle.rl_lexer.proofs.LexemeFronts.{start_ascii}
use Rattle.rl_strict.proofs.LimitLemmas.{unread_past}

-- ---- texts without a valid character or escape after the opening quote

-- The text after the opening quote doesn't begin with an unescaped character and the closing quote.
abbrev HasNoBare : Kind → List ℕ → Type 0
HasNoBare kind inside = (c : ℕ) (x : List ℕ) → is_plain kind c ≡ true → inside ≡ c ∷ 39 ∷ x → ⊥

no_single : (kind : Kind) (inside : List ℕ) → first_passes begins_escape inside ≡ false → HasNoBare kind inside
    → HasNoParts SingleForm kind (opener kind ++ inside)
no_single kind inside n bare v body x p =
    go p.0.unit p.0.is_unit (append_cancel_left (opener kind) inside (unit_text p.0.unit ++ (39 ∷ x)) p.0.text_is)
  where
    escape : (front : List ℕ) → inside ≡ 92 ∷ front → ⊥
    escape front e = both_ways (first_passes begins_escape inside) n (ap (first_passes begins_escape) e)

    go : (u : QuotedUnit) → IsUnit kind u → inside ≡ unit_text u ++ (39 ∷ x) → ⊥
    go (Plain c) is e = bare c x is e
    go CrLf is e = not_both kind is p.0.single
    go (Named letter) is e = escape _ e
    go (Hex high low) is e = escape _ e
    go (Unicode first more) is e = escape _ e
    go (Continuation line_end run) is e = not_both kind is.0 p.0.single

single_unread : (kind : Kind) (inside : List ℕ) → is_single kind ≡ true → first_passes begins_escape inside ≡ false
    → HasNoBare kind inside → HasNoReading (opener kind ++ inside)
single_unread kind inside s n bare = only_quoted (opener kind ++ inside) SingleForm kind inside
    (front_complete SingleForm kind inside s) (no_single kind inside n bare)

-- ---- characters that may follow the opening quote, but can't be the literal's content

second_is : (c e d : ℕ) (s x : List ℕ) → c ∷ e ∷ s ≡ d ∷ 39 ∷ x → (e == 39) ≡ true
second_is c e d s x h = let q : e ≡ 39 = cc in ap (λ z. z == 39) q

start_39 : (c : ℕ) → is_start c ≡ true → (c == 39) ≡ false
start_39 c h = not_among c 39 is_start h (start_ascii 39 (lit< tt))

word_92 : (c : ℕ) → (is_ascii_digit c || is_start c) ≡ true → (c == 92) ≡ false
word_92 c h = not_among c 92 (λ d. is_ascii_digit d || is_start d) h (start_ascii 92 (lit< tt))

-- The second character of an identifier isn't a single quote.
row_goes_on : (c d : ℕ) (more x : List ℕ) → list_all is_continue more ≡ true → c ∷ more ≡ d ∷ 39 ∷ x → ⊥
row_goes_on c d [] x each e = absurd (cc)
row_goes_on c d (k ∷ more) x each e = both_ways (k == 39) (not_among k 39 is_continue (and_parts (is_continue k)
    (list_all is_continue more) each).0 continue_39) (second_is c k d more x e)

-- ---- one character between quotes

-- A source that begins with `'c'` begins with a valid token, for any character `c` other than a backslash, whatever text
-- follows.
one_proper : (c : ℕ) (after : List ℕ) → (c == 92) ≡ false → BeginsProper (39 ∷ c ∷ 39 ∷ after)
one_proper c after n =
    let found = suffix_found after in (
      PlainToken (CharacterLexeme false (OneCharacter c) found.0),
      after_suffix after,
      (ap not n, found.1),
      ap (λ z. 39 ∷ c ∷ 39 ∷ z) found.2,
    )

one_byte_proper : (c : ℕ) (after : List ℕ) → (c == 92) ≡ false → BeginsProper (98 ∷ 39 ∷ c ∷ 39 ∷ after)
one_byte_proper c after n =
    let found = suffix_found after in (
      PlainToken (CharacterLexeme true (OneCharacter c) found.0),
      after_suffix after,
      (ap not n, found.1),
      ap (λ z. 98 ∷ 39 ∷ c ∷ 39 ∷ z) found.2,
    )

-- ---- identifiers between quotes

-- In a text such as `ab'`, an identifier of more than one character precedes a single quote. The text doesn't begin with one
-- character and a single quote.
word_bare : (c : ℕ) (more : List ℕ) → list_all is_continue more ≡ true → (more ≡ [] → ⊥)
    → HasNoBare Char (c ∷ (more ++ (39 ∷ [])))
word_bare c [] each some d x plain e = some refl
word_bare c (k ∷ more) each some d x plain e = both_ways (k == 39) (not_among k 39 is_continue (and_parts (is_continue
    k) (list_all is_continue more) each).0 continue_39) (second_is c k d (more ++ (39 ∷ [])) x e)

-- ---- texts between apostrophes that are longer than one character or escape

suffix_39 : (suffix after : List ℕ) → IsLexedSuffix suffix after → first_passes (λ c. c == 39) suffix ≡ false
suffix_39 [] after is = refl
suffix_39 (c ∷ more) after is = start_39 c is.0

body_bare : (kind : Kind) (parts : List BodyPart) (suffix : List ℕ) → first_passes begins_escape (body_text parts) ≡
    false → IsQuoteBody parts → first_passes (λ c. c == 39) suffix ≡ false → ((c : ℕ) → parts ≡ PlainPart c ∷ [] → (c ==
    92) ≡ false → ⊥) → HasNoBare kind (body_text parts ++ (39 ∷ suffix))
body_bare kind [] [] first is after alone d x plain e = absurd (cc)
body_bare kind [] (s ∷ suffix) first is after alone d x plain e = both_ways (s == 39) after
    (second_is 39 s d suffix x e)
body_bare kind (PlainPart c ∷ []) suffix first is after alone d x plain e = alone c refl first
body_bare kind (PlainPart c ∷ PlainPart k ∷ parts) suffix first is after alone d x plain e =
    let free = neither_true (k == 39 || k == 92) (k == 47) is.2.0 in
    both_ways (k == 39) (or_parts (k == 39) (k == 92) free.0).0
    (second_is c k d (body_text parts ++ (39 ∷ suffix)) x e)
body_bare kind (PlainPart c ∷ EscapedPart k ∷ parts) suffix first is after alone d x plain e =
    both_ways (92 == 39) refl (second_is c 92 d (k ∷ (body_text parts ++ (39 ∷ suffix))) x e)
body_bare kind (EscapedPart c ∷ parts) suffix first is after alone d x plain e = absurd (both_ways true first refl)

-- If the text before a closing single quote doesn't begin with an escape, the text with the quote and a suffix appended
-- doesn't either.
body_escape : (parts : List BodyPart) (suffix : List ℕ) → first_passes begins_escape (body_text parts) ≡ false
    → first_passes begins_escape (body_text parts ++ (39 ∷ suffix)) ≡ false
body_escape [] suffix first = refl
body_escape (PlainPart c ∷ parts) suffix first = first
body_escape (EscapedPart c ∷ parts) suffix first = first

no_escape : (parts : List BodyPart) → first_passes begins_word_or_escape (body_text parts) ≡ false
    → first_passes begins_escape (body_text parts) ≡ false
no_escape [] first = refl
no_escape (PlainPart c ∷ parts) first = (or_parts (c == 92) (is_ascii_digit c || is_start c) first).0
no_escape (EscapedPart c ∷ parts) first = absurd (both_ways true first refl)

-- ---- an invalid quote

pub bad_quote_unread : (quote : BadQuote) (after : List ℕ) → IsSource (BadQuoteToken quote) after
    → HasNoReading (bad_quote_text quote)
bad_quote_unread (WordQuote c more) after (none, (word, each)) =
    single_unread Char (c ∷ (more ++ (39 ∷ []))) refl (word_92 c word) (word_bare c more each (λ e. none
    (subst (λ z. BeginsProper ((39 ∷ c ∷ (z ++ (39 ∷ []))) ++ after)) (sym e) (one_proper c after (word_92 c word)))))
bad_quote_unread (RawWordQuote c more) after is =
    single_unread Char (114 ∷ 35 ∷ c ∷ (more ++ (39 ∷ []))) refl refl
    (λ d x plain e. both_ways (35 == 39) refl (second_is 114 35 d (c ∷ (more ++ (39 ∷ []))) x e))
bad_quote_unread (DigitQuote digit more) after (none, (is, row, free)) =
    single_unread Char (digit ∷ more) refl (not_among digit 92 is_ascii_digit is refl)
    (λ d x plain e. row_goes_on digit d more x row.each e)
bad_quote_unread (OtherQuote parts suffix) after (none, (first, is, ends)) =
    let bare = no_escape parts first in
    single_unread Char (body_text parts ++ (39 ∷ suffix)) refl (body_escape parts suffix bare)
    (body_bare Char parts suffix bare is (suffix_39 suffix after ends) (λ c e n. none
    (subst (λ z. BeginsProper ((39 ∷ (body_text z ++ (39 ∷ suffix))) ++ after)) (sym e)
    (one_proper c (suffix ++ after) n))))
bad_quote_unread (ByteQuote parts suffix) after (none, (first, is, ends)) =
    single_unread Byte (body_text parts ++ (39 ∷ suffix)) refl (body_escape parts suffix first)
    (body_bare Byte parts suffix first is (suffix_39 suffix after ends) (λ c e n. none
    (subst (λ z. BeginsProper ((98 ∷ 39 ∷ (body_text z ++ (39 ∷ suffix))) ++ after)) (sym e)
    (one_byte_proper c (suffix ++ after) n))))

no_number : (quote : BadQuote) → begins_number (bad_quote_text quote) ≡ false
no_number (WordQuote c more) = refl
no_number other = refl

pub bad_quote_no_token : (quote : BadQuote) (after : List ℕ) → IsSource (BadQuoteToken quote) after
    → IsToken (bad_quote_text quote) → ⊥
bad_quote_no_token quote after is token =
    let t = bad_quote_text quote in
    let past = unread_past t (bad_quote_unread quote after is) (inl token) in
    both_ways (begins_number t) (no_number quote) (int_front t past.suffix past.sign past.magnitude past.reads)
