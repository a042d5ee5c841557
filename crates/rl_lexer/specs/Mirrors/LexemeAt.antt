-- Executable models of private code: the form of the lexeme at the start of a text, by its first characters, and the
-- text after the lexeme. Only proofs use them.
use Rattle.std.specs.Prelude.{◌≡◌, ℕ, Bool, false, not, ◌&&◌, ◌||◌, ◌==◌, List, [], ◌∷◌, ◌++◌, drop, cond, codes, nat_le}
use Rattle.std.proofs.Common.{suc, zero, Option, Some, None}
use Rattle.std.specs.Char.{is_ascii_digit}
use Rattle.std.specs.Option.{option_map}
use Prim.Native.Char.{code}
use Rattle.rl_syntax.specs.Texts.{is_underscore, is_among, first_passes, begins, is_run_part, is_start, is_continue, begins_char}
use Rattle.rl_lexer.specs.Lexemes.{is_base_letter, delimiters, marks, begins_hashes, begins_dot, LexemeForm, LiteralForm, IdentifierForm, DelimiterForm, MarkForm, form_of, Lexeme, lexeme_text, IsLexeme, is_punct}
use Rattle.rl_lexer.specs.Cuts.{begins_lifetime}
use Rattle.rl_syntax.specs.Classes.{after_run, is_hash}

-- Whether a text begins with any number of hashes, and a quote.
abbrev pub begins_hashed_quote : List ℕ → Bool
begins_hashed_quote t = begins_char (code "\"") (after_run is_hash t)

abbrev pub begins_raw_after : List ℕ → Bool → Bool
begins_raw_after [] b = false
begins_raw_after (c ∷ cs) b = b && c == code "r" && begins_hashed_quote cs

abbrev pub begins_raw : List ℕ → Bool
begins_raw [] = false
begins_raw (c ∷ cs) =
    (c == code "r" && begins_hashed_quote cs)
    || begins_raw_after cs (c == code "b" || c == code "c")

-- Whether a text begins with the opening delimiter of a quoted or raw literal, or with an apostrophe that doesn't begin a
-- lifetime.
abbrev pub begins_quote : List ℕ → Bool
begins_quote r =
    begins (codes "\"") r || begins (codes "b\"") r || begins (codes "c\"") r || begins_raw r
    || begins (codes "b'") r
    || (begins (codes "'") r && not (begins_lifetime r))

-- Whether a text begins like a literal with a prefix, or like a raw identifier.
abbrev pub begins_otherwise : List ℕ → Bool
begins_otherwise [] = false
begins_otherwise (c ∷ t) =
    (c == code "b"
    && (begins_char (code "\"") t
    || (begins_char (code "'") t
    || (begins_char (code "r") t && begins_hashed_quote (drop 1 t)))))
    || ((c == code "c"
    && (begins_char (code "\"") t
    || (begins_char (code "r") t && begins_hashed_quote (drop 1 t))))
    || (c == code "r"
    && (begins_hashed_quote t
    || (begins_char (code "#") t && first_passes is_start (drop 1 t)))))

-- The text after a leading `+` or `-`, or else the text itself.
abbrev pub after_sign : List ℕ → List ℕ
after_sign [] = []
after_sign (c ∷ t) = cond (c == code "+" || c == code "-") t (c ∷ t)

-- Whether a text begins with an exponent: `e` or `E`, a sign or no sign, any number of underscores, and a digit.
abbrev pub begins_exponent : List ℕ → Bool
begins_exponent [] = false
begins_exponent (c ∷ t) =
    (c == code "e" || c == code "E")
    && first_passes is_ascii_digit (after_run is_underscore (after_sign t))

abbrev pub after_suffix : List ℕ → List ℕ
after_suffix [] = []
after_suffix (c ∷ t) = cond (is_start c) (after_run is_continue t) (c ∷ t)

-- The text after the quote that closes a string literal, or `None` if the literal isn't closed. A quote after a backslash doesn't
-- close it.
abbrev pub after_quote : List ℕ → Option (List ℕ)
after_quote [] = None
after_quote (c ∷ []) = cond (c == code "\"") (Some []) None
after_quote (c ∷ e ∷ t) =
    cond (c == code "\"") (Some (e ∷ t))
    (cond (c == code "\\") (after_quote t) (after_quote (e ∷ t)))

-- The number of hashes at the start of a text.
abbrev pub hashes : List ℕ → ℕ
hashes [] = zero
hashes (c ∷ t) = cond (c == code "#") (suc (hashes t)) zero

-- The text after the quote and the n hashes that close a raw literal, or `None` if the literal isn't closed.
abbrev pub after_raw : ℕ → List ℕ → Option (List ℕ)
after_raw n [] = None
after_raw n (c ∷ t) = cond (c == code "\"" && begins_hashes n t) (Some (drop n t)) (after_raw n t)

-- The text after the apostrophe that closes a character literal with an escape, or `None` if an LF or the end of the
-- text comes first.
abbrev pub after_apostrophe : List ℕ → Option (List ℕ)
after_apostrophe [] = None
after_apostrophe (c ∷ t) =
    cond (c == code "'") (Some t) (cond (c == code "\n") None (after_apostrophe t))

-- The text after the apostrophe that closes a character literal, or `None` if no apostrophe follows the character or
-- the escape.
abbrev pub after_single : List ℕ → Option (List ℕ)
after_single [] = None
after_single (c ∷ []) = None
after_single (c ∷ e ∷ t) =
    cond (c == code "\\") (after_apostrophe t) (cond (e == code "'") (Some t) None)

abbrev pub after_lexed_fraction : List ℕ → List ℕ
after_lexed_fraction t = cond (begins_dot t) (after_run (is_run_part is_ascii_digit) (drop 1 t)) t

abbrev pub after_lexed_exponent : List ℕ → List ℕ
after_lexed_exponent t =
    cond (begins_exponent t) (after_run (is_run_part is_ascii_digit) (after_sign (drop 1 t))) t

abbrev pub after_decimal : List ℕ → List ℕ
after_decimal t =
    after_suffix
    (after_lexed_exponent (after_lexed_fraction (after_run (is_run_part is_ascii_digit) t)))

abbrev pub after_digit : ℕ → List ℕ → List ℕ
after_digit c t =
    cond (c == code "0" && first_passes is_base_letter t) (after_run is_continue (drop 1 t))
    (after_decimal t)

abbrev pub quoted_at : List ℕ → Option (List ℕ)
quoted_at t = option_map after_suffix (after_quote t)

abbrev pub raw_at : List ℕ → Option (List ℕ)
raw_at t = option_map after_suffix (after_raw (hashes t) (drop 1 (after_run is_hash t)))

abbrev pub single_at : List ℕ → Option (List ℕ)
single_at t = option_map after_suffix (after_single t)

-- A class of characters, by the lexemes that begin with them.
pub data HeadClass : Type 0 where
  LetterBHead : HeadClass
  LetterCHead : HeadClass
  LetterRHead : HeadClass
  OtherLetterHead : HeadClass
  QuoteHead : HeadClass
  ApostropheHead : HeadClass
  DigitHead : HeadClass
  DelimiterHead : HeadClass
  MarkHead : HeadClass
  SlashHead : HeadClass
  StrayHead : HeadClass

abbrev pub start_class : ℕ → HeadClass
start_class c =
    cond (c == code "b") LetterBHead
    (cond (c == code "c") LetterCHead
    (cond (c == code "r") LetterRHead OtherLetterHead))

abbrev pub rare_class : ℕ → HeadClass
rare_class c =
    cond (is_ascii_digit c) DigitHead
    (cond (c == code "\"") QuoteHead (cond (c == code "'") ApostropheHead StrayHead))

abbrev pub other_class : ℕ → HeadClass
other_class c =
    cond (is_among delimiters c) DelimiterHead
    (cond (c == code "/") SlashHead (cond (is_punct c) MarkHead (rare_class c)))

abbrev pub head_class : ℕ → HeadClass
head_class c = cond (is_start c) (start_class c) (other_class c)

-- Whether a character begins a literal's prefix: `b`, `c` or `r`.
abbrev pub is_prefix_letter : ℕ → Bool
is_prefix_letter c = c == code "b" || c == code "c" || c == code "r"

-- Whether a character begins an identifier, whatever text follows it.
abbrev pub begins_word : ℕ → Bool
begins_word c = not (is_prefix_letter c) && is_start c

-- Whether a character after `b`, `c` or `r` shows that the letter isn't a literal's prefix: its code is at least 64
-- (`@`), and it isn't `r`. The codes of quotes and hashes are below 64.
abbrev pub continues_word : ℕ → Bool
continues_word c = nat_le 64 c && not (c == code "r")

-- Whether a character is a delimiter or a punctuation character, whatever text follows it.
abbrev pub is_always_token : ℕ → Bool
is_always_token c = is_among delimiters c || is_among marks c

-- Whether a character after a slash begins a comment: it is `/` or `*`.
abbrev pub makes_comment : ℕ → Bool
makes_comment c = c == code "/" || c == code "*"

abbrev pub mark_form : ℕ → LexemeForm
mark_form c = cond (is_among delimiters c) (DelimiterForm c) (MarkForm c)

abbrev pub literal_at : Option (List ℕ) → Option (LexemeForm × List ℕ)
literal_at rest = option_map (λ r. (LiteralForm, r)) rest

abbrev pub word_at : List ℕ → Option (LexemeForm × List ℕ)
word_at t = Some (IdentifierForm, after_run is_continue t)

-- The form of the lexeme that begins with the character `c`, and the text after it, by the class of `c`. The text `t`
-- follows `c`.
abbrev pub by_class : HeadClass → ℕ → List ℕ → Option (LexemeForm × List ℕ)
by_class LetterBHead c t =
    cond (begins_char (code "\"") t) (literal_at (quoted_at (drop 1 t)))
    (cond (begins_char (code "'") t) (literal_at (single_at (drop 1 t)))
    (cond (begins_char (code "r") t && begins_hashed_quote (drop 1 t))
    (literal_at (raw_at (drop 1 t))) (word_at t)))
by_class LetterCHead c t =
    cond (begins_char (code "\"") t) (literal_at (quoted_at (drop 1 t)))
    (cond (begins_char (code "r") t && begins_hashed_quote (drop 1 t))
    (literal_at (raw_at (drop 1 t))) (word_at t))
by_class LetterRHead c t =
    cond (begins_hashed_quote t) (literal_at (raw_at t))
    (cond (begins_char (code "#") t && first_passes is_start (drop 1 t)) None (word_at t))
by_class OtherLetterHead c t = word_at t
by_class QuoteHead c t = literal_at (quoted_at t)
by_class ApostropheHead c t = literal_at (single_at t)
by_class DigitHead c t = Some (LiteralForm, after_digit c t)
by_class DelimiterHead c t = Some (DelimiterForm c, t)
by_class MarkHead c t = Some (MarkForm c, t)
by_class SlashHead c t =
    cond (first_passes (λ d. d == code "/" || d == code "*") t) None (Some (MarkForm c, t))
by_class StrayHead c t = None

abbrev pub lexeme_at : List ℕ → Option (LexemeForm × List ℕ)
lexeme_at [] = None
lexeme_at (c ∷ t) = by_class (head_class c) c t

-- A lexeme of the given form begins the text `t`, and the text `rest` follows it.
pub record FormBefore (t : List ℕ) (form : LexemeForm) (rest : List ℕ) : Type 0 where
  pub lexeme : Lexeme
  pub is_lexeme : IsLexeme lexeme rest
  pub text_is : t ≡ lexeme_text lexeme ++ rest
  pub form_is : form_of lexeme ≡ form
