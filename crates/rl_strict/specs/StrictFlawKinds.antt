-- The meaning of each kind of flaw in a quoted literal of Rust's grammar. `text` is the text after the opening delimiter, or
-- for a raw string the text that begins with its hashes. The text to show for the flaw begins at `piece`, and the flaw at
-- `rest`.
pub use Rattle.rl_lenient.specs.StrictUnits.{BreakEnds, BreaksEnd, BeginsStrictUnit, BeginsStrictUnits, HasNoStrictUnit}
use Rattle.std.specs.Prelude.{◌≡◌, ◌≢◌, ◌⊎◌, ℕ, ◌<◌, ◌==◌, ◌&&◌, Bool, true, false, not, nat_lt, List, [], codes, ◌∷◌, ◌++◌, replicate, IsTrue, IsFalse}
use Rattle.std.specs.List.{list_all}
use Prim.Native.Char.{code}
use Rattle.rl_syntax.specs.declared.kind.Kind.{Kind}
use Rattle.rl_syntax.specs.declared.kind.Kind.TheVariants.{ByteStr, CStr}
use Rattle.rl_syntax.specs.Texts.{first_passes, is_continue, is_start}
use Rattle.rl_syntax.specs.Quoted.{is_string}
use Rattle.rl_syntax.specs.Classes.{is_hash}
use Rattle.rl_lexer.specs.Sources.{is_apostrophe}
use Rattle.rl_syntax.specs.Strict.{IsRawInside}
use Rattle.rl_strict.specs.declared.flaws.FlawKind.{FlawKind}
use Rattle.rl_strict.specs.declared.flaws.FlawKind.TheVariants.{UnexpectedEnd, NoQuote, Unclosed, Nul, NotAscii, TwoCharacters, BadSuffix, TooManyHashes, CarriageReturn, TextAfterQuote, ExtraHash, UnderscoreSuffix}
use Rattle.rl_lenient.specs.declared.quoted_forms.QuotedForm.{QuotedForm}
use Rattle.rl_lenient.specs.declared.quoted_forms.QuotedForm.TheVariants.{Cooked as CookedForm, Raw as RawForm, Single as SingleForm}
use Rattle.rl_strict.specs.FlawKinds.{Begins, IsUnopened, UnitFlaw}
use Rattle.rl_lenient.specs.Forms.{form_opener, has_form}
use Rattle.rl_lenient.specs.StrictBytes.{HasNoCarriageReturn}

-- The meaning of a kind of flaw in an invalid character or escape. `CarriageReturn` means that a string contains a CR, with
-- or without a backslash before it. `UnitFlaw` defines all other kinds.
abbrev pub StrictUnitFlaw : Kind → FlawKind → List ℕ → List ℕ → Type 0
StrictUnitFlaw kind CarriageReturn text rest =
    IsTrue (is_string kind) × ((text ≡ rest) ⊎ (text ≡ codes "\\" ++ rest)) × Begins (λ c. c == code "\r") rest
StrictUnitFlaw kind flaw text rest = UnitFlaw kind flaw text rest

-- ---- flaws after the closing quote

-- The closing quote of a literal of the form: `'` or `"`.
abbrev pub form_quote : QuotedForm → ℕ
form_quote SingleForm = code "'"
form_quote _ = code "\""

-- The form is the form of raw strings.
abbrev pub is_raw_form : QuotedForm → Bool
is_raw_form RawForm = true
is_raw_form _ = false

-- The text can be completed to a suffix: it is empty, an identifier, or `_` alone.
abbrev pub is_suffix_front : List ℕ → Bool
is_suffix_front [] = true
is_suffix_front (c ∷ cs) = is_start c && list_all is_continue cs

-- Whether a suffix that begins with the first text can continue with the first character of the second text.
abbrev pub goes_on_with_suffix : List ℕ → List ℕ → Bool
goes_on_with_suffix [] rest = first_passes is_start rest
goes_on_with_suffix (c ∷ cs) rest = first_passes is_continue rest

-- A hash directly follows the closing delimiter of a raw string: `front` is empty, and `rest` begins with the hash.
abbrev pub IsExtraHash : QuotedForm → List ℕ → List ℕ → Type 0
IsExtraHash form front rest = IsTrue (is_raw_form form) × (front ≡ []) × Begins is_hash rest

-- The text after a closing delimiter is `front` and `rest`, and the flaw is at `rest`. In the order of the equations, the
-- flaws are: one more hash, one more closing quote, the suffix `_` alone, and a character that can't continue the suffix.
abbrev pub SuffixFlaw : QuotedForm → FlawKind → List ℕ → List ℕ → Type 0
SuffixFlaw form ExtraHash front rest = IsExtraHash form front rest
SuffixFlaw form TextAfterQuote front rest = IsTrue (is_suffix_front front) × Begins (λ c. c == form_quote form) rest
SuffixFlaw form UnderscoreSuffix front rest = (front ≡ codes "_") × (rest ≡ [])
SuffixFlaw form BadSuffix front rest =
    IsTrue (is_suffix_front front) × (rest ≢ []) × IsFalse (goes_on_with_suffix front rest)
    × IsFalse (first_passes (λ c. c == form_quote form) rest) × (IsExtraHash form front rest → ⊥)
SuffixFlaw form _ front rest = ⊥

-- The text to show for a flaw after the closing delimiter, up to the end of the text. For one more hash or quote, it begins
-- at the closing quote. For other flaws, it begins at the suffix.
abbrev pub suffix_piece : FlawKind → List ℕ → List ℕ → List ℕ
suffix_piece ExtraHash closing suffix = closing
suffix_piece TextAfterQuote closing suffix = closing
suffix_piece _ closing suffix = suffix

-- ---- flaws of raw strings

-- `text` is at most 255 hashes, the opening quote of a raw string, a part of its content, and `rest`. The part of the
-- content has only characters that a raw string of the kind may contain, and no closing delimiter.
pub record IsOpen (kind : Kind) (hashes : ℕ) (text rest : List ℕ) : Type 0 where
  pub few : hashes < 256
  pub body : List ℕ
  pub allowed : IsRawInside kind body
  pub no_carriage_return : HasNoCarriageReturn body
  pub no_closer : (front after : List ℕ) → body ≢ front ++ (code "\"" ∷ (replicate hashes (code "#") ++ after))
  pub text_is : text ≡ replicate hashes (code "#") ++ (code "\"" ∷ (body ++ rest))

-- A raw string isn't closed before `rest`. `rest` begins with a character that passes the test `test`.
abbrev pub IsSpoiledBy : Kind → (ℕ → Bool) → List ℕ → List ℕ → Type 0
IsSpoiledBy kind test text rest = (hashes : ℕ) × IsOpen kind hashes text rest × Begins test rest

abbrev pub StrictRawFlaw : Kind → FlawKind → List ℕ → List ℕ → List ℕ → Type 0
StrictRawFlaw kind TooManyHashes text piece rest =
    (text ≡ replicate 255 (code "#") ++ rest) × Begins is_hash rest × (piece ≡ text)
StrictRawFlaw kind UnexpectedEnd text piece rest = IsUnopened text rest × (rest ≡ []) × (piece ≡ rest)
StrictRawFlaw kind NoQuote text piece rest = IsUnopened text rest × (rest ≢ []) × (piece ≡ rest)
StrictRawFlaw kind Unclosed text piece rest = ((hashes : ℕ) × IsOpen kind hashes text rest) × (rest ≡ [])
    × (piece ≡ rest)
StrictRawFlaw kind CarriageReturn text piece rest = IsSpoiledBy kind (λ c. c == code "\r") text rest × (piece ≡ rest)
StrictRawFlaw kind Nul text piece rest = (kind ≡ CStr) × IsSpoiledBy kind (λ c. c == 0) text rest × (piece ≡ rest)
StrictRawFlaw kind NotAscii text piece rest =
    (kind ≡ ByteStr) × IsSpoiledBy kind (λ c. not (nat_lt c 128)) text rest × (piece ≡ rest)
StrictRawFlaw kind _ text piece rest = ⊥

-- ---- flaws of each form of literal

-- The flaw after the one character or escape of a character or byte literal: the text ends, or a character other than the
-- closing quote follows.
abbrev pub StrictCloserFlaw : Kind → FlawKind → List ℕ → List ℕ → Type 0
StrictCloserFlaw kind Unclosed text rest = BeginsStrictUnit kind text rest × (rest ≡ [])
StrictCloserFlaw kind TwoCharacters text rest =
    BeginsStrictUnit kind text rest × (rest ≢ []) × IsFalse (first_passes is_apostrophe rest)
StrictCloserFlaw kind _ text rest = ⊥

-- The flaw is before the closing quote of the literal.
abbrev pub OpenFlaw : QuotedForm → Kind → FlawKind → List ℕ → List ℕ → List ℕ → Type 0
OpenFlaw CookedForm kind flaw text piece rest =
    BeginsStrictUnits kind text piece × HasNoStrictUnit kind piece × StrictUnitFlaw kind flaw piece rest
    × IsFalse (first_passes (λ c. c == code "\"") piece)
OpenFlaw SingleForm kind flaw text piece rest =
    ((HasNoStrictUnit kind text × StrictUnitFlaw kind flaw text rest) ⊎ StrictCloserFlaw kind flaw text rest)
    × (piece ≡ text)
OpenFlaw RawForm kind flaw text piece rest = StrictRawFlaw kind flaw text piece rest

-- The literal is closed: its content is valid, and `closing` is the closing delimiter and the suffix.
abbrev pub IsClosed : QuotedForm → Kind → List ℕ → List ℕ → List ℕ → Type 0
IsClosed CookedForm kind text closing suffix = BeginsStrictUnits kind text closing × (closing ≡ code "\"" ∷ suffix)
IsClosed SingleForm kind text closing suffix = BeginsStrictUnit kind text closing × (closing ≡ code "'" ∷ suffix)
IsClosed RawForm kind text closing suffix =
    (hashes : ℕ) × IsOpen kind hashes text closing × (closing ≡ code "\"" ∷ (replicate hashes (code "#") ++ suffix))

-- The flaw is after the closing delimiter of the literal.
pub record ClosedFlaw (form : QuotedForm) (kind : Kind) (flaw : FlawKind) (text piece rest : List ℕ) : Type 0 where
  pub closing : List ℕ
  pub front : List ℕ
  pub closed : IsClosed form kind text closing (front ++ rest)
  pub spoils : SuffixFlaw form flaw front rest
  pub piece_is : piece ≡ suffix_piece flaw closing (front ++ rest)

-- The flaw is before or after the closing delimiter of the literal.
abbrev pub StrictQuotedFlaw : QuotedForm → Kind → FlawKind → List ℕ → List ℕ → List ℕ → Type 0
StrictQuotedFlaw form kind flaw text piece rest =
    OpenFlaw form kind flaw text piece rest ⊎ ClosedFlaw form kind flaw text piece rest

-- ---- flaws of a whole text

-- The text begins with the opening delimiter of a quoted literal, and the flaw is after that delimiter.
pub record HasStrictQuotedFlaw (flaw : FlawKind) (text piece rest : List ℕ) : Type 0 where
  pub form : QuotedForm
  pub kind : Kind
  pub inside : List ℕ
  pub is_form : IsTrue (has_form form kind)
  pub text_is : text ≡ form_opener form kind ++ inside
  pub spoils : StrictQuotedFlaw form kind flaw inside piece rest
