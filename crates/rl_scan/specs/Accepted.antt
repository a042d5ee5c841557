-- The literals that `--bad` accepts. Sources, paths and texts are lists of bytes.
use Rattle.std.specs.Prelude.{◌≡◌, ◌⊎◌, ◌<◌, ◌+◌, ℕ, Bool, false, ◌||◌, List, [], ◌∷◌, Option, Some, None, IfSome, IsTrue, codes, drop, encode_utf8_all, length, slice_range, ⊤}
use Rattle.std.specs.List.{AllByRecursion, list_any}
use Rattle.std.specs.Str.{bytes_eq, chars, IsCharBoundary}
use Rattle.std.specs.declared.result.Result.TheVariants.{Ok}
use Rattle.rl_syntax.specs.Texts.{begins}
use Rattle.rl_syntax.specs.declared.kind.Kind.TheVariants.{Int as IntKind, Float as FloatKind}
use Rattle.rl_lexer.specs.Cursors.{CursorState}
use Rattle.rl_lexer.specs.Sources.{CutSource, IsCutUpTo, IsLiteralText, SourceErrorAt, source_kind, source_text}
use Rattle.rl_lexer.specs.declared.lex_error.LexKind.{LexKind}
use Rattle.rl_lexer.specs.declared.lex_error.LexKind.TheVariants.{UnclosedComment, UnclosedQuote}
use Rattle.rl_strict.specs.FlawWords.{flaw_id}
use Rattle.rl_strict.specs.Limits.{ExplainsLimit, IsFloatBySuffix}
use Rattle.rl_strict.specs.Readings.{ExplainsOf, IsReadingOf}
use Rattle.rl_strict.specs.declared.flaws.Flaw.{Flaw}
use Rattle.rl_strict.specs.declared.line_ends.LineEnds.TheVariants.{File as InFile}
use Rattle.rl_strict.specs.declared.strict_reading.Reading.{Reading}
use Rattle.rl_strict.specs.declared.strict_reading.Reading.TheVariants.{Text, Unit, Integer, Float, Truth}
use Rattle.rl_flaws.specs.Before.{may_negate, reserved, year_of}
use Rattle.rl_flaws.specs.ErrorWords.{type_error_id}
use Rattle.rl_flaws.specs.TypeErrors.{HasType, HasTypeError}
use Rattle.rl_flaws.specs.declared.type_errors.TypeError.{TypeError}
use Rattle.rl_style.specs.Calls.{CallState, Outside, advance_calls, is_in_call}
use Rattle.rl_files.specs.Trees.{World}
use Rattle.rl_files.specs.Walks.{FileAt, ErrorAt, Visited, Visits, Waypoint}
use Rattle.rl_files.specs.declared.walk.Selection.{Selection}
use Rattle.rl_scan.specs.declared.job.Job.{Job}

-- Rust has a type for the literal with the given parse result. `negated` tells whether a minus may precede the literal. An integer
-- above 128 bits has a type only if its suffix makes it a float.
abbrev pub HasTypeBy : List ℕ → Bool → Reading → Type 0
HasTypeBy text negated (Text kind body) = HasType kind (chars text) 0 negated (drop body.suffix_at text)
HasTypeBy text negated (Unit kind body unit) = HasType kind (chars text) 0 negated (drop body.suffix_at text)
HasTypeBy text negated (Integer (Some magnitude) at) = HasType IntKind (chars text) magnitude negated (drop at text)
HasTypeBy text negated (Integer None at) = IsFloatBySuffix (chars text)
HasTypeBy text negated (Float at) = HasType FloatKind (chars text) 0 negated (drop at text)
HasTypeBy text negated (Truth truth) = ⊤

-- The literal with the given parse result has the type error.
abbrev pub HasTypeErrorBy : TypeError → List ℕ → Bool → Reading → Type 0
HasTypeErrorBy error text negated (Text kind body) =
    HasTypeError error kind (chars text) 0 negated (drop body.suffix_at text)
HasTypeErrorBy error text negated (Unit kind body unit) =
    HasTypeError error kind (chars text) 0 negated (drop body.suffix_at text)
HasTypeErrorBy error text negated (Integer (Some magnitude) at) =
    HasTypeError error IntKind (chars text) magnitude negated (drop at text)
HasTypeErrorBy error text negated (Integer None at) = ⊥
HasTypeErrorBy error text negated (Float at) = HasTypeError error FloatKind (chars text) 0 negated (drop at text)
HasTypeErrorBy error text negated (Truth truth) = ⊥

-- The suffix of a literal with the given parse result begins at the start of a character, or is empty.
abbrev pub BeginsSuffix : List ℕ → Reading → Type 0
BeginsSuffix text (Text kind body) = IsCharBoundary text body.suffix_at
BeginsSuffix text (Unit kind body unit) = IsCharBoundary text body.suffix_at
BeginsSuffix text (Integer magnitude at) = IsCharBoundary text at
BeginsSuffix text (Float at) = IsCharBoundary text at
BeginsSuffix text (Truth truth) = ⊤

-- The position relative to macro calls after some tokens of a source.
abbrev pub calls_after : CallState → List CutSource → CallState
calls_after calls [] = calls
calls_after calls (w ∷ ws) =
    calls_after (advance_calls calls (source_kind w.token) (encode_utf8_all (source_text w.token))) ws

-- A cursor over the source has read some tokens, and `calls` is the position relative to macro calls after them.
abbrev pub HasFollowed : List ℕ → CursorState → CallState → Type 0
HasFollowed source s calls = (before : List CutSource) × IsCutUpTo (chars s.text) before (chars s.rest)
    × (calls ≡ calls_after Outside before) × (s.text ≡ source)

-- The token at the byte offset `at` of the source is in a macro call, by the tokens `before` it. The source from the token on is
-- `rest`.
pub record IsInCallAt (source : List ℕ) (at : ℕ) : Type 0 where
  pub before : List CutSource
  pub rest : List ℕ
  pub are_cuts : IsCutUpTo (chars source) before (chars rest)
  pub place : at + length rest ≡ length source
  pub is_inside : IsTrue (is_in_call (calls_after Outside before))

-- The identifier of an error is in the list of `--allow`.
abbrev pub Allows : Job → List ℕ → Type 0
Allows job id = IsTrue (list_any (λ allowed. bytes_eq allowed.now id) job.lists.allowed.now)

-- The identifier of the reason why Rust has no type for the literal with the given parse result.
abbrev pub IsIdOfTypeError : List ℕ → List ℕ → Bool → Reading → Type 0
IsIdOfTypeError id text negated reading =
    ((error : TypeError) × HasTypeErrorBy error text negated reading × (id ≡ type_error_id error))
    ⊎ ((flaw : Flaw) × ExplainsLimit (chars text) flaw × (id ≡ flaw_id flaw.kind))

-- The edition of the call reserves the literal with the text `before` it, and `--allow` names reserved prefixes.
abbrev pub HasAllowedPrefix : Job → List ℕ → List ℕ → Type 0
HasAllowedPrefix job before text = IsTrue (reserved job.edition before text) × Allows job (codes "reserved-prefix")

-- The literal at the byte offset `at` of the source, which has the given parse result, is accepted: it has a type, types aren't
-- checked, or its error is allowed.
abbrev pub IsTyped : Job → List ℕ → ℕ → List ℕ → Reading → Type 0
IsTyped job source at text reading =
    HasTypeBy text (may_negate (slice_range source 0 at)) reading ⊎ IsTrue job.any_suffix
    ⊎ (IsTrue job.follows × IsInCallAt source at)
    ⊎ ((id : List ℕ) × IsIdOfTypeError id text (may_negate (slice_range source 0 at)) reading × Allows job id)
    ⊎ HasAllowedPrefix job (slice_range source 0 at) text

-- The text may be several tokens before the edition 2021.
abbrev pub is_since_2021 : List ℕ → Bool
is_since_2021 t = begins (codes "c\"") t || begins (codes "cr") t || begins (codes "'r#") t

-- The literal at the byte offset `at` of the source is accepted: it is valid by Rust's grammar and has a type, or its first error is
-- allowed, or it is read as several tokens in the edition of the call.
abbrev pub IsAcceptedLiteral : Job → List ℕ → ℕ → List ℕ → Type 0
IsAcceptedLiteral job source at text =
    ((reading : Reading) × IsReadingOf InFile false text reading × IsTyped job source at text reading)
    ⊎ ((flaw : Flaw) × ExplainsOf InFile false (chars text) flaw × Allows job (flaw_id flaw.kind))
    ⊎ ((year_of job.edition < 2021) × IsTrue (is_since_2021 (chars text)))

-- If the token is a literal, it is accepted.
abbrev pub IsAcceptedToken : Job → List ℕ → CutSource → Type 0
IsAcceptedToken job source w = IsLiteralText (source_kind w.token) (source_text w.token)
    → IsAcceptedLiteral job source w.at (encode_utf8_all (source_text w.token))

-- The identifier of the error that ends a source.
abbrev pub end_id : LexKind → List ℕ
end_id UnclosedQuote = codes "unclosed-quote"
end_id UnclosedComment = codes "unclosed-comment"
end_id _ = codes "stray-character"

-- All literals of the source are accepted. The source is lexed to its end, or to an error that is allowed.
pub record AreAccepted (job : Job) (source : List ℕ) : Type 0 where
  pub cuts : List CutSource
  pub rest : List ℕ
  pub are_cuts : IsCutUpTo (chars source) cuts (chars rest)
  pub end : (rest ≡ []) ⊎ ((kind : LexKind) × SourceErrorAt kind (chars rest) × Allows job (end_id kind))
  pub accepted : AllByRecursion (IsAcceptedToken job source) cuts

-- If the file at a path can be read, all its literals are accepted.
abbrev pub IsAcceptedFile : Job → World → List ℕ → Type 0
IsAcceptedFile job w path = (bytes : List ℕ) → w.bytes path ≡ Ok bytes → AreAccepted job bytes

abbrev pub IsAcceptedVisit : Job → World → Visited → Type 0
IsAcceptedVisit job w (FileAt path) = IsAcceptedFile job w path
IsAcceptedVisit job w (ErrorAt path why) = ⊤

-- All literals of all files of a walk are accepted.
abbrev pub AcceptsAll : Job → Option World → Selection → List Waypoint → Type 0
AcceptsAll job holds selection waypoints = IfSome holds (λ w. (visits : List Visited)
    × Visits selection w waypoints visits × AllByRecursion (IsAcceptedVisit job w) visits)
