-- Proof that, if no lexeme begins the text after a cursor, the error at the cursor is the first error of the whole
-- text.
use Rattle.rl_syntax.proofs.Common.{◌≡◌, ◌≢◌, ℕ, ◌+◌, ◌-◌, ◌<◌, Bool, true, false, ◌||◌, ◌==◌, List, [], length, Option, Some, None, refl, sym, ◌∙◌, ap, subst, arith, or_from, encodes-chars, nat_tests, IfNone, codes, if◌then◌else◌, chars, IsUtf8, encode_utf8_all}
use Rattle.std.specs.Option.{is_some}
use Rattle.rl_lexer.specs.declared.lex_error.LexKind.{LexKind}
use Rattle.rl_lexer.specs.declared.lex_error.LexKind.TheVariants.{DocComment, UnclosedComment, UnclosedQuote, Lifetime, RawIdentifier, StrayCharacter, UnmatchedClose, UnclosedGroup, TooDeep, Memory}
use Rattle.rl_lexer.specs.declared.lex_error.LexError.{LexError}
use Rattle.rl_syntax.specs.Texts.{begins, byte_len}
use Rattle.rl_lexer.specs.Cursors.{CursorState, IsCursorState, IsFirstError}
use Rattle.rl_lexer.specs.Cuts.{LexedToken, LexesUpTo, open_groups, OpenGroup, error_place, begins_doc_comment, begins_lifetime, BeginsNoLexeme, ErrorAt, HasFirstError, Rejects}
use Rattle.rl_lexer.specs.Mirrors.ErrorAt.{error_kind}
use Rattle.rl_lexer.proofs.LexemeOpeners.{quote_begins, no_quote_begins, quote_here}
use Rattle.rl_syntax.proofs.Rests.{tail_length}
use Rattle.rl_lexer.specs.Mirrors.LexemeAt.{begins_quote}
use Rattle.rl_lexer.specs.Lexemes.{begins_raw_identifier}

-- The number of bytes to which the characters of a text are encoded is the length of the text in bytes.
pub char_len : (t : List ℕ) → IsUtf8 t → byte_len (chars t) ≡ length t
char_len t is = ap length (encodes-chars t is)

-- The byte offset at which the end of a text begins is the same, whether it is computed from bytes or from characters.
pub rest_place : (text rest : List ℕ) (at : ℕ) → IsUtf8 text → IsUtf8 rest → at + length rest ≡ length text
    → at + byte_len (chars rest) ≡ byte_len (chars text)
rest_place text rest at is is_rest place = omega (arith, char_len text is, char_len rest is_rest, place)

-- If a text isn't empty and begins with no lexeme, `error_kind` returns the kind of the error at the start of the text.
pub kind_here : (groups : List OpenGroup) (r : List ℕ) → r ≢ [] → BeginsNoLexeme r → ErrorAt (error_kind r) groups r
kind_here groups r some none =
    go (begins_doc_comment r) (begins (codes "/*") r) (begins_quote r) (begins_lifetime r) (begins_raw_identifier r)
    refl refl refl refl refl
  where
    go : (doc block quote life raw : Bool) → begins_doc_comment r ≡ doc → begins (codes "/*") r ≡ block → begins_quote r
        ≡ quote → begins_lifetime r ≡ life → begins_raw_identifier r ≡ raw
        → ErrorAt (if doc then DocComment else (if block then UnclosedComment else
        (if quote then UnclosedQuote else (if life then Lifetime else
        (if raw then RawIdentifier else StrayCharacter))))) groups r
    go true block quote life raw a b c d e = a
    go false true quote life raw a b c d e = (b, a)
    go false false true life raw a b c d e = (none, quote_begins r c)
    go false false false true raw a b c d e = (none, d)
    go false false false false true a b c d e = (none, e)
    go false false false false false a b c d e = (some, none, no_quote_begins r c, none_of_these a b d e)
      where
        none_of_these : begins_doc_comment r ≡ false → begins (codes "/*") r ≡ false → begins_lifetime r ≡ false
            → begins_raw_identifier r ≡ false → (begins_doc_comment r || begins (codes "/*") r || begins_lifetime r
            || begins_raw_identifier r) ≡ false
        none_of_these a b d e = or_from _ _ (or_from _ _ (or_from _ _ a b) d) e

pub error_rejects : (t : List ℕ) (k : LexKind) (at : ℕ) → HasFirstError t k at → Rejects t k at
error_rejects t DocComment at h = h
error_rejects t UnclosedComment at h = h
error_rejects t UnclosedQuote at h = h
error_rejects t Lifetime at h = h
error_rejects t RawIdentifier at h = h
error_rejects t StrayCharacter at h = h
error_rejects t UnmatchedClose at h = h
error_rejects t UnclosedGroup at h = h
error_rejects t TooDeep at h = h
error_rejects t Memory at h = absurd h.error

-- An error of a kind that `error_kind` returns is at the byte offset `at`, where lexing ends, and not at an opening
-- delimiter before.
here_place : (r : List ℕ) (groups : List OpenGroup) (at : ℕ) → at ≡ error_place (error_kind r) groups at
here_place r groups at = go (begins_doc_comment r) (begins (codes "/*") r) (begins_quote r) (begins_lifetime r)
    (begins_raw_identifier r)
  where
    go : (doc block quote life raw : Bool) → at ≡ error_place (if doc then DocComment else
        (if block then UnclosedComment else (if quote then UnclosedQuote else
        (if life then Lifetime else (if raw then RawIdentifier else StrayCharacter))))) groups at
    go true block quote life raw = refl
    go false true quote life raw = refl
    go false false true life raw = refl
    go false false false true raw = refl
    go false false false false true = refl
    go false false false false false = refl

pub chars_some : (rest : List ℕ) → IsUtf8 rest → (length rest == 0) ≡ false → chars rest ≢ []
chars_some rest is some nil =
    let e : rest ≡ [] = sym (encodes-chars rest is) ∙ ap encode_utf8_all nil in
    let n : 0 < length rest = grind (arith, nat_tests) in
    absurd (omega (arith, ap length e))

-- The error `e`, which the cursor `t` returns if no lexeme begins the remaining text, is an error at the start of that
-- text, and the first error of the whole text.
pub record Stops (t : CursorState) (e : LexError) : Type 0 where
  pub error : (groups : List OpenGroup) → ErrorAt e.kind groups (chars t.rest)
  pub first : IsFirstError t e.kind e.at

pub stops_here : (text rest : List ℕ) (e : LexError) (kind : LexKind) → IsCursorState text rest → (empty : Bool) → empty
    ≡ (length rest == 0) → empty ≡ false → BeginsNoLexeme (chars rest) → kind ≡ error_kind (chars rest) → e
    ≡ record { kind = kind; at = length text - length rest } → Stops (record { text = text; rest = rest }) e
stops_here text rest e kind is empty empty_is some none kind_is e_is =
    let t : CursorState = record { text = text; rest = rest } in
    let place : ℕ = length text - length rest in
    let here : place + length rest ≡ length text = omega (arith, tail_length text rest is.following) in
    let error : (groups : List OpenGroup) → ErrorAt kind groups (chars rest) =
    λ groups. rw kind_is (kind_here groups (chars rest) (chars_some rest is.following.is_text (sym empty_is ∙ some))
    none) in
    let first : (cuts : List LexedToken) (groups : List OpenGroup) → LexesUpTo 0 (chars text) cuts (chars rest)
    → open_groups [] cuts ≡ Some groups → HasFirstError (chars text) kind place =
    λ cuts groups are open_now. record {
      cuts = cuts;
      rest = chars rest;
      groups = groups;
      rest_at = place;
      are_cuts = are;
      are_open = open_now;
      error = error groups;
      rest_place = rest_place text rest place is.is_text is.following.is_text here;
      at_is = rw kind_is (here_place (chars rest) groups place);
    } in
    subst (λ (x : LexError). Stops t x) (sym e_is) (record { error = error; first = first })

pub none_some : {A : Type 0} (r : Option A) (P : Type 0) (b : Bool) → b ≡ is_some r → b ≡ false → IfNone r P → P
none_some None P b e h p = p
none_some (Some x) P b e h p = absurd (cc)

-- If no group is open, an empty text has no lexing error.
pub no_error : (k : LexKind) → ErrorAt k [] [] → ⊥
no_error DocComment h = absurd (cc)
no_error UnclosedComment (h, _) = absurd (cc)
no_error UnclosedQuote (_, h) = let q : false ≡ true = quote_here [] h in absurd (cc)
no_error Lifetime (_, h) = absurd (cc)
no_error RawIdentifier (_, h) = absurd (cc)
no_error StrayCharacter (some, _, _, _) = some refl
no_error UnmatchedClose h = absurd (cc)
no_error UnclosedGroup (_, some) = some refl
no_error TooDeep (h, _) = absurd (cc)
no_error Memory h = h
