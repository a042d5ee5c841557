-- For proofs only: the set of opening delimiters that are known to have no closing delimiter.
use Rattle.std.specs.Prelude.{◌≡◌, ◌≤◌, ℕ, List, ◌∷◌, ◌++◌, replicate, None, IfSome, IsSomeAnd, IsTrue}
use Prim.Native.Char.{code}
use Rattle.std.specs.Str.{chars, IsUtf8}
use Rattle.rl_syntax.specs.Texts.{IsTail}
use Rattle.rl_lexer.specs.Cursors.{IsCursorState}
use Rattle.rl_lexer.specs.Lexemes.{LiteralPrefix, prefix_text}
use Rattle.rl_lexer.specs.Mirrors.LexemeAt.{after_quote, after_raw}
use Rattle.rl_cursors.specs.declared.openers.Opener.{Opener}
use Rattle.rl_cursors.specs.declared.openers.Opener.TheVariants.{Quoted, Raw}
use Rattle.rl_cursors.specs.declared.unclosed.Unclosed.{Unclosed}

-- The opening delimiter of a string, without its prefix `b` or `c`, followed by the text `body`.
abbrev pub opened : Opener → List ℕ → List ℕ
opened Quoted body = code "\"" ∷ body
opened (Raw n) body = code "r" ∷ (replicate n (code "#") ++ code "\"" ∷ body)

-- The text is an optional prefix `b` or `c`, the opening delimiter `opener`, and the text `body`.
abbrev pub BeginsOpener : List ℕ → Opener → List ℕ → Type 0
BeginsOpener t opener body = (p : LiteralPrefix) × (t ≡ prefix_text p ++ opened opener body)

-- In the text, each literal with the given opening delimiter is unclosed.
abbrev pub NoneCloses : Opener → List ℕ → Type 0
NoneCloses Quoted t = (front body : List ℕ) → t ≡ front ++ code "\"" ∷ body → after_quote body ≡ None
NoneCloses (Raw n) t = after_raw n t ≡ None

-- The set is correct: each literal that begins with one of its opening delimiters is unclosed in the text.
pub record AreUnclosed (known : Unclosed) (t : List ℕ) : Type 0 where
  pub quoted : IsTrue known.quoted → NoneCloses Quoted t
  pub raw : IfSome known.raw (λ n. NoneCloses (Raw n) t)

-- The given opening delimiter is in the set of unclosed opening delimiters.
abbrev pub IsIncluded : Unclosed → Opener → Type 0
IsIncluded known Quoted = IsTrue known.quoted
IsIncluded known (Raw n) = IsSomeAnd known.raw (λ least. least ≤ n)

-- The state of a cursor over the source `whole` is valid. `part` is the text from the position at which lexing last resumed,
-- and an end of `whole`. `rest` is the text that isn't lexed yet, and an end of `part`. The opening delimiters in the set
-- `known` have no closing delimiter in `rest`.
pub record IsRecoveryState (whole part rest : List ℕ) (known : Unclosed) : Type 0 where
  pub is_text : IsUtf8 whole
  pub in_whole : IsTail whole part
  pub cursor : IsCursorState part rest
  pub unclosed : AreUnclosed known (chars rest)
