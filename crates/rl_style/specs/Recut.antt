-- The tokens of a source in which one literal is replaced.
use Rattle.std.specs.Prelude.{◌≡◌, ℕ, ◌+◌, ◌-◌, Bool, not, ◌||◌, List, [], ◌∷◌, ◌++◌, IsTrue, codes, ⊤}
use Rattle.std.specs.List.{AllByRecursion}
use Rattle.rl_syntax.specs.Texts.{begins, byte_len}
use Rattle.rl_lexer.specs.Lexemes.{BodyPart, IsBody, NoPrefix, Lexeme, RawLexeme, QuotedLexeme, lexeme_text}
use Rattle.rl_lexer.specs.Sources.{SourceLexeme, PlainToken, BadQuoteToken, StrayToken, CutSource, SourcesUpTo, without_byte_order_mark, IsCutUpTo}
use Rattle.rl_style.specs.Around.{SameEnds, may_precede_quote}

-- The tokens after a literal that was replaced. The literal ended at the byte offset `from`, and the new literal ends at
-- `to`. The difference is added to the byte offset of each token.
abbrev pub moved : ℕ → ℕ → List CutSource → List CutSource
moved from to [] = []
moved from to (w ∷ ws) = record { token = w.token; at = w.at + to - from } ∷ moved from to ws

-- The token is neither a bad quote (for example `'ab'`) nor a stray character (for example `€`).
abbrev pub IsSoundToken : SourceLexeme → Type 0
IsSoundToken (BadQuoteToken q) = ⊥
IsSoundToken (StrayToken c) = ⊥
IsSoundToken _ = ⊤

abbrev pub IsSound : CutSource → Type 0
IsSound w = IsSoundToken w.token

abbrev pub placed_literal : Lexeme → ℕ → CutSource
placed_literal l at = record { token = PlainToken l; at = at }

-- If the new literal replaces the old literal in the text, all other tokens are lexed as before.
pub record IsRecut (at : ℕ) (t : List ℕ) (before after : List CutSource) (old new : Lexeme) (place : ℕ) (r : List ℕ) :
    Type 0 where
  pub front : List ℕ
  pub rest : List ℕ
  pub text_is : t ≡ front ++ (lexeme_text old ++ rest)
  pub place_is : place ≡ at + byte_len front
  pub cuts : SourcesUpTo at (front ++ (lexeme_text new ++ rest)) (before ++ (placed_literal new place
      ∷ moved (place + byte_len (lexeme_text old)) (place + byte_len (lexeme_text new)) after)) r

-- If one literal of a text is replaced, all other tokens are lexed as before. The tokens before it must contain no invalid
-- quotes and no stray characters.
abbrev pub KeepsTheTokens : Type 0
KeepsTheTokens =
    (at : ℕ) (t : List ℕ) (before after : List CutSource) (old new : Lexeme) (place : ℕ) (r : List ℕ)
    → SourcesUpTo at t (before ++ (placed_literal old place ∷ after)) r → AllByRecursion IsSound before
    → SameEnds old new
    → IsRecut at t before after old new place r

-- If the new literal replaces the old literal in the source, all other tokens are lexed as before.
pub record IsRecutSource (t : List ℕ) (before after : List CutSource) (old new : Lexeme) (place : ℕ) (r : List ℕ) : Type
    0 where
  pub front : List ℕ
  pub rest : List ℕ
  pub text_is : t ≡ front ++ (lexeme_text old ++ rest)
  pub place_is : place ≡ byte_len front
  pub cuts : IsCutUpTo (front ++ (lexeme_text new ++ rest)) (before ++ (placed_literal new place
      ∷ moved (place + byte_len (lexeme_text old)) (place + byte_len (lexeme_text new)) after)) r

-- The source doesn't begin with `#!`, or begins with `#![`, an attribute. So its first line isn't an interpreter's line,
-- whatever literals the source contains.
abbrev pub begins_with_code : List ℕ → Bool
begins_with_code t = not (begins (codes "#!") (without_byte_order_mark t)) || begins (codes "#![") (without_byte_order_mark t)

-- If one literal of a source is replaced, all other tokens are lexed as before. The tokens before it must contain no bad
-- quotes and no stray characters. The source must not begin with `#!`, unless it begins with `#![`.
abbrev pub KeepsTheSource : Type 0
KeepsTheSource =
    (t : List ℕ) (before after : List CutSource) (old new : Lexeme) (place : ℕ) (r : List ℕ)
    → IsTrue (begins_with_code t) → IsCutUpTo t (before ++ (placed_literal old place ∷ after)) r
    → AllByRecursion IsSound before → SameEnds old new → IsRecutSource t before after old new place r

-- A string with escapes replaces a raw string without the prefix `b` or `c`. If the text before the raw string ends with
-- neither a hash nor a dot, all other tokens are lexed as before. The tokens before it must contain no bad quotes and no
-- stray characters.
abbrev pub KeepsTheTokensUnraw : Type 0
KeepsTheTokensUnraw =
    (at : ℕ) (t : List ℕ) (before after : List CutSource) (hashes : ℕ) (body suffix : List ℕ) (parts : List BodyPart)
    (place : ℕ) (r : List ℕ) → IsBody parts
    → SourcesUpTo at t (before ++ (placed_literal (RawLexeme NoPrefix hashes body suffix) place ∷ after)) r
    → AllByRecursion IsSound before
    → ((front rest : List ℕ) → t ≡ front ++ (lexeme_text (RawLexeme NoPrefix hashes body suffix) ++ rest)
    → place ≡ at + byte_len front → IsTrue (may_precede_quote front))
    → IsRecut at t before after (RawLexeme NoPrefix hashes body suffix) (QuotedLexeme NoPrefix parts suffix) place r
