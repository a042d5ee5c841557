-- Punctuation tokens, and their names in messages.
pub use Rattle.rl_lexer.specs.Lexemes.{is_punct}
use Rattle.std.specs.Prelude.{ℕ, List, [], ◌∷◌}
use Prim.Native.Char.{code}
use Rattle.rl_syntax.specs.declared.span.Span.{Span}

-- The name of the punctuation character `c` in error messages: the character between two backticks.
abbrev pub mark_word : ℕ → List ℕ
mark_word c = code "`" ∷ (c ∷ (code "`" ∷ []))

-- The parts of a punctuation token: its character, and its span.
pub record Mark : Type 0 where
  pub ch : ℕ
  pub span : Span
