-- Theorems on single lexemes: a text begins with at most one lexeme, and a lexeme other than a punctuation character stays a
-- lexeme if a separator follows it.
use Rattle.rl_syntax.proofs.Common.{IsTrue, ⊤}
use Rattle.std.specs.Prelude.{◌≡◌, ◌||◌, ◌==◌, ℕ, List, [], ◌∷◌, ◌++◌}
use Rattle.rl_syntax.specs.Texts.{is_white}
use Rattle.rl_lexer.specs.Lexemes.{Lexeme, MarkLexeme, IsLexeme, LexemeWith}

-- A text begins with at most one lexeme.
abbrev pub OneLexeme : Type 0
OneLexeme = (t v w x y : List ℕ) → t ≡ v ++ x → t ≡ w ++ y → LexemeWith v x → LexemeWith w y → (v ≡ w) × (x ≡ y)

-- The text is empty, or begins with white space or a slash.
abbrev pub BeginsGap : List ℕ → Type 0
BeginsGap [] = ⊤
BeginsGap (c ∷ t) = IsTrue (is_white c || c == 47)

-- A condition on a lexeme: it isn't a punctuation character. Such a lexeme stays a lexeme before white space, a slash
-- or the end of a text.
abbrev pub KeepsItsEnd : Lexeme → Type 0
KeepsItsEnd (MarkLexeme c) = ⊥
KeepsItsEnd _ = ⊤

-- A lexeme other than a punctuation character stays a lexeme if it is followed by white space, a slash or the end of a text.
abbrev pub StaysBeforeGap : Type 0
StaysBeforeGap = (l : Lexeme) (after gap : List ℕ) → KeepsItsEnd l → IsLexeme l after → BeginsGap gap → IsLexeme l gap
