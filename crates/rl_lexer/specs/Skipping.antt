-- The relation of a text and the text after its leading white space and plain comments.
use Rattle.std.specs.Prelude.{◌≡◌, ℕ, ◌⊎◌, List, [], ◌∷◌, ◌++◌}
use Prim.Native.Char.{code}
use Rattle.rl_syntax.specs.Trivia.{IsLineBody, IsTrivia, IsTriviaPiece, TriviaPiece, trivia_piece_text}

-- The text is a plain line comment without an LF, at the end of the whole text.
pub record IsOpenLine (t : List ℕ) : Type 0 where
  pub body : List ℕ
  pub is_body : IsLineBody body
  pub text : t ≡ code "/" ∷ code "/" ∷ body

-- The text begins with white space, a plain comment, or a plain line comment without an LF.
abbrev pub BeginsTrivia : List ℕ → Type 0
BeginsTrivia t =
    ((p : TriviaPiece) × (rest : List ℕ) × IsTriviaPiece p × (t ≡ trivia_piece_text p ++ rest))
    ⊎ IsOpenLine t

-- The text `t` consists of white space and plain comments, followed by `r`, which begins with neither. In
-- `StopsInOpenLine`, `t` ends in a line comment without an LF, and `r` is empty.
pub record StopsAfterTrivia (t r : List ℕ) : Type 0 where
  pub front : List ℕ
  pub is_trivia : IsTrivia front
  pub text : t ≡ front ++ r
  pub stops : BeginsTrivia r → ⊥

pub record StopsInOpenLine (t r : List ℕ) : Type 0 where
  pub front : List ℕ
  pub line : List ℕ
  pub is_trivia : IsTrivia front
  pub is_line : IsOpenLine line
  pub text : t ≡ front ++ line
  pub nothing : r ≡ []

abbrev pub Skipped : List ℕ → List ℕ → Type 0
Skipped t r = StopsAfterTrivia t r ⊎ StopsInOpenLine t r

-- For each text, the text after the leading white space and comments is unique.
abbrev pub OneRest : Type 0
OneRest = (t r s : List ℕ) → Skipped t r → Skipped t s → r ≡ s
