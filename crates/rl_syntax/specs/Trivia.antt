-- White space and plain comments, which are dropped between tokens: those of `skip` of `syn` 3.0.9, src/whitespace.rs,
-- and of the chapters Comments and Whitespace of the Rust Reference. A text is a list of character codes.
use Rattle.std.specs.Prelude.{◌≡◌, ℕ, Bool, not, ◌&&◌, ◌||◌, ◌==◌, List, [], ◌∷◌, ◌++◌, IsTrue, ⊤, drop}
use Rattle.std.specs.List.{AllByRecursion, list_all}
use Prim.Native.Char.{code}
use Rattle.rl_syntax.specs.Texts.{is_white, begins_char}

-- The text of a block comment after its `/*`, in parts: single characters (`Other`), block comments inside it (`Nested`, without
-- their `/*`), and the closing `*/` (`End`).
pub data Inside : Type 0 where
  End : Inside
  Other : (c : ℕ) (rest : Inside) → Inside
  Nested : (inner rest : Inside) → Inside

-- The text of a block comment after its `/*`.
abbrev pub inside_text : Inside → List ℕ
inside_text End = code "*" ∷ code "/" ∷ []
inside_text (Other c rest) = c ∷ inside_text rest
inside_text (Nested inner rest) = code "/" ∷ code "*" ∷ inside_text inner ++ inside_text rest

-- The text begins with neither `/*` nor `*/`.
pub record BeginsNoMark (t : List ℕ) : Type 0 where
  pub no_opener : (rest : List ℕ) → t ≡ code "/" ∷ code "*" ∷ rest → ⊥
  pub no_closer : (rest : List ℕ) → t ≡ code "*" ∷ code "/" ∷ rest → ⊥

-- The text of a block comment is well formed: neither `/*` nor `*/` begins at one of its single characters (`Other`). Each block
-- comment inside it is well formed too.
abbrev pub IsInside : Inside → Type 0
IsInside End = ⊤
IsInside (Other c rest) = BeginsNoMark (c ∷ inside_text rest) × IsInside rest
IsInside (Nested inner rest) = IsInside inner × IsInside rest

-- Whether a line comment is plain, and not a doc comment. `body` is the text after its `//`. Doc comments begin with `//!`, or
-- with `///` but not with `////`.
abbrev pub is_comment_line : List ℕ → Bool
is_comment_line body =
    not (begins_char (code "!") body
    || (begins_char (code "/") body && not (begins_char (code "/") (drop 1 body))))

-- Whether a block comment is plain, and not a doc comment. `inside` is the text after its `/*`. Doc comments begin with `/*!`, or
-- with `/**`, but with neither `/**/` nor `/***`.
abbrev pub is_comment_block : List ℕ → Bool
is_comment_block inside =
    not (begins_char (code "!") inside
    || (begins_char (code "*") inside
    && not (begins_char (code "/") (drop 1 inside) || begins_char (code "*") (drop 1 inside))))

-- A part of the text that is dropped between tokens: a white space character, a plain line comment with its LF, or a plain
-- block comment.
pub data TriviaPiece : Type 0 where
  White : (c : ℕ) → TriviaPiece
  Line : (body : List ℕ) → TriviaPiece
  Block : (inside : Inside) → TriviaPiece

-- The text of a piece.
abbrev pub trivia_piece_text : TriviaPiece → List ℕ
trivia_piece_text (White c) = c ∷ []
trivia_piece_text (Line body) = code "/" ∷ code "/" ∷ body ++ code "\n" ∷ []
trivia_piece_text (Block inside) = code "/" ∷ code "*" ∷ inside_text inside

-- The text can be the part of a plain line comment between its `//` and its LF.
pub record IsLineBody (body : List ℕ) : Type 0 where
  pub plain : IsTrue (is_comment_line body)
  pub one_line : IsTrue (list_all (λ c. not (c == code "\n")) body)

-- The piece is white space or a well-formed plain comment.
abbrev pub IsTriviaPiece : TriviaPiece → Type 0
IsTriviaPiece (White c) = IsTrue (is_white c)
IsTriviaPiece (Line body) = IsLineBody body
IsTriviaPiece (Block inside) = IsInside inside × IsTrue (is_comment_block (inside_text inside))

-- The text of the pieces, one after another.
abbrev pub trivia_text : List TriviaPiece → List ℕ
trivia_text [] = []
trivia_text (p ∷ ps) = trivia_piece_text p ++ trivia_text ps

-- The text consists of white space and plain comments, one after another.
pub record IsTrivia (s : List ℕ) : Type 0 where
  pub pieces : List TriviaPiece
  pub each : AllByRecursion IsTriviaPiece pieces
  pub text : s ≡ trivia_text pieces
