-- Executable models of private code that skips white space and comments. The search for the end of a block comment
-- counts the nested block comments that are open. Only proofs use the models.
use Rattle.std.specs.Prelude.{ℕ, ◌&&◌, ◌==◌, List, [], ◌∷◌, cond}
use Rattle.std.proofs.Common.{suc, zero, Option, Some, None}
use Prim.Native.Char.{code}
use Rattle.rl_syntax.specs.Texts.{is_white}
use Rattle.rl_syntax.specs.Trivia.{is_comment_line, is_comment_block}

-- The text after the end of a block comment, or `None` if the comment isn't closed. The given text begins inside the
-- comment. `depth` counts the nested block comments that are open at the start of the given text.
abbrev pub after_block : ℕ → List ℕ → Option (List ℕ)
after_block depth [] = None
after_block depth (c ∷ []) = None
after_block zero (c ∷ e ∷ t) =
    cond (c == code "*" && e == code "/") (Some t)
    (cond (c == code "/" && e == code "*") (after_block 1 t) (after_block 0 (e ∷ t)))
after_block (suc d) (c ∷ e ∷ t) =
    cond (c == code "*" && e == code "/") (after_block d t)
    (cond (c == code "/" && e == code "*") (after_block (suc (suc d)) t)
    (after_block (suc d) (e ∷ t)))

-- The text after the first LF of a text, or an empty text if there is no LF.
abbrev pub after_line : List ℕ → List ℕ
after_line [] = []
after_line (c ∷ t) = cond (c == code "\n") t (after_line t)

-- The text after a plain comment, where the given text follows the first slash. The result is `None` if the slash
-- doesn't begin a plain comment, and if a block comment isn't closed.
abbrev pub after_comment : List ℕ → Option (List ℕ)
after_comment [] = None
after_comment (c ∷ t) =
    cond (c == code "/") (cond (is_comment_line t) (Some (after_line t)) None)
    (cond (c == code "*") (cond (is_comment_block t) (after_block 0 t) None) None)

abbrev pub after_piece : List ℕ → Option (List ℕ)
after_piece [] = None
after_piece (c ∷ t) = cond (c == code "/") (after_comment t) (cond (is_white c) (Some t) None)

-- The text after a comment, which may be a doc comment, where the given text follows the first slash. The result is
-- `None` if the slash doesn't begin a comment, and if a block comment isn't closed.
abbrev pub after_any_comment : List ℕ → Option (List ℕ)
after_any_comment [] = None
after_any_comment (c ∷ t) =
    cond (c == code "/") (Some (after_line t)) (cond (c == code "*") (after_block 0 t) None)
