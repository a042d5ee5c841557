-- Texts that the lexer reads without an error, and in which each group is closed.
use Rattle.std.specs.Prelude.{◌≡◌, ℕ, List, [], Some}
use Rattle.rl_lexer.specs.Cuts.{LexedToken, LexesUpTo, open_groups}

-- The text is lexed to its end, and each group is closed.
pub record IsCutWhole (t : List ℕ) : Type 0 where
  pub cuts : List LexedToken
  pub are_cuts : LexesUpTo 0 t cuts []
  pub none_open : open_groups [] cuts ≡ Some []
