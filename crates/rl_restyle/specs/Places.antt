-- Byte offsets in a text, which is a list of characters.
use Rattle.std.specs.Prelude.{◌≡◌, ℕ, List, ◌++◌}
use Rattle.rl_syntax.specs.Texts.{byte_len}

-- `middle` is the text between the byte offsets `lo` and `hi`.
pub record IsTextBetween (text : List ℕ) (lo hi : ℕ) (middle : List ℕ) : Type 0 where
  pub front : List ℕ
  pub rest : List ℕ
  pub text_is : text ≡ front ++ (middle ++ rest)
  pub lo_is : lo ≡ byte_len front
  pub hi_is : hi ≡ byte_len (front ++ middle)
