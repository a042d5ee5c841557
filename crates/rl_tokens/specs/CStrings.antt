-- The contents of the error `NulError`, which `CString::new` returns for bytes that contain a zero.
pub use Rattle.rl_syntax.specs.Agreeing.{is_zero, has_no_zero}
use Rattle.std.specs.Prelude.{ℕ, List}

-- Bytes that contain a zero, and the offset of the first zero.
pub record ZeroInside : Type 0 where
  pub bytes : List ℕ
  pub place : ℕ
