-- Allocation failures that are reported at a literal of a text. A text is its bytes here.
use Rattle.std.specs.Prelude.{◌≡◌, ◌⊎◌, ℕ, List, Any, length}
use Rattle.std.specs.Str.{chars}
use Rattle.rl_tokens.specs.declared.error.Error.{Error}
use Rattle.rl_tokens.specs.Errors.{memory_at}
use Rattle.rust_literals.specs.declared.lit.Lit.{Lit}
use Rattle.rust_literals.specs.LitParts.{lit_span}
use Rattle.rust_literals.specs.Parsing.{AreRead, RejectsText}

-- The error `e` is an allocation failure, and its span is the span of one of the literals of `list`.
abbrev pub IsShortOf : {A B : Type 0} → List (Lit A) → Error B → Type 0
IsShortOf list e = Any (λ literal. e ≡ memory_at (lit_span literal)) list

-- The text consists of literals, and the error `e` is an allocation failure at one of them.
pub record LacksMemoryForLiteral {A : Type 0} (text : List ℕ) (file : ℕ) (e : Error A)
    : Type 0 where
  pub list : List (Lit A)
  pub read : AreRead (chars text) file list
  pub short : IsShortOf list e

-- The error `e` is the error of `read_all` for the text, or an allocation failure at one of the text's literals.
abbrev pub RejectsTextOrMemory : {A : Type 0} → List ℕ → ℕ → Error A → Type 0
RejectsTextOrMemory text file e =
    RejectsText (chars text) file (length text) e ⊎ LacksMemoryForLiteral text file e
