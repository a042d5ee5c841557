-- The meaning of a text that consists of one number. A text is its bytes here.
use Rattle.std.specs.Prelude.{◌⊎◌, ℕ, List, [], Option, Result, codes}
use Rattle.std.specs.Str.{chars}
use Rattle.rl_syntax.specs.declared.kind.Kind.TheVariants.{Int}
use Rattle.rl_tokens.specs.declared.error.Error.{Error}
use Rattle.rl_syntax.specs.Texts.{SpannedText}
use Rattle.rl_tokens.specs.Trees.{Tree}
use Rattle.rl_tokens.specs.Lexing.{Lexes}
use Rattle.rl_grammar.specs.Fronts.{IsFrontOf, RunsAs}
use Rattle.rl_tokens.specs.Whole.{RejectsAll}
use Rattle.rust_literals.specs.Base10.{AreBase10Digits, IsMadeOf, IsRejectedBy}

-- The text is lexed into the token trees of the integer literal `literal`, and of nothing else.
pub record IsOneInt (text : List ℕ) (file : ℕ) (literal : SpannedText) : Type 0 where
  pub trees : List Tree
  pub lexes : Lexes (chars text) file trees
  pub front : IsFrontOf Int trees literal []

-- The text is one integer literal, and the number type parses the number `number` from its digits in base ten.
pub record IsSetTo {N E : Type 0} (gives : List ℕ → Result N E → Type 0) (text : List ℕ) (file : ℕ)
    (number : N) : Type 0 where
  pub literal : SpannedText
  pub one : IsOneInt text file literal
  pub made : IsMadeOf gives (AreBase10Digits Int literal.text) number

-- The text is one integer literal, and the number type rejects its digits. The error `e` is at the literal.
pub record RejectsDigits {N E A : Type 0} (gives : List ℕ → Result N E → Type 0)
    (output : E → Option (List ℕ)) (text : List ℕ) (file : ℕ) (e : Error A) : Type 0 where
  pub literal : SpannedText
  pub one : IsOneInt text file literal
  pub rejected : IsRejectedBy gives output (AreBase10Digits Int literal.text) literal.span e

-- The error `e` is the error for a text that isn't one integer literal, or the error of a number type that rejects the
-- literal's digits.
abbrev pub RejectsSetting : {N E A : Type 0} → (List ℕ → Result N E → Type 0)
    → (E → Option (List ℕ)) → List ℕ → ℕ → Error A → Type 0
RejectsSetting gives output text file e =
    RejectsAll (RunsAs Int (codes "integer literal")) text file e
    ⊎ RejectsDigits gives output text file e
