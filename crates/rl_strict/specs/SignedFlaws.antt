-- The flaws of a text that may be a literal token, or a minus and a number.
use Rattle.std.specs.Prelude.{◌≡◌, ◌≢◌, ◌⊎◌, ℕ, ◌==◌, List, [], codes, ◌++◌, IsTrue, IsFalse}
use Rattle.std.specs.Char.{is_ascii_digit}
use Prim.Native.Char.{code}
use Rattle.rl_syntax.specs.Texts.{byte_len, first_passes}
use Rattle.rl_strict.specs.declared.flaws.Flaw.{Flaw}
use Rattle.rl_strict.specs.declared.flaws.FlawKind.{FlawKind}
use Rattle.rl_strict.specs.declared.flaws.FlawKind.TheVariants.{NoNumber, UnexpectedEnd}
use Rattle.rl_strict.specs.Flaws.{HasKind, IsPlaced}
use Rattle.rl_strict.specs.StrictFlaws.{IsStrictFlawOf}
use Rattle.rl_strict.specs.StrictNumberFlaws.{IsStrictNumberFlaw}
use Rattle.rl_strict.specs.StrictShapes.{IsToken}

-- The text is a literal token, or a minus and a number.
abbrev pub IsSignedToken : List ℕ → Type 0
IsSignedToken text =
    IsToken text
    ⊎ ((number : List ℕ) × (text ≡ codes "-" ++ number) × IsTrue (first_passes is_ascii_digit number) × IsToken number)

-- No digit follows a minus. If the text ends after the minus, the kind of flaw is `UnexpectedEnd`. Otherwise the kind of
-- flaw is `NoNumber`.
abbrev pub LacksNumber : FlawKind → List ℕ → Type 0
LacksNumber NoNumber rest = rest ≢ []
LacksNumber UnexpectedEnd rest = rest ≡ []
LacksNumber kind rest = ⊥

abbrev pub IsMinusFlawOf : FlawKind → List ℕ → List ℕ → Type 0
IsMinusFlawOf kind number rest =
    (IsTrue (first_passes is_ascii_digit number) × HasKind (IsStrictNumberFlaw kind) number rest)
    ⊎ (IsFalse (first_passes is_ascii_digit number) × (number ≡ rest) × LacksNumber kind rest)

-- The kind of flaw describes the error in a text where a minus before a number is allowed. The last two arguments are ends
-- of the text: the text to show for the flaw begins at the first one, and the flaw at the second one.
abbrev pub IsSignedFlawOf : FlawKind → List ℕ → List ℕ → List ℕ → Type 0
IsSignedFlawOf kind text piece rest =
    (IsFalse (first_passes (λ c. c == code "-") text) × IsStrictFlawOf kind text piece rest)
    ⊎ ((number : List ℕ) × (text ≡ codes "-" ++ number) × IsMinusFlawOf kind number rest × (piece ≡ text))

-- The flaw explains why the text is neither a literal token nor a minus and a number. The flaw's range begins after the
-- longest prefix that can be completed to a literal token or to a minus and a number. The text to show for the flaw begins
-- at `piece`.
pub record ExplainsSigned (text : List ℕ) (flaw : Flaw) : Type 0 where
  pub no_token : IsSignedToken text → ⊥
  pub place : IsPlaced IsSignedToken text flaw.lo flaw.hi
  pub before : List ℕ
  pub piece : List ℕ
  pub text_is : text ≡ before ++ piece
  pub from_is : flaw.from ≡ byte_len before
  pub kind : IsSignedFlawOf flaw.kind text piece place.rest
