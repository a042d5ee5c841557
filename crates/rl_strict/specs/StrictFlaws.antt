-- The flaw of a text that isn't a literal token of Rust's grammar.
use Rattle.std.specs.Prelude.{◌≡◌, ◌⊎◌, ℕ, List, ◌++◌, IsTrue}
use Rattle.std.specs.Char.{is_ascii_digit}
use Rattle.rl_syntax.specs.Texts.{byte_len, first_passes}
use Rattle.rl_strict.specs.declared.flaws.Flaw.{Flaw}
use Rattle.rl_strict.specs.declared.flaws.FlawKind.{FlawKind}
use Rattle.rl_strict.specs.Flaws.{HasKind, IsPlaced}
use Rattle.rl_strict.specs.StrictFlawKinds.{HasStrictQuotedFlaw}
use Rattle.rl_strict.specs.StrictNumberFlaws.{IsStrictNumberFlaw, IsStrictWordFlaw}
use Rattle.rl_strict.specs.StrictShapes.{IsToken}

-- The kind of flaw describes the error in `text`. The flaw is at `rest`, and the text to show for the flaw begins at
-- `piece`. If `text` has no opening delimiter, `piece` is all of `text`.
abbrev pub IsStrictFlawOf : FlawKind → List ℕ → List ℕ → List ℕ → Type 0
IsStrictFlawOf kind text piece rest =
    HasStrictQuotedFlaw kind text piece rest
    ⊎ (IsTrue (first_passes is_ascii_digit text) × HasKind (IsStrictNumberFlaw kind) text rest × (piece ≡ text))
    ⊎ (HasKind (IsStrictWordFlaw kind) text rest × (piece ≡ text))

-- The flaw explains why the text isn't a literal token. The flaw's range begins after the longest prefix that can be
-- completed to a literal token. The text to show for the flaw begins at `piece`.
pub record ExplainsStrictly (text : List ℕ) (flaw : Flaw) : Type 0 where
  pub no_token : IsToken text → ⊥
  pub place : IsPlaced IsToken text flaw.lo flaw.hi
  pub before : List ℕ
  pub piece : List ℕ
  pub text_is : text ≡ before ++ piece
  pub from_is : flaw.from ≡ byte_len before
  pub kind : IsStrictFlawOf flaw.kind text piece place.rest
