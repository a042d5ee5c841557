-- The tokens of a rewritten source, one by one.
use Rattle.std.specs.Prelude.{◌≡◌, ◌⊎◌, ℕ, List, [], ◌∷◌, IsFalse, ⊤}
use Rattle.rl_lexer.specs.Sources.{CutSource, IsCutUpTo, source_text}
use Rattle.rl_style.specs.declared.style.Style.{Style}
use Rattle.rl_style.specs.Rewriting.{SameLiteral}
use Rattle.rl_restyle.specs.declared.edit.Choice.{Choice}
use Rattle.rl_restyle.specs.Clean.{HasCleanTokens}
use Rattle.rl_restyle.specs.Edits.{Restyles}

-- The tokens are the same, one by one: equal, or literals with equal kinds, values and suffixes.
abbrev pub AreSameTokens : List CutSource → List CutSource → Type 0
AreSameTokens [] [] = ⊤
AreSameTokens (v ∷ vs) (w ∷ ws) =
    ((w.token ≡ v.token) ⊎ SameLiteral (source_text v.token) (source_text w.token)) × AreSameTokens vs ws
AreSameTokens _ _ = ⊥

-- Both sources are lexed to their ends, and their tokens are the same. A source is lexed in one way.
pub record HasSameTokens (old new : List ℕ) : Type 0 where
  pub tokens : List CutSource
  pub are : IsCutUpTo old tokens []
  pub others : List CutSource
  pub are_others : IsCutUpTo new others []
  pub same : AreSameTokens tokens others

-- A theorem: if the tokens of a source have no errors, each token of the rewritten source is the old one, or a literal with its
-- kind, value and suffix. The style must not have the rule `float_zero`, which writes `1.` as `1.0`.
abbrev pub KeepsEachLiteral : Type 0
KeepsEachLiteral =
    (style : Style) (choice : Choice) (t new : List ℕ) → IsFalse style.float_zero → Restyles style choice t new
    → HasCleanTokens t → HasSameTokens t new
