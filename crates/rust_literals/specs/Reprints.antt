-- The literals that are parsed from the texts of literals that were parsed before.
use Rattle.std.specs.Prelude.{◌≡◌, ◌≢◌, ℕ, List, [], ◌∷◌, ◌++◌, map, drop}
use Rattle.std.specs.Str.{chars}
use Rattle.std.specs.List.{AllByRecursion}
use Rattle.rl_syntax.specs.declared.span.Span.{Span}
use Rattle.rl_syntax.specs.Trivia.{IsTrivia}
use Rattle.rust_literals.specs.declared.lit.Lit.{Lit}
use Rattle.rust_literals.specs.Literals.{token_of}
use Rattle.rust_literals.specs.LitParts.{IsSameAt}

-- A literal's text as written, as a list of characters.
abbrev pub lit_text : {A : Type 0} → Lit A → List ℕ
lit_text lit = chars (token_of lit).text

-- A literal, and the separator before its text.
pub record Spaced (A : Type 0) : Type 0 where
  pub gap : List ℕ
  pub lit : Lit A

-- The texts of the literals in order, each after its separator, followed by the separator `last`.
abbrev pub spaced_text : {A : Type 0} → List (Spaced A) → List ℕ → List ℕ
spaced_text [] last = last
spaced_text (s ∷ ss) last = s.gap ++ (lit_text s.lit ++ spaced_text ss last)

-- The literals, without the separators.
abbrev pub lits_of : {A : Type 0} → List (Spaced A) → List (Lit A)
lits_of spaced = map (λ s. s.lit) spaced

-- The text `t` is a separator, a literal, a separator, and so on, up to the separator `last`. Each separator is trivia
-- (white space and plain comments). The first and the last separator may be empty. A separator between two literals
-- isn't empty.
pub record IsReprint {A : Type 0} (t : List ℕ) (spaced : List (Spaced A)) (last : List ℕ)
    : Type 0 where
  pub gaps : AllByRecursion (λ s. IsTrivia s.gap) spaced
  pub apart : AllByRecursion (λ s. s.gap ≢ []) (drop 1 spaced)
  pub last_gap : IsTrivia last
  pub text : t ≡ spaced_text spaced last

-- The literals of the second list equal the literals of the first list one by one, except for their spans.
abbrev pub SameButSpans : {A : Type 0} → List (Lit A) → List (Lit A) → Type 0
SameButSpans [] found = found ≡ []
SameButSpans (l ∷ ls) [] = ⊥
SameButSpans (l ∷ ls) (m ∷ ms) = ((span : Span) × IsSameAt l span m) × SameButSpans ls ms
