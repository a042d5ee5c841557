-- Lemmas about the linter for control characters, which checks one literal after another.
use Rattle.std.proofs.Common.{inl, inr, true, false, List, [], ◌∷◌, ◌++◌, refl, ap}
use Rattle.rl_syntax.specs.declared.span.Span.{Span}
use Rattle.rust_literals.specs.declared.lit.Lit.{Lit}
use Rattle.rust_literals.specs.LitParts.{lit_span}
use Rattle.rl_uses.specs.Lints.{ReportsLintError, AreErrors}

-- If the value of one more literal has no control character, the list of reported spans is unchanged.
pub bad_spans_same : {A : Type 0} (ls : List (Lit A)) (l : Lit A) (spans : List Span) → AreErrors ls spans
    → ReportsLintError l false → AreErrors (ls ++ (l ∷ [])) spans
bad_spans_same [] l spans e t = inl (t, e)
bad_spans_same (x ∷ xs) l spans (inl (u, h)) t = inl (u, bad_spans_same xs l spans h t)
bad_spans_same (x ∷ xs) l spans (inr (rest, u, e, h)) t = inr (rest, u, e, bad_spans_same xs l rest h t)

-- If one more literal is a string with a control character in its value, the literal's span is appended to the reported
-- spans.
pub bad_spans_more : {A : Type 0} (ls : List (Lit A)) (l : Lit A) (spans : List Span) → AreErrors ls spans
    → ReportsLintError l true → AreErrors (ls ++ (l ∷ [])) (spans ++ (lit_span l ∷ []))
bad_spans_more [] l spans e t = inr ([], t, ap (λ z. z ++ (lit_span l ∷ [])) e, refl)
bad_spans_more (x ∷ xs) l spans (inl (u, h)) t = inl (u, bad_spans_more xs l spans h t)
bad_spans_more (x ∷ xs) l spans (inr (rest, u, e, h)) t = inr (
  rest
      ++ (lit_span l ∷ []),
  u,
  ap (λ z. z ++ (lit_span l ∷ [])) e,
  bad_spans_more xs l rest h t,
)
