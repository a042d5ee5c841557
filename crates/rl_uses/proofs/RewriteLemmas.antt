-- A lemma about the formatter, which writes the lines of literals one after another.
use Rattle.std.proofs.Common.{ℕ, List, [], ◌∷◌, ◌++◌, refl, ap, ◌∙◌, append_assoc}
use Rattle.rust_literals.specs.declared.lit.Lit.{Lit}
use Rattle.rust_literals.specs.Copies.{text_of}
use Rattle.rl_uses.specs.Rewrites.{PrintsLine, AreLines}

-- If the line of one more literal is appended to the lines of the literals before it, the result is the lines of all
-- literals.
pub lines_more : {A : Type 0} (ls : List (Lit A)) (l : Lit A) (old new : List ℕ) → AreLines ls old
    → PrintsLine l old new → AreLines (ls ++ (l ∷ [])) new
lines_more [] l old new e (anew, is, p) = (anew, [], is, p ∙ ap (λ z. z ++ (text_of anew ++ (10 ∷ []))) e, refl)
lines_more (x ∷ xs) l old new (first, rest, is, e, h) (anew, as_well, p) =
    let line = text_of anew ++ (10 ∷ []) in (
      first,
      rest ++ line,
      is,
      p ∙ (ap (λ z. z ++ line) e ∙ append_assoc (text_of first) (10 ∷ rest) line),
      lines_more xs
          l rest (rest ++ line) h (anew, as_well, refl),
    )
