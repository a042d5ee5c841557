-- Lemmas about the linter that explains why literals have no value, which checks one literal after another.
use Rattle.rl_syntax.proofs.Common.{List, [], ap, inl, inr, refl, ◌++◌, ◌∷◌}
use Rattle.rust_literals.specs.declared.lit.Lit.{Lit}
use Rattle.rl_uses.specs.declared.reasons.Reason.{Reason}
use Rattle.rl_uses.specs.Reasons.{HasValue, IsReasonOf, AreReasons}

-- If one more literal has a value in Rust, the list of reasons is unchanged.
pub reasons_same : {A : Type 0} (ls : List (Lit A)) (l : Lit A) (reasons : List Reason) → AreReasons ls reasons
    → HasValue l → AreReasons (ls ++ (l ∷ [])) reasons
reasons_same [] l reasons e t = inl (t, e)
reasons_same (x ∷ xs) l reasons (inl (u, h)) t = inl (u, reasons_same xs l reasons h t)
reasons_same (x ∷ xs) l reasons (inr (first, rest, u, e, h)) t = inr (first, rest, u, e, reasons_same xs l rest h t)

-- If one more literal has no value in Rust, the reason for it is appended to the list of reasons.
pub reasons_more : {A : Type 0} (ls : List (Lit A)) (l : Lit A) (reasons : List Reason) (reason : Reason)
    → AreReasons ls reasons → IsReasonOf l reason → AreReasons (ls ++ (l ∷ [])) (reasons ++ (reason ∷ []))
reasons_more [] l reasons reason e t = inr (reason, [], t, ap (λ z. z ++ (reason ∷ [])) e, refl)
reasons_more (x ∷ xs) l reasons reason (inl (u, h)) t = inl (u, reasons_more xs l reasons reason h t)
reasons_more (x ∷ xs) l reasons reason (inr (first, rest, u, e, h)) t = inr
    (first, rest ++ (reason ∷ []), u, ap (λ z. z ++ (reason ∷ [])) e, reasons_more xs l rest reason h t)
