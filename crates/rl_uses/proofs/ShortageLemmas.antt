-- Lemmas about an allocation failure at a literal of a list.
use Rattle.std.proofs.Common.{◌≡◌, ℕ, ◌<◌, List, length, get_or, sym, ◌∙◌}
use Rattle.std.specs.Prelude.{Result, IfErr}
use Rattle.std.specs.Result.{IsErrAnd}
use Rattle.std.proofs.lemmas.Result.{err_from_is_err_and}
use Rattle.rl_tokens.specs.declared.error.Error.{Error}
use Rattle.rl_tokens.specs.Errors.{memory_at}
use Rattle.rust_literals.specs.declared.lit.Lit.{Lit}
use Rattle.rust_literals.specs.LitParts.{lit_span}
use Rattle.rl_uses.specs.Shortage.{IsShortOf}

-- If a call for one literal of a list fails with `Memory` at that literal, the returned error is an allocation failure
-- at a literal of the list.
pub short_at : {A B T : Type 0} (list : List (Lit A)) (i : ℕ) (literal : Lit A) (r : Result T (Error B)) (e : Error B)
    → i < length list → literal ≡ get_or list i literal → e ≡ memory_at (lit_span literal) → IsErrAnd r (λ y. y ≡ e)
    → IfErr r (IsShortOf list)
short_at list i literal r e below is m passed =
    let p = err_from_is_err_and r passed in
    rw p.1 (i, literal, below, sym is, p.2 ∙ m)
