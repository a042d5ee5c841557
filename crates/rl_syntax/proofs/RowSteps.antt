-- If a text begins with a character that passes a test, `after_run` returns an equal result for the text without this
-- character. Proofs about loops use this for one iteration.
use Rattle.rl_syntax.proofs.Common.{◌≡◌, ℕ, Bool, true, cond, List, ◌∷◌, sym, ◌∙◌, ap}
use Rattle.rl_syntax.specs.Classes.{after_run}

pub row_step : (test : ℕ → Bool) (s t : List ℕ) (c : ℕ) → s ≡ c ∷ t → test c ≡ true → after_run test t
    ≡ after_run test s
row_step test s t c e is = sym (ap (after_run test) e ∙ ap (λ b. cond b (after_run test t) (c ∷ t)) is)
