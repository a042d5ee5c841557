use Rattle.std.proofs.Common.{◌≡◌, ◌≢◌, [], ℕ, List, MatchBool, not, subst, sym}
use Rattle.std.specs.Str.{chars}
use Rattle.rl_lenient.proofs.ValueLemmas.{some_suffix}
use Rattle.rl_lenient.proofs.found.Found.has_suffix.Goals as goal

pub returns : goal.returns
returns c =
    subst (λ (y : List ℕ). MatchBool (not c.is_empty.result) (chars y ≢ []) (chars y ≡ [])) c.suffix_in.ensures.suffix
    (some_suffix c.is_empty.result c.suffix_in.result.now c.suffix_in.utf8 (sym c.is_empty.ensures))
