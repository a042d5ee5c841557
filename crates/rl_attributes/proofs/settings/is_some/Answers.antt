use Rattle.rl_syntax.proofs.Common.{Bool, IsUtf8, List, [], ap, arith, both_ways, chars, chars-nil, encodes-chars, eqb, eqb-true, false, length, not, sym, true, ℕ, ◌∙◌, ◌∷◌, ◌≡◌, ◌≢◌}
use Rattle.std.proofs.Common.{MatchBool}
use Rattle.std.specs.Prelude.{encode_utf8_all}
use Rattle.rl_attributes.proofs.settings.is_some.Goals as goal

-- A text has no characters exactly if it has no bytes.
some : (b : Bool) (s : List ℕ) → IsUtf8 s → eqb (length s) 0 ≡ b → MatchBool (not b) (chars s ≢ []) (chars s ≡ [])
some true [] u e = chars-nil
some true (c ∷ cs) u e = absurd (let z = eqb-true (length (c ∷ cs)) 0 e in omega arith)
some false s u e = λ n. both_ways (eqb (length s) 0) e (ap (λ z. eqb (length z) 0)
    (sym (encodes-chars s u) ∙ ap encode_utf8_all n))

pub returns : goal.returns
returns c = some c.is_empty.result c.args.text.now c.utf8.text (sym c.is_empty.ensures)
