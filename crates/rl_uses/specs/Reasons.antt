-- The results of the linter that explains why literals have no value in Rust.
use Rattle.std.specs.Prelude.{◌≡◌, ◌⊎◌, List, [], ◌∷◌}
use Rattle.std.specs.Str.{chars}
use Rattle.rl_syntax.specs.Reading.{HasReading}
use Rattle.rl_strict.specs.declared.flaws.Flaw.{Flaw}
use Rattle.rl_strict.specs.Flaws.{place_in}
use Rattle.rl_strict.specs.Limits.{ExplainsValue, IsFloatBySuffix}
use Rattle.rl_strict.specs.SignedFlaws.{IsSignedToken}
use Rattle.rust_literals.specs.declared.lit.Lit.{Lit}
use Rattle.rust_literals.specs.Literals.{token_of}
use Rattle.rust_literals.specs.LitParts.{lit_span}
use Rattle.rl_uses.specs.declared.reasons.Reason.{Reason}

-- `reason` is the reason why the literal has no value in Rust: the kind of a flaw in the literal's text, and the flaw's
-- span in the file.
abbrev pub IsReasonOf : {A : Type 0} → Lit A → Reason → Type 0
IsReasonOf literal reason =
    (flaw : Flaw) × ExplainsValue (chars (token_of literal).text) flaw
    × (reason.kind ≡ flaw.kind)
    × (reason.span ≡ record {
      file = (lit_span literal).file;
      lo = place_in (lit_span literal) flaw.lo;
      hi = place_in (lit_span literal) flaw.hi;
    })

-- The literal has a value in Rust. Its text is a literal of Rust, perhaps after a minus. The text also has a parse
-- result, or is a float by its suffix.
abbrev pub HasValue : {A : Type 0} → Lit A → Type 0
HasValue literal =
    IsSignedToken (chars (token_of literal).text)
    × (HasReading (chars (token_of literal).text) ⊎ IsFloatBySuffix (chars (token_of literal).text))

-- The list `reasons` has a reason for each literal of the list that has no value in Rust, in order.
abbrev pub AreReasons : {A : Type 0} → List (Lit A) → List Reason → Type 0
AreReasons [] reasons = reasons ≡ []
AreReasons (l ∷ ls) reasons =
    (HasValue l × AreReasons ls reasons)
    ⊎ ((first : Reason) × (rest : List Reason) × IsReasonOf l first × (reasons ≡ first ∷ rest)
    × AreReasons ls rest)
