-- A text that was found as another kind, or that isn't a literal, isn't an integer.
use Rattle.std.proofs.Common.{◌≡◌, ℕ, List}
use Rattle.std.specs.Str.{chars}
use Rattle.rl_syntax.specs.declared.kind.Kind.TheVariants.{Int}
use Rattle.rl_syntax.specs.Reading.{HasNoReading}
use Rattle.rl_syntax.proofs.Theorems.{a_text_has_one_reading}
use Rattle.rl_lenient.specs.declared.found.Found.{Found}
use Rattle.rl_lenient.specs.Founds.{IsFound}
use Rattle.rl_uses.specs.Capitals.{IsCapital}

pub no_integer : (text : List ℕ) (f : Found) → IsFound text f → (f.kind ≡ Int → ⊥) → IsCapital (chars text) → ⊥
no_integer text f is other ((v, x, r), capital) =
    other ((a_text_has_one_reading (chars text) f.kind Int is.reads.0 v _ x is.reads.1 r).0)

pub no_reading : (text : List ℕ) → HasNoReading text → IsCapital text → ⊥
no_reading text none ((v, x, r), capital) = none Int v x r
