-- The characters and escapes of Rust's grammar at the start of a text, and the text after them.
use Rattle.std.specs.Prelude.{◌≡◌, ℕ, List, [], ◌∷◌, ◌++◌, IsTrue, IsFalse, ⊤}
use Rattle.std.specs.List.{list_all, flat_map}
use Rattle.rl_syntax.specs.declared.kind.Kind.{Kind}
use Rattle.rl_syntax.specs.Texts.{first_passes, is_dropped_blank}
use Rattle.rl_syntax.specs.Strict.{LineBreak, StrictUnit, is_strict_unit, strict_text}

-- ---- units

-- The text `after` may follow the character or escape. An escaped line end includes all white space after it, so white space
-- can't follow an escaped line end.
abbrev pub BreakEnds : StrictUnit → List ℕ → Type 0
BreakEnds (LineBreak blanks) after = IsFalse (first_passes is_dropped_blank after)
BreakEnds _ after = ⊤

-- Each escaped line end in a sequence of characters and escapes includes all white space after it. The text `rest` follows
-- the sequence.
abbrev pub BreaksEnd : List StrictUnit → List ℕ → Type 0
BreaksEnd [] rest = ⊤
BreaksEnd (u ∷ us) rest = BreakEnds u (flat_map strict_text us ++ rest) × BreaksEnd us rest

-- By Rust's grammar, the text begins with one character or escape of a literal of the kind, and `rest` is the text
-- after it.
pub record BeginsStrictUnit (kind : Kind) (text rest : List ℕ) : Type 0 where
  pub unit : StrictUnit
  pub is_unit : IsTrue (is_strict_unit kind unit)
  pub ends : BreakEnds unit rest
  pub text_is : text ≡ strict_text unit ++ rest

-- By Rust's grammar, the text begins with characters and escapes of a literal of the kind, and `rest` is the text after
-- them.
pub record BeginsStrictUnits (kind : Kind) (text rest : List ℕ) : Type 0 where
  pub units : List StrictUnit
  pub each : IsTrue (list_all (is_strict_unit kind) units)
  pub ends : BreaksEnd units rest
  pub text_is : text ≡ flat_map strict_text units ++ rest

-- By Rust's grammar, the text doesn't begin with a character or escape of a literal of the kind.
abbrev pub HasNoStrictUnit : Kind → List ℕ → Type 0
HasNoStrictUnit kind text = (rest : List ℕ) → BeginsStrictUnit kind text rest → ⊥
