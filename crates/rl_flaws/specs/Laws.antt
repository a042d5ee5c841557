-- The statements of the theorems in src/laws.rt, by name.
use Rattle.std.specs.Prelude.{Bool, List, ℕ}
use Rattle.rl_syntax.specs.declared.kind.Kind.{Kind}
use Rattle.rl_strict.specs.declared.line_ends.LineEnds.{LineEnds}
use Rattle.rl_flaws.specs.Flawed.{FirstFlawExplains, FlawsState, HasOneNextFlaw, TokensHaveNone}
use Rattle.rl_flaws.specs.Looks.{LooksLikeOne, TokenLooks}
use Rattle.rl_flaws.specs.TypeErrors.{ExcludesType, HasOneError}
use Rattle.rl_flaws.specs.declared.type_errors.TypeError.{TypeError as AnyError}

-- A text begins as at most one kind of literal. So `guess_kind` returns the only possible kind.
abbrev pub ATextBeginsAsOneKind : Type 0
ATextBeginsAsOneKind = (text : List ℕ) → LooksLikeOne text

-- A valid literal token begins as a literal of its own kind, and `guess_kind` returns this kind for its text.
abbrev pub ATokenBeginsAsItsKind : Type 0
ATokenBeginsAsItsKind = (text : List ℕ) → TokenLooks text

-- The first flaw that a `Flaws` cursor returns explains why the text isn't a literal token. `read` returns this flaw as its
-- error, since only one flaw explains a text.
abbrev pub TheFirstFlawExplainsTheText : Type 0
TheFirstFlawExplainsTheText = (ends : LineEnds) (text : List ℕ) → FirstFlawExplains ends text

-- A valid literal token has no flaw.
abbrev pub ATokenHasNoFlaw : Type 0
ATokenHasNoFlaw = (ends : LineEnds) (text : List ℕ) → TokensHaveNone ends text

-- The unchecked part of a text has at most one next flaw, with one kind, one range and one piece of text to show.
-- `Flaws::next` returns this flaw.
abbrev pub TheRestHasOneNextFlaw : Type 0
TheRestHasOneNextFlaw = (left : FlawsState) → HasOneNextFlaw left

-- Rust has no type for a literal for which `type_error` returns an error.
abbrev pub AnErrorExcludesAType : Type 0
AnErrorExcludesAType =
    (error : AnyError) (kind : Kind) (text : List ℕ) (magnitude : ℕ) (negated : Bool) (suffix : List ℕ)
    → ExcludesType error kind text magnitude negated suffix

-- At most one reason explains why Rust has no type for a literal: the one that `type_error` returns.
abbrev pub ALiteralHasOneTypeError : Type 0
ALiteralHasOneTypeError =
    (kind : Kind) (text : List ℕ) (magnitude : ℕ) (negated : Bool) (suffix : List ℕ)
    → HasOneError kind text magnitude negated suffix
