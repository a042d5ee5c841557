-- The statements of the theorems in src/laws.rt, by name.
use Rattle.std.specs.Prelude.{List, ℕ, ◌≡◌, IsFalse}
use Rattle.rl_syntax.specs.declared.kind.Kind.{Kind}
use Rattle.rl_syntax.specs.Reading.{Contents, Reads}
use Rattle.rl_syntax.specs.Strict.{Strict}
use Rattle.rl_style.specs.declared.style.Style.{Style}
use Rattle.rl_style.specs.Rewriting.{HasNoRule, SameLiteral, SameNumber, Rewrites}

-- If the style doesn't add a zero after a float's dot, a rewritten literal has the kind, the value and the suffix of the old
-- literal.
abbrev pub ARewrittenLiteralIsTheSame : Type 0
ARewrittenLiteralIsTheSame =
    (style : Style) (front t u : List ℕ) → IsFalse style.float_zero → Rewrites style front t u → SameLiteral t u

-- In any style, a rewritten literal has the kind, the value and the suffix of the old one, except that a float which ends with
-- its dot may get a zero: `1.0` for `1.`.
abbrev pub ARewrittenLiteralIsTheSameExceptFloatZero : Type 0
ARewrittenLiteralIsTheSameExceptFloatZero =
    (style : Style) (front t u : List ℕ) → Rewrites style front t u → SameNumber style t u

-- Rewriting a literal twice in one style changes nothing the second time.
abbrev pub ARewrittenTextStays : Type 0
ARewrittenTextStays =
    (style : Style) (front t u : List ℕ) → Rewrites style front t u → Rewrites style front u u

-- A literal has exactly one new text in a style: the one that `rewrite_into` writes.
abbrev pub ALiteralHasOneTextInAStyle : Type 0
ALiteralHasOneTextInAStyle =
    (style : Style) (front t u w : List ℕ) → Rewrites style front t u → Rewrites style front t w → u ≡ w

-- A style in which no rule is set changes nothing.
abbrev pub NoRuleChangesNothing : Type 0
NoRuleChangesNothing =
    (style : Style) (front t u : List ℕ) → HasNoRule style → Rewrites style front t u → u ≡ t

-- If the old text has a parse result, the new text has the kind, the value and the suffix of this result.
abbrev pub ReadsAlike : List ℕ → List ℕ → Type 0
ReadsAlike t u =
    (kind : Kind) (contents : Contents) (suffix : List ℕ)
    → Reads t kind contents suffix → Reads u kind contents suffix

-- If the old text is a literal token of Rust's grammar, the new text is a literal token too. The new token has the kind, the
-- value and the suffix of the old one.
abbrev pub StrictAlike : List ℕ → List ℕ → Type 0
StrictAlike t u =
    (kind : Kind) (contents : Contents) (suffix : List ℕ)
    → Strict t kind contents suffix → Strict u kind contents suffix

-- If two literal tokens have equal kinds, values and suffixes (`SameLiteral`), their parse results by `syn`'s grammar are
-- equal. For an integer above 128 bits, neither token has a parse result.
abbrev pub TheSameLiteralReadsAlike : Type 0
TheSameLiteralReadsAlike = (t u : List ℕ) → SameLiteral t u → ReadsAlike t u

-- If two literal tokens have equal kinds, values and suffixes (`SameLiteral`), each parse result of the old token by Rust's
-- grammar is also a parse result of the new token.
abbrev pub TheSameLiteralIsStrictAlike : Type 0
TheSameLiteralIsStrictAlike = (t u : List ℕ) → SameLiteral t u → StrictAlike t u
