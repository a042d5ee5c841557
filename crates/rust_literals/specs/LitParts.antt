-- The parts of a literal, and the agreement of parsed literals with Rust's grammar.
use Rattle.std.specs.Prelude.{◌≡◌, ◌⊎◌, ℕ, List, [], ◌∷◌, Option, Some, None, IsTrue}
use Prim.Native.Char.{code}
use Rattle.std.specs.Str.{chars}
use Rattle.rl_syntax.specs.declared.kind.Kind.TheVariants.{Int as IntKind, Float as FloatKind, Bool as BoolKind}
use Rattle.rl_syntax.specs.declared.kind.Kind.{Kind}
use Rattle.rl_syntax.specs.Reading.{Contents, Digits, Reads, ReadsAs}
use Rattle.rl_syntax.specs.Strict.{Strict}
use Rattle.rl_syntax.specs.Agreeing.{IsWithinLimit}
use Rattle.rl_syntax.specs.Quoted.{is_number}
use Rattle.rl_syntax.specs.declared.span.Span.{Span}
use Rattle.rl_lenient.specs.WholeShapes.{IsPlain}
use Rattle.rust_literals.specs.Held.{HasOwnSuffix}
use Rattle.rust_literals.specs.declared.lit.Lit.{Lit}
use Rattle.rust_literals.specs.Literals.{kind_of, token_of, IsLitOf}

-- The span of a literal.
abbrev pub lit_span : {A : Type 0} → Lit A → Span
lit_span lit = (token_of lit).span

-- The text is parsed as an integer or a float.
abbrev pub ReadsAsNumber : List ℕ → Type 0
ReadsAsNumber text = ReadsAs IntKind text ⊎ ReadsAs FloatKind text

-- The text, a list of bytes, is parsed as a literal whose value in memory equals a part of the text: a string's decoded
-- value equals the text between its quotes, or a number's digits equal the text before its suffix.
abbrev pub ReadsPlain : List ℕ → Type 0
ReadsPlain text = (kind : Kind) × ReadsAs kind (chars text) × IsPlain kind text

-- `x` is the suffix of the text, which is a literal of the kind given. The suffix of a `bool`, and of a text that can't
-- be parsed as a literal, is empty.
abbrev pub IsSuffixAs : Option Kind → List ℕ → List ℕ → Type 0
IsSuffixAs (Some BoolKind) text x = x ≡ []
IsSuffixAs (Some kind) text x = HasOwnSuffix kind text x
IsSuffixAs None text x = x ≡ []

-- `x` is the suffix of the literal `lit`.
abbrev pub HasLitSuffix : {A : Type 0} → Lit A → List ℕ → Type 0
HasLitSuffix lit x = IsSuffixAs (kind_of lit) (chars (token_of lit).text) x

-- `moved` is the literal `lit` with the span `span`. Its memory may be from another allocator.
pub record IsSameAt {A B : Type 0} (lit : Lit A) (span : Span) (moved : Lit B) : Type 0 where
  pub kind : kind_of moved ≡ kind_of lit
  pub token : token_of moved ≡ record (token_of lit) { span = span }

-- If the text is a literal by Rust's grammar, and not an integer above 128 bits, the text is parsed as the kind, value
-- and suffix that Rust's grammar gives it.
abbrev pub KeepsStrict : List ℕ → Type 0
KeepsStrict text =
    (kind : Kind) (contents : Contents) (suffix : List ℕ) → Strict text kind contents suffix
    → IsWithinLimit kind text → Reads text kind contents suffix

-- If the text is a number by Rust's grammar, and not an integer above 128 bits, a minus followed by the text is parsed
-- as the number's kind and suffix, with `-` before the number's digits.
abbrev pub KeepsStrictAfterMinus : List ℕ → Type 0
KeepsStrictAfterMinus text =
    (kind : Kind) (digits suffix : List ℕ) → IsTrue (is_number kind)
    → Strict text kind (Digits digits) suffix → IsWithinLimit kind text
    → Reads (code "-" ∷ text) kind (Digits (code "-" ∷ digits)) suffix

-- If the text is a literal by Rust's grammar, and not an integer above 128 bits, the literal `lit` has the kind, value
-- and suffix that Rust's grammar gives the text.
abbrev pub AgreesWithStrict : {A : Type 0} → List ℕ → Lit A → Type 0
AgreesWithStrict text lit =
    (kind : Kind) (contents : Contents) (suffix : List ℕ) → Strict text kind contents suffix
    → IsWithinLimit kind text → IsLitOf kind contents suffix lit
