-- The statements of the laws of src/laws.rt on token trees, each as a definition.
use Rattle.std.specs.Prelude.{◌≡◌, ◌↔◌, ◌<◌, ℕ, IsTrue, List, ◌∷◌, length}
use Rattle.rl_syntax.specs.declared.span.Span.{Span}
use Rattle.rl_tokens.specs.declared.token.Delimiter.{Delimiter}
use Rattle.rl_tokens.specs.Buffers.{begins_mark, IsAfterMark, IsAfterMarks, IsRest}
use Rattle.rl_tokens.specs.Trees.{Tree, GroupTree, flat_trees, inside_of}

-- The token trees `trees` are a group with the token trees `inside`, followed by `rest`.
pub record IsAfterGroup (delimiter : Delimiter) (trees inside rest : List Tree) : Type 0 where
  pub span : Span
  pub trees_are : trees ≡ GroupTree delimiter (inside_of inside) span ∷ rest

-- The number of tokens of token trees, with those inside groups, where each delimiter is a token.
unfoldable pub weight : List Tree → ℕ
weight trees = length (flat_trees trees)

-- If `c` is the end of `b`, and `b` is the end of `a`, `c` is the end of `a`.
abbrev pub ARestOfARestIsARest : Type 0
ARestOfARestIsARest =
    (a b c : List Tree) → IsRest a b → IsRest b c → IsRest a c

-- One list of token trees follows a punctuation character.
abbrev pub AMarkHasOneRest : Type 0
AMarkHasOneRest =
    (ch : ℕ) (trees r s : List Tree) → IsAfterMark ch trees r → IsAfterMark ch trees s → r ≡ s

-- One list of token trees follows punctuation characters with nothing between them, and the characters have one span.
abbrev pub JointMarksHaveOneRest : Type 0
JointMarksHaveOneRest =
    (chs : List ℕ) (before : Span) (trees r s : List Tree) (a b : Span) → IsAfterMarks chs before trees a r
    → IsAfterMarks chs before trees b s → (a ≡ b) × (r ≡ s)

-- `peek_punct` returns `true` exactly if the token trees begin with the character.
abbrev pub APeekedMarkIsAtTheFront : Type 0
APeekedMarkIsAtTheFront =
    (ch : ℕ) (trees : List Tree)
    → IsTrue (begins_mark ch trees) ↔ ((rest : List Tree) × IsAfterMark ch trees rest)

-- A group has one delimiter, one list of token trees inside, and one list after it.
abbrev pub AGroupHasOneInside : Type 0
AGroupHasOneInside =
    (d e : Delimiter) (trees a b r s : List Tree) → IsAfterGroup d trees a r → IsAfterGroup e trees b s
    → (d ≡ e) × (a ≡ b) × (r ≡ s)

-- A group isn't a punctuation character.
abbrev pub AGroupIsNoMark : Type 0
AGroupIsNoMark =
    (d : Delimiter) (ch : ℕ) (trees inside r s : List Tree) → IsAfterGroup d trees inside r
    → IsAfterMark ch trees s → ⊥

-- A step that consumes a token tree leaves fewer tokens.
abbrev pub AStepIsLighter : Type 0
AStepIsLighter =
    (before left : List Tree) → IsRest before left → length left < length before
    → weight left < weight before

-- Fewer tokens are left after a punctuation character.
abbrev pub AMarkIsLighter : Type 0
AMarkIsLighter =
    (ch : ℕ) (trees rest : List Tree) → IsAfterMark ch trees rest → weight rest < weight trees

-- Fewer tokens are inside a group, and after it, than with it.
abbrev pub AnInsideIsLighter : Type 0
AnInsideIsLighter =
    (d : Delimiter) (trees inside rest : List Tree) → IsAfterGroup d trees inside rest
    → (weight inside < weight trees) × (weight rest < weight trees)
