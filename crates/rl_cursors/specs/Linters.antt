-- The reports of a linter over the literals of a whole Rust source.
use Rattle.std.specs.Prelude.{◌≡◌, ◌⊎◌, ℕ, List, [], ◌∷◌}
use Rattle.std.specs.Str.{chars}
use Rattle.rl_lexer.specs.Cursors.{CursorState}
use Rattle.rl_lexer.specs.Sources.{CutSource, IsCutUpTo, IsLiteralText, source_end, source_kind, source_text}

-- The token is a literal, and its text has the property `Is`.
pub record IsLiteralThat (Is : List ℕ → Type 0) (w : CutSource) : Type 0 where
  pub literal : IsLiteralText (source_kind w.token) (source_text w.token)
  pub has : Is (source_text w.token)

-- The reports are those of all literals whose text has the property, and of no other token, in order. A report is made of the
-- byte range of its literal.
abbrev pub ReportsOf : {R : Type 0} → (List ℕ → Type 0) → (ℕ → ℕ → R) → List CutSource → List R → Type 0
ReportsOf Is report [] found = found ≡ []
ReportsOf {R} Is report (w ∷ ws) found =
    ((IsLiteralThat Is w → ⊥) × ReportsOf Is report ws found)
    ⊎ ((rest : List R) × IsLiteralThat Is w × (found ≡ report w.at (source_end w) ∷ rest)
    × ReportsOf Is report ws rest)

-- The source, in bytes, is lexed to its end, and the reports are those of its tokens. A source is lexed in one way.
pub record ReportsAll {R : Type 0} (Is : List ℕ → Type 0) (report : ℕ → ℕ → R) (source : List ℕ) (found : List R)
    : Type 0 where
  pub tokens : List CutSource
  pub are : IsCutUpTo (chars source) tokens []
  pub reports : ReportsOf Is report tokens found

-- The source is read up to the cursor, and the reports are those of the tokens before the cursor.
pub record HasReported {R : Type 0} (Is : List ℕ → Type 0) (report : ℕ → ℕ → R) (source : List ℕ)
    (state : CursorState) (found : List R) : Type 0 where
  pub tokens : List CutSource
  pub text : state.text ≡ source
  pub are : IsCutUpTo (chars source) tokens (chars state.rest)
  pub reports : ReportsOf Is report tokens found
