-- Raw literals and their hashes.
use Rattle.std.specs.Prelude.{◌≡◌, ◌⊎◌, ℕ, List}
use Rattle.rl_syntax.specs.declared.kind.Kind.{Kind}
use Rattle.rl_syntax.specs.Quoted.{Raw}

-- The text is a raw literal of the kind `kind`.
pub record IsRawText (kind : Kind) (text : List ℕ) : Type 0 where
  pub value : List ℕ
  pub suffix : List ℕ
  pub raw : Raw kind text value suffix

-- `count` is the number of hashes of a raw literal, or the text isn't raw and `count` is 0.
abbrev pub HasHashCount : Kind → List ℕ → ℕ → Type 0
HasHashCount kind text count =
    ((value : List ℕ) × (suffix : List ℕ) × (r : Raw kind text value suffix) × (count ≡ r.hashes))
    ⊎ ((IsRawText kind text → ⊥) × (count ≡ 0))
