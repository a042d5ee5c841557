-- The raw string literals that are written for texts.
use Rattle.std.specs.Prelude.{ℕ, ◌<◌, List, [], ◌∷◌, ◌++◌, replicate}
use Prim.Native.Char.{code}
use Rattle.rl_syntax.specs.declared.kind.Kind.{Kind}
use Rattle.rl_syntax.specs.Quoted.{raw_opener}
use Rattle.rl_syntax.specs.Reading.{Contents, Reads, quoted_contents}
use Rattle.rl_syntax.specs.Strict.{Strict, strict_content_of}

-- The raw string of the kind with the given number of hashes, and with the characters `inside` between its quotes.
abbrev pub raw_text : Kind → ℕ → List ℕ → List ℕ
raw_text kind hashes inside =
    raw_opener kind
    ++ (replicate hashes (code "#")
    ++ (code "\"" ∷ (inside ++ (code "\"" ∷ replicate hashes (code "#")))))

-- The value of a raw string of the kind with the characters `inside` between its quotes.
abbrev pub raw_contents : Kind → List ℕ → Contents
raw_contents kind inside = quoted_contents kind (strict_content_of kind inside)

-- The raw string of the kind with the given hashes and the characters `inside` isn't a literal of Rust's grammar.
abbrev pub IsNoRaw : Kind → ℕ → List ℕ → Type 0
IsNoRaw kind hashes inside =
    (contents : Contents) (suffix : List ℕ) → Strict (raw_text kind hashes inside) kind contents suffix → ⊥

-- The number of hashes is the fewest with which a raw string of the kind can contain the characters. By `syn`'s and by
-- Rust's grammar, the raw string has these characters as its value. With fewer hashes it isn't a literal of Rust's
-- grammar.
pub record HasFewestHashes (kind : Kind) (inside : List ℕ) (hashes : ℕ) : Type 0 where
  pub strict : Strict (raw_text kind hashes inside) kind (raw_contents kind inside) []
  pub reads : Reads (raw_text kind hashes inside) kind (raw_contents kind inside) []
  pub fewest : (fewer : ℕ) → fewer < hashes → IsNoRaw kind fewer inside

-- No raw string of the kind can contain the characters: with any number of hashes, it isn't a literal of Rust's grammar.
abbrev pub HasNoRaw : Kind → List ℕ → Type 0
HasNoRaw kind inside = (hashes : ℕ) → IsNoRaw kind hashes inside
