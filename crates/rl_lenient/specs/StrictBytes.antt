-- The byte literals and byte string literals that `syn`'s grammar and Rust's grammar have in common.
use Rattle.std.specs.Prelude.{◌↔◌, ◌==◌, not, ℕ, List, IsTrue}
use Rattle.std.specs.List.{list_all}
use Prim.Native.Char.{code}
use Rattle.rl_syntax.specs.declared.kind.Kind.TheVariants.{ByteStr, Byte}
use Rattle.rl_syntax.specs.Quoted.{Cooked}
use Rattle.rl_syntax.specs.Reading.{Contents, Bytes, Reads}
use Rattle.rl_syntax.specs.Strict.{IsStrictSuffix, StrictCooked}

abbrev pub HasNoCarriageReturn : List ℕ → Type 0
HasNoCarriageReturn text = IsTrue (list_all (λ c. not (c == code "\r")) text)

-- `syn`'s and Rust's grammar agree on whether the text is a byte literal, or a byte string literal that isn't raw, and on
-- its value and its suffix. Only literals with a suffix that Rust's grammar allows are compared.
pub record BytesAreStrict (text : List ℕ) : Type 0 where
  pub byte : (contents : Contents) (suffix : List ℕ)
      → (Reads text Byte contents suffix
      × IsStrictSuffix suffix) ↔ StrictCooked text Byte contents suffix
  pub byte_string : (value suffix : List ℕ)
      → (Cooked ByteStr text value suffix
      × IsStrictSuffix suffix) ↔ StrictCooked text ByteStr (Bytes value) suffix

-- If the text contains no CR, `syn`'s and Rust's grammar agree on whether it is a byte literal, or a byte string
-- literal that isn't raw.
abbrev pub KeepsBytesStrict : List ℕ → Type 0
KeepsBytesStrict text = HasNoCarriageReturn text → BytesAreStrict text
