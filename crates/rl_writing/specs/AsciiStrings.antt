-- The string and character literals that are written in ASCII.
use Rattle.std.specs.Prelude.{◌≡◌, ℕ, false, nat_lt, List, [], ◌∷◌, ◌++◌, IsTrue, if◌then◌else◌}
use Rattle.std.specs.List.{flat_map, list_all}
use Prim.Native.Char.{code}
use Rattle.rl_syntax.specs.declared.kind.Kind.{Kind}
use Rattle.rl_syntax.specs.Quoted.{opener, unit_text}
use Rattle.rl_syntax.specs.Reading.{Reads, quoted_contents}
use Rattle.rl_syntax.specs.Strict.{Strict}
use Rattle.rl_syntax.specs.Written.{closer, written_unit}
use Rattle.rl_writing.specs.Integers.{numeral}

-- The escape `\u{..}` of a character, with its code point in base 16, in lower case.
abbrev pub unicode_escape : ℕ → List ℕ
unicode_escape c = code "\\" ∷ code "u" ∷ code "{" ∷ (numeral 16 false c ++ (code "}" ∷ []))

-- The written form of a character in an ASCII literal. A non-ASCII character is written as its escape `\u{..}`. An ASCII
-- character is written as in other literals.
abbrev pub ascii_text : Kind → ℕ → List ℕ
ascii_text kind c = if nat_lt c 128 then unit_text (written_unit kind c) else unicode_escape c

-- The ASCII literal of a value: the written forms of its characters, between quotes.
abbrev pub ascii_literal : Kind → List ℕ → List ℕ
ascii_literal kind value = opener kind ++ (flat_map (ascii_text kind) value ++ (closer kind ∷ []))

-- The text is the ASCII literal that is written for the value. By `syn`'s and by Rust's grammar, the literal has the value,
-- and no suffix.
pub record IsAsciiForm (kind : Kind) (value text : List ℕ) : Type 0 where
  pub text_is : text ≡ ascii_literal kind value
  pub ascii : IsTrue (list_all (λ c. nat_lt c 128) text)
  pub reads : Reads text kind (quoted_contents kind value) []
  pub strict : Strict text kind (quoted_contents kind value) []
