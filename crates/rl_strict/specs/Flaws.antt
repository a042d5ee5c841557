-- The longest prefix of a text that can still become a literal, and the byte range of a flaw.
use Rattle.std.specs.Prelude.{◌≡◌, ◌+◌, ℕ, List, [], ◌∷◌, ◌++◌, encode_utf8, length, min}
use Rattle.std.specs.Char.{IsScalar}
use Rattle.std.specs.List.{AllByRecursion}
use Rattle.rl_syntax.specs.Texts.{byte_len}
use Rattle.rl_syntax.specs.declared.span.Span.{Span}

-- Some ending, perhaps an empty one, completes the text to a text that satisfies the predicate `takes`. For example, `'a`
-- can be completed to the literal token `'a'`.
pub record IsCompletable (takes : List ℕ → Type 0) (text : List ℕ) : Type 0 where
  pub ending : List ℕ
  pub are_characters : AllByRecursion IsScalar ending
  pub is_taken : takes (text ++ ending)

-- `text` is a prefix followed by `rest`. Some ending completes the prefix to a text that satisfies the predicate `takes`. No
-- text that begins with the prefix and the first character of `rest` satisfies `takes`. For example, the prefix of `0b102`
-- is `0b10` if literal tokens satisfy `takes`.
pub record StopsBefore (takes : List ℕ → Type 0) (text rest : List ℕ) : Type 0 where
  pub front : List ℕ
  pub text_is : text ≡ front ++ rest
  pub begins : IsCompletable takes front
  pub stuck : (c : ℕ) (cs ending : List ℕ) → rest ≡ c ∷ cs → takes (front ++ (c ∷ ending)) → ⊥

-- The number of bytes of a text's first character.
abbrev pub first_len : List ℕ → ℕ
first_len [] = 0
first_len (c ∷ cs) = length (encode_utf8 c)

-- The byte offset `lo` is the end of the text's longest prefix that can be completed to a text that satisfies `takes`. The
-- byte offset `hi` is after the character at `lo`. If no character follows, `lo` and `hi` are the text's end.
pub record IsPlaced (takes : List ℕ → Type 0) (text : List ℕ) (lo hi : ℕ) : Type 0 where
  pub rest : List ℕ
  pub stops : StopsBefore takes text rest
  pub lo_is : lo ≡ byte_len stops.front
  pub hi_is : hi ≡ lo + first_len rest

-- If `text` is a prefix followed by `rest`, the relation `says` holds between the prefix and `rest`.
abbrev pub HasKind : (List ℕ → List ℕ → Type 0) → List ℕ → List ℕ → Type 0
HasKind says text rest = (front : List ℕ) → text ≡ front ++ rest → says front rest

-- The byte offset `span.lo + at`, or the span's end `span.hi` if `span.lo + at` is greater.
abbrev pub place_in : Span → ℕ → ℕ
place_in span at = min (span.lo + at) span.hi
