-- Lemmas about the identifiers `true` and `false`, as bytes and as characters.
use Rattle.rl_syntax.proofs.Common.{◌≡◌, ◌≢◌, ℕ, Bool, true, false, List, refl, sym, ap, ◌∙◌, encodes-chars, chars, IsUtf8}
use Rattle.std.specs.Prelude.{encode_utf8_all}
use Rattle.rl_syntax.specs.Reading.{truth_text}

-- The characters of the words `true` and `false` equal their bytes.
word_chars : (b : Bool) → chars (truth_text b) ≡ truth_text b
unfolding chars
word_chars true = refl
word_chars false = refl

-- If the bytes of a text are the word `true` or `false`, the characters of the text are the same word.
pub truth_chars : (t : List ℕ) (b : Bool) → t ≡ truth_text b → chars t ≡ truth_text b
truth_chars t b e = ap chars e ∙ word_chars b

-- The UTF-8 encoding of the word `true` or `false` is the word itself.
word_bytes : (b : Bool) → encode_utf8_all (truth_text b) ≡ truth_text b
unfolding lib.Utf8.encode
word_bytes true = refl
word_bytes false = refl

-- If the characters of a text are the word `true` or `false`, the bytes of the text are the same word.
pub truth_bytes : (t : List ℕ) (b : Bool) → IsUtf8 t → chars t ≡ truth_text b → t ≡ truth_text b
truth_bytes t b u e = sym (encodes-chars t u) ∙ ap encode_utf8_all e ∙ word_bytes b

-- If the bytes of a text are neither `true` nor `false`, the characters of the text are neither `true` nor `false`.
pub no_word : (t : List ℕ) → IsUtf8 t → t ≢ truth_text true → t ≢ truth_text false → (b : Bool) → chars t ≢ truth_text b
no_word t u h k true e = h (truth_bytes t true u e)
no_word t u h k false e = k (truth_bytes t false u e)
