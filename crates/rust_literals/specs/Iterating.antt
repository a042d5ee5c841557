-- The state and the results of an iterator over the literals of a text.
use Rattle.std.specs.Prelude.{◌≡◌, ℕ, List, [], ◌∷◌, ◌++◌, ◌+◌, ◌^◌, length, Option, Some, None, Result, Ok, Err}
use Rattle.std.specs.Str.{chars}
use Rattle.std.specs.Vec.Iter.{into_iter_items, into_iter_len}
use Rattle.std.specs.declared.vec.IntoIter.{IntoIter}
use Rattle.rl_tokens.specs.declared.error.Error.{Error}
use Rattle.rust_literals.specs.declared.lit.Lit.{Lit}
use Rattle.rust_literals.specs.declared.literals.Literals.{Literals}
use Rattle.rust_literals.specs.Parsing.{AreRead, RejectsText}
use Rattle.rust_literals.specs.Flat.{AreReadUpTo}

-- The state of an iterator that has returned the literals `taken`. Either these were read token by token, and the text
-- `rest` remains. Or the whole text was lexed into token trees, and consists of `taken` and the literals that the
-- iterator still has to return.
abbrev pub GoesOnAfter : {A : Type 0} → List ℕ → ℕ → List (Lit A) → ℕ → List ℕ
    → Option (IntoIter (Lit A) A) → Type 0
GoesOnAfter text file taken count rest None = AreReadUpTo text file taken rest × (length taken ≡ count)
GoesOnAfter text file taken count rest (Some waiting) =
    AreRead text file (taken ++ into_iter_items waiting)
    × (into_iter_len waiting ≡ length (into_iter_items waiting))

-- A number that each returned literal lowers. While the text is read token by token, the number is the count of
-- remaining bytes plus 2 to the 64th power. Afterwards the number is the count of literals that the iterator still has
-- to return, which is less than 2 to the 64th power.
abbrev pub left_with : {A : Type 0} → Option (IntoIter (Lit A) A) → ℕ → ℕ
left_with None bytes = 2 ^ 64 + bytes
left_with (Some waiting) bytes = into_iter_len waiting

abbrev pub left_of : {A : Type 0} → Literals A → ℕ
left_of literals = left_with literals.waiting (length literals.tokens.rest)

-- The iterator over the text `text` has returned the literals `taken`.
pub record HasReturned {A : Type 0} (text : List ℕ) (file : ℕ) (taken : List (Lit A)) (literals : Literals A)
    : Type 0 where
  pub text_is : literals.text.now ≡ text
  pub file_is : literals.file ≡ file
  pub same : literals.tokens.text ≡ text
  pub goes_on : GoesOnAfter (chars text) file taken literals.count (chars literals.tokens.rest) literals.waiting

-- The result of an iterator that has returned the literals `taken`. The result is the next literal, or `None` if the
-- text consists of `taken`, or the text's error. If the result is `None` or an error, the literals that the iterator
-- has returned are still `taken`.
abbrev pub ReturnsNext : {A : Type 0} → List ℕ → ℕ → List (Lit A) → Result (Option (Lit A)) (Error A)
    → Literals A → Type 0
ReturnsNext text file taken (Ok (Some lit)) new = HasReturned text file (taken ++ lit ∷ []) new
ReturnsNext text file taken (Ok None) new = AreRead (chars text) file taken × HasReturned text file taken new
ReturnsNext text file taken (Err e) new =
    RejectsText (chars text) file (length text) e × HasReturned text file taken new
