-- Lemmas about texts that consist of one piece for each element of a list, in order.
use Rattle.std.proofs.Common.{◌≡◌, ℕ, List, [], ◌∷◌, ◌++◌, refl, sym, ap, subst, ◌∙◌, append_assoc}
use Rattle.std.proofs.lemmas.List.{append-nil}
use Rattle.rl_program.specs.Lines.{Joins, Appends}

-- If two texts consist of the pieces of two lists, the two texts joined consist of the pieces of the two lists joined.
pub joins_append : {A : Type 0} (IsPiece : A → List ℕ → Type 0) (xs ys : List A) (s t : List ℕ) → Joins IsPiece xs s
    → Joins IsPiece ys t → Joins IsPiece (xs ++ ys) (s ++ t)
joins_append IsPiece [] ys s t h k = subst (Joins IsPiece ys) (sym (ap (λ z. z ++ t) h)) k
joins_append IsPiece (x ∷ xs) ys s t (first, rest, p, h, e) k =
    (first, rest ++ t, p, joins_append IsPiece xs ys rest t h k, ap (λ z. z ++ t) e ∙ append_assoc first rest t)

-- The piece of an element is the text of the list with only that element.
pub joins_one : {A : Type 0} (IsPiece : A → List ℕ → Type 0) (x : A) (t : List ℕ) → IsPiece x t
    → Joins IsPiece (x ∷ []) t
joins_one IsPiece x t p = (t, [], p, refl, sym (append-nil t))

-- If a text consists of the pieces of a list, and the piece of one more element is appended, the text consists of the
-- pieces of the longer list.
pub joins_more : {A : Type 0} (IsPiece : A → List ℕ → Type 0) (xs : List A) (x : A) (b c : List ℕ) → Joins IsPiece xs b
    → Appends (IsPiece x) b c → Joins IsPiece (xs ++ (x ∷ [])) c
joins_more IsPiece xs x b c h (t, p, d) = subst (Joins IsPiece (xs ++ (x ∷ []))) (sym d)
    (joins_append IsPiece xs (x ∷ []) b t h (joins_one IsPiece x t p))

-- A piece that is appended to the empty text is the whole text.
pub appends_to_none : (IsPiece : List ℕ → Type 0) (old new : List ℕ) → old ≡ [] → Appends IsPiece old new → IsPiece new
appends_to_none IsPiece old new o (t, p, e) = subst IsPiece (sym (e ∙ ap (λ z. z ++ t) o)) p
