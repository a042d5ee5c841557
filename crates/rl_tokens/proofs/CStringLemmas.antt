-- If the search for a zero in a list of bytes finds none, the list contains no zero.
use Rattle.rl_syntax.proofs.Common.{◌≡◌, ℕ, ◌+◌, ◌&&◌, Bool, true, false, not, cond, List, [], ◌∷◌, Some, None, refl, sym, ◌∙◌, both_ways}
use Rattle.std.specs.List.{position_from, position}
use Rattle.std.proofs.lemmas.Iterator.Adapters.{position_from-zero}
use Rattle.rl_syntax.specs.Agreeing.{is_zero, has_no_zero}

-- If the search for a zero in a list of bytes finds none, the list contains no zero. The count of the bytes may begin
-- at any number.
none_from : (i : ℕ) (xs : List ℕ) → position_from is_zero i xs ≡ None → has_no_zero xs ≡ true
none_from i [] h = refl
none_from i (x ∷ xs) h = go (is_zero x) h (λ k. none_from (i + 1) xs k)
  where
    go : (b : Bool) → cond b (Some i) (position_from is_zero (i + 1) xs) ≡ None
        → (position_from is_zero (i + 1) xs ≡ None → has_no_zero xs ≡ true) → (not b && has_no_zero xs) ≡ true
    go true h next = absurd (cc)
    go false h next = next h

-- If `position` finds no zero in a list of bytes, the list contains no zero.
pub none_is_zero : (xs : List ℕ) → position is_zero xs ≡ None → has_no_zero xs ≡ true
none_is_zero xs h = none_from 0 xs (sym (position_from-zero is_zero xs) ∙ h)

found_from : (i : ℕ) (xs : List ℕ) → has_no_zero xs ≡ true → position_from is_zero i xs ≡ None
found_from i [] h = refl
found_from i (x ∷ xs) h = go (is_zero x) h (λ k. found_from (i + 1) xs k)
  where
    go : (b : Bool) → (not b && has_no_zero xs) ≡ true → (has_no_zero xs ≡ true → position_from is_zero (i + 1) xs
        ≡ None) → cond b (Some i) (position_from is_zero (i + 1) xs) ≡ None
    go true h next = absurd (both_ways false refl h)
    go false h next = next h

-- If a list of bytes contains no zero, `position` doesn't find a zero in the list.
pub zero_is_found : (xs : List ℕ) (place : ℕ) → has_no_zero xs ≡ true → position is_zero xs ≡ Some place → ⊥
zero_is_found xs place h e =
    let none : None ≡ Some place = sym (found_from 0 xs h) ∙ sym (position_from-zero is_zero xs) ∙ e in
    some_is_none place none
  where
    some_is_none : (place : ℕ) → None ≡ Some place → ⊥
    some_is_none place e = absurd (cc)
