-- Lemmas about the order of attribute names, which compares the last eight bytes of two names as numbers first.
use Rattle.std.proofs.Common.{◌≡◌, ◌==◌, ◌&&◌, ℕ, Bool, true, false, List, refl, ◌∙◌, ap, rules}
use Rattle.std.specs.Ordering.{nat_cmp, ordering_then, is_eq}
use Rattle.std.specs.Cmp.{both_tied, unsigned_ties}
use Rattle.std.specs.Cmp.Lexicographic.{slice_cmp, texts_ties}
use Rattle.std.specs.Str.{bytes_eq}
use Rattle.std.proofs.lemmas.Slice.Eq.{bytes_eq-Decides}
use Rattle.rl_attributes.specs.Names.{name_key}

same_key : (xs ys : List ℕ) (t : Bool) → bytes_eq xs ys ≡ t → t ≡ ((name_key xs == name_key ys) && t)
same_key xs ys false e = and_false (name_key xs == name_key ys)
  where
    and_false : (b : Bool) → false ≡ (b && false)
    and_false true = refl
    and_false false = refl
same_key xs ys true e = eq_self (name_key xs) (name_key ys) (ap name_key ((bytes_eq-Decides xs ys).0 e))
  where
    eq_self : (m n : ℕ) → m ≡ n → true ≡ ((m == n) && true)
    eq_self m n h = search rules

-- Two names are equal exactly if their comparison gives `Equal`. The comparison is by the numbers of their last eight
-- bytes, and then by all bytes.
pub keys_tie : (xs ys : List ℕ) → bytes_eq xs ys
    ≡ is_eq (ordering_then (nat_cmp (name_key xs) (name_key ys)) (slice_cmp nat_cmp xs ys))
keys_tie xs ys =
    same_key xs ys (bytes_eq xs ys) refl
    ∙ both_tied (name_key xs == name_key ys) (bytes_eq xs ys) _ _ (unsigned_ties (name_key xs) (name_key ys))
    (texts_ties xs ys)
