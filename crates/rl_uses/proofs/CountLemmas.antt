-- Lemmas about counting how often elements occur in a list, one element after another.
use Rattle.std.proofs.Common.{◌≡◌, ℕ, zero, suc, ◌+◌, Bool, true, false, cond, List, [], ◌∷◌, ◌++◌, Option, None, Some, All, count_by, find, unwrap_or, refl, sym, ap, ◌∙◌, arith}
use Rattle.std.proofs.lemmas.List.Elements.{All-nil, All-cons, All-weaker}
use Rattle.std.proofs.lemmas.List.Folds.{find-append}
use Rattle.std.proofs.lemmas.List.Sums.{sum_by_push, sum_by-cons}
use Rattle.std.proofs.lemmas.Map.{keys-set_value}
use Rattle.std.proofs.lemmas.Map.Views.{All-map-IsPermutation}
use Rattle.std.specs.HashMap.{HashMap, IsEmpty, PutsEntry, keys}
use Rattle.std.specs.Option.{option_or}
use Rattle.std.specs.Cmp.{IsEquivalence}
use Rattle.rl_uses.specs.Counts.{some_times}

-- A count is stored as an option, in which `None` represents zero. The number in the option, or else 0, is the count.
pub some_times_value : (n : ℕ) → unwrap_or (some_times n) 0 ≡ n
some_times_value zero = refl
some_times_value (suc n) = refl

some_times_more : (n : ℕ) → some_times (n + 1) ≡ Some (n + 1)
some_times_more n = let e : n + 1 ≡ suc n = omega arith in rw e refl

-- If an element is appended to a list, the count of elements equal to it grows by 1, and other counts are unchanged.
pub times_more : {K : Type 0} (eq : K → K → Bool) → IsEquivalence eq → (xs : List K) (y q : K)
    → some_times (count_by (eq q) (xs ++ (y ∷ []))) ≡ cond (eq y q) (Some (count_by (eq y) xs + 1))
    (some_times (count_by (eq q) xs))
times_more {K} eq laws xs y q = go (eq y q) refl
  where
    grown : count_by (eq q) (xs ++ (y ∷ [])) ≡ count_by (eq q) xs + cond (eq q y) 1 0
    grown = sum_by_push _ xs y

    go : (b : Bool) → eq y q ≡ b → some_times (count_by (eq q) (xs ++ (y ∷ [])))
        ≡ cond b (Some (count_by (eq y) xs + 1)) (some_times (count_by (eq q) xs))
    go true e =
        let same : eq q ≡ eq y = λ i z. sym (laws.congr y q z e) i in
        let one : count_by (eq q) (xs ++ (y ∷ [])) ≡ count_by (eq y) xs + 1 = rw (laws.symm q y ∙ e) at grown
        ∙ ap (λ (p : K → Bool). count_by p xs + 1) same in
        ap some_times one ∙ some_times_more (count_by (eq y) xs)
    go false e = ap some_times (rw (laws.symm q y ∙ e) at grown ∙ omega arith)

-- If no element of a list passes a test, the search for such an element finds none.
none_found : {K : Type 0} (p : K → Bool) (xs : List K) → count_by p xs ≡ 0 → find p xs ≡ None
none_found p [] e = refl
none_found {K} p (x ∷ xs) e = go (p x) refl (none_found p xs)
  where
    both : count_by p (x ∷ xs) ≡ cond (p x) 1 0 + count_by p xs
    both = sum_by-cons (λ y. cond (p y) 1 0) x xs

    go : (b : Bool) → p x ≡ b → (count_by p xs ≡ 0 → find p xs ≡ None) → cond b (Some x) (find p xs) ≡ None
    go true h rest = absurd (let one : ◌≡◌ {A = ℕ} (cond (p x) 1 0) 1 = rw h refl in omega (arith, both))
    go false h rest = rest (let none : ◌≡◌ {A = ℕ} (cond (p x) 1 0) 0 = rw h refl in omega (arith, both))

none_counted : (n : ℕ) → None ≡ some_times n → n ≡ 0
none_counted zero e = refl
none_counted (suc n) e = absurd (cc)

-- In an empty map, each key is the first of its equals in the empty list, since the map has no keys.
pub firsts_none : {K S : Type 0} (eq : K → K → Bool) (m : HashMap K ℕ S) → IsEmpty m
    → All (λ k. find (eq k) [] ≡ Some k) (keys m)
firsts_none eq m e = rw e (All-nil (λ k. find (eq k) [] ≡ Some k))

-- If one more element is counted, each key of the map is still the first element of the list that equals it.
pub firsts_more : {K S : Type 0} (eq : K → K → Bool) → IsEquivalence eq
    → (xs : List K) (y : K) (m n : HashMap K ℕ S) (v : ℕ) (old : Option ℕ) → old ≡ some_times (count_by (eq y) xs)
    → PutsEntry eq m n y v old → All (λ k. find (eq k) xs ≡ Some k) (keys m)
    → All (λ k. find (eq k) (xs ++ (y ∷ [])) ≡ Some k) (keys n)
firsts_more {K} eq laws xs y m n v old absent put h = go old absent put
  where
    stay : All (λ k. find (eq k) (xs ++ (y ∷ [])) ≡ Some k) (keys m)
    stay = All-weaker (λ k. find (eq k) xs ≡ Some k) (λ k. find (eq k) (xs ++ (y ∷ [])) ≡ Some k)
        (λ k e. find-append (eq k) xs (y ∷ []) ∙ ap (λ o. option_or o (find (eq k) (y ∷ []))) e) (keys m) h

    go : (o : Option ℕ) → o ≡ some_times (count_by (eq y) xs) → PutsEntry eq m n y v o
        → All (λ k. find (eq k) (xs ++ (y ∷ [])) ≡ Some k) (keys n)
    go None e p =
        let none : find (eq y) xs ≡ None = none_found (eq y) xs (none_counted (count_by (eq y) xs) e) in
        let here : find (eq y) (xs ++ (y ∷ [])) ≡ Some y = find-append (eq y) xs (y ∷ [])
        ∙ rw (none, laws.refl y) refl in
        All-map-IsPermutation (λ e. e.0) (λ k. find (eq k) (xs ++ (y ∷ [])) ≡ Some k) ((y, v) ∷ m.entries) n.entries p
        (All-cons (λ k. find (eq k) (xs ++ (y ∷ [])) ≡ Some k) y (keys m) here stay)
    go (Some w) e p = rw (p, keys-set_value (eq y) m.entries v) stay
