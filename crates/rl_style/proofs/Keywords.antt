-- The keywords of Rust, and other identifiers.
use Rattle.rl_syntax.proofs.Common.{◌≡◌, ◌≢◌, ◌||◌, ℕ, Bool, true, false, List, [], ◌∷◌, refl, sym, ◌∙◌, ap, AllByRecursion, list_any}
use Rattle.std.specs.Str.{bytes_eq}
use Rattle.std.proofs.lemmas.Slice.Eq.{bytes_eq-Decides}
use Rattle.rl_style.specs.Calls.{is_keyword, keywords}

pub keyword : (word known : List ℕ) → word ≡ known → list_any (bytes_eq known) keywords ≡ true → true ≡ is_keyword word
unfolding is_keyword
keyword word known same h = sym (ap (λ z. list_any (bytes_eq z) keywords) same ∙ h)

-- If an identifier differs from each word of a list, the search for the identifier in the list returns `false`.
none_of : (word : List ℕ) (known : List (List ℕ)) → AllByRecursion (λ w. word ≢ w) known
    → list_any (bytes_eq word) known ≡ false
none_of word [] all = refl
none_of word (w ∷ known) (first, all) = go (bytes_eq word w) refl (none_of word known all)
  where
    go : (b : Bool) → bytes_eq word w ≡ b → list_any (bytes_eq word) known ≡ false
        → (bytes_eq word w || list_any (bytes_eq word) known) ≡ false
    go true h more = absurd (first ((bytes_eq-Decides word w).0 h))
    go false h more = ap (λ z. z || list_any (bytes_eq word) known) h ∙ more

pub no_keyword : (word : List ℕ) → AllByRecursion (λ w. word ≢ w) keywords → false ≡ is_keyword word
unfolding is_keyword
no_keyword word all = sym (none_of word keywords all)
