-- A text's bytes begin with a word exactly if the text's characters begin with it.
use Rattle.rl_syntax.proofs.Common.{◌≡◌, ℕ, ◌<◌, ◌≤◌, ◌⊎◌, inl, inr, true, ◌&&◌, ◌==◌, List, [], ◌∷◌, ◌++◌, ◌≢◌, ◌+◌, length, drop, Option, Some, None, refl, sym, subst, ◌∙◌, ap, arith, and_parts, nat_tests, nat_lt, list_all, chars, encode_utf8_all, IsUtf8, IsCharBoundary, encodes-chars, encodes-append, chars-append, IsUtf8-drop}
use Rattle.std.specs.Prelude.{nat_eq, IfSome, IfNone, MatchOption}
use Rattle.std.specs.List.{starts_with}
use Rattle.std.specs.Str.Pattern.{FindsTextPrefix}
use denote.Ref.{Bor}
use Rattle.rl_syntax.specs.Texts.{begins, IsTail}
use Rattle.rl_syntax.proofs.LowBytes.{cases128, low_front, encode_is_high, not_equal}

begins_one : (k : ℕ) (p : List ℕ) (c : ℕ) (cs : List ℕ) → k < 128 → begins p (encode_utf8_all cs) ≡ begins p cs
    → (c < 128) ⊎ (128 ≤ c) → begins (k ∷ p) (encode_utf8_all (c ∷ cs)) ≡ begins (k ∷ p) (c ∷ cs)
begins_one k p c cs l more (inl low) = ap (begins (k ∷ p)) (low_front c cs low) ∙ ap (λ b. c == k && b) more
begins_one k p c cs l more (inr high) =
    let (h, hs, same, is, _) = encode_is_high c high in
    ap (λ x. begins (k ∷ p) (x ++ encode_utf8_all cs)) same
    ∙ ap (λ b. b && begins p (hs ++ encode_utf8_all cs)) (not_equal h k l is)
    ∙ ap (λ b. b && begins p cs) (sym (not_equal c k l high))

begins_encoded : (p cs : List ℕ) → list_all (λ k. nat_lt k 128) p ≡ true → begins p (encode_utf8_all cs) ≡ begins p cs
begins_encoded [] cs low = refl
begins_encoded (k ∷ p) [] low = refl
begins_encoded (k ∷ p) (c ∷ cs) low =
    let h : (nat_lt k 128 ≡ true) × (list_all (λ k. nat_lt k 128) p ≡ true) = and_parts (nat_lt k 128)
    (list_all (λ k. nat_lt k 128) p) low in
    begins_one k p c cs (let q : nat_lt k 128 ≡ true = h.0 in grind (arith, nat_tests)) (begins_encoded p cs h.1)
    (cases128 c)

-- The bytes of a text begin with an ASCII word exactly if the characters of the text begin with the word.
pub begins_bytes : (p t : List ℕ) → IsUtf8 t → list_all (λ k. nat_lt k 128) p ≡ true → begins p t ≡ begins p (chars t)
begins_bytes p t is low = ap (begins p) (sym (encodes-chars t is)) ∙ begins_encoded p (chars t) low

pub starts_begins : (p t : List ℕ) → starts_with nat_eq t p ≡ begins p t
starts_begins [] t = refl
starts_begins (k ∷ p) [] = refl
starts_begins (k ∷ p) (c ∷ t) = ap (λ b. nat_eq k c && b) (starts_begins p t)
    ∙ ap (λ b. b && begins p t) (equal_swap k c)
  where
    equal_swap : (k c : ℕ) → nat_eq k c ≡ (c == k)
    equal_swap k c = grind (arith, nat_tests)

-- ---- the text after a prefix, from the postcondition of `strip_prefix`

abbrev StripPrefix : List ℕ → List ℕ → Option (Bor (List ℕ)) → Type 0
StripPrefix n bs r = MatchOption r (FindsTextPrefix n bs None)
    (λ x. (k : ℕ) × FindsTextPrefix n bs (Some k) × (x.now ≡ drop k bs) × (length x.now + k ≡ length bs))

pub strip_prefix_some : (n bs : List ℕ) (r : Option (Bor (List ℕ))) → StripPrefix n bs r → IsUtf8 n
    → IfSome r (λ x. chars bs ≡ chars n ++ chars x.now)
strip_prefix_some n bs None m u = tt
strip_prefix_some n bs (Some x) m u = ap chars (m.1.1 ∙ ap (λ z. n ++ z) (sym m.2)) ∙ chars-append n x.now u

pub strip_prefix_none : (n bs : List ℕ) (r : Option (Bor (List ℕ))) → StripPrefix n bs r → IsUtf8 n → IsUtf8 bs
    → IfNone r ((x : List ℕ) → chars bs ≢ chars n ++ x)
strip_prefix_none n bs (Some x) m u w = tt
strip_prefix_none n bs None m u w = λ x e.
    m (encode_utf8_all x) (sym (encodes-chars bs w) ∙ ap encode_utf8_all e ∙ encodes-append (chars n) x
    ∙ ap (λ z. z ++ encode_utf8_all x) (encodes-chars n u))

pub strip_prefix_tail : (n bs : List ℕ) (r : Option (Bor (List ℕ))) → StripPrefix n bs r → IsUtf8 bs
    → IfSome r (λ x. IsTail bs x.now)
strip_prefix_tail n bs None m w = tt
strip_prefix_tail n bs (Some x) m w = record {
  front = n;
  text_is = m.1.1 ∙ ap (λ z. n ++ z) (sym m.2);
  is_text = subst IsUtf8 (sym m.2) (IsUtf8-drop bs m.0 w (subst (IsCharBoundary bs) (sym m.1.0) m.1.2));
}
