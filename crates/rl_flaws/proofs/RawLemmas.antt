-- The content of a raw string up to its first flaw or its closing delimiter.
use Rattle.rl_flaws.proofs.Names.{◌≡◌, ◌≢◌, ◌==◌, ◌&&◌, ◌||◌, ℕ, Bool, true, false, not, cond, List, [], ◌∷◌, ◌++◌, drop, refl, sym, ap, subst, ◌∙◌, inl, inr, append_assoc, and_from, and_parts, both_ways, eqb-true, list_all, nat_lt, begins, first_passes, Kind, Str, ByteStr, CStr, is_string, begins_front, is_raw_character, raw_stop, EndsRaw, IsRawUpTo, MayBeRaw}

-- ---- the characters that a raw string may contain

one_may : (k : Kind) (c : ℕ) (cs : List ℕ) → is_string k ≡ true → is_raw_character k c ≡ true → MayBeRaw k cs
    → MayBeRaw k (c ∷ cs)
one_may Str c cs s h m = (tt, and_from (not (c == 13)) (list_all (λ d. not (d == 13)) cs) h m.1)
one_may ByteStr c cs s h m =
    let p = and_parts (nat_lt c 128) (not (c == 13)) h in (
      and_from (nat_lt c 128) (list_all (λ d. nat_lt d 128) cs) p.0 m.0,
      and_from (not (c == 13)) (list_all (λ d. not (d == 13)) cs) p.1 m.1,
    )
one_may CStr c cs s h m =
    let p = and_parts (not (c == 0)) (not (c == 13)) h in (
      and_from (not (c == 0)) (list_all (λ d. not (d == 0)) cs) p.0 m.0,
      and_from (not (c == 13)) (list_all (λ d. not (d == 13)) cs) p.1 m.1,
    )
one_may kind c cs s h m = absurd (both_ways false refl s)

may_one : (k : Kind) (c : ℕ) → is_string k ≡ true → MayBeRaw k (c ∷ []) → is_raw_character k c ≡ true
may_one Str c s m = (and_parts (not (c == 13)) true m.1).0
may_one ByteStr c s m = and_from (nat_lt c 128) (not (c == 13)) (and_parts (nat_lt c 128) true m.0).0
    (and_parts (not (c == 13)) true m.1).0
may_one CStr c s m = and_from (not (c == 0)) (not (c == 13)) (and_parts (not (c == 0)) true m.0).0
    (and_parts (not (c == 13)) true m.1).0
may_one kind c s m = absurd (both_ways false refl s)

nothing_may : (k : Kind) → is_string k ≡ true → MayBeRaw k []
nothing_may Str s = (tt, refl)
nothing_may ByteStr s = (refl, refl)
nothing_may CStr s = (refl, refl)
nothing_may kind s = absurd (both_ways false refl s)

-- ---- the end of the raw string's valid content

no_front : (front after : List ℕ) (c : ℕ) → [] ≢ front ++ (c ∷ after)
no_front [] after c e = both_ways false refl (ap (first_passes (λ d. true)) e)
no_front (d ∷ ds) after c e = both_ways false refl (ap (first_passes (λ d. true)) e)

stopped : (k : Kind) (hashes cs : List ℕ) (c : ℕ) (a b : Bool) → (c == 34) ≡ a → begins hashes cs ≡ b → is_string k ≡
    true → ((a && b) || not (is_raw_character k c)) ≡ true → EndsRaw k hashes (c ∷ cs)
stopped k hashes cs c true true q h s y = inl (eqb-true c 34 q, h)
stopped k hashes cs c true false q h s y = inr (λ m. both_ways (not (is_raw_character k c)) (ap not (may_one k c s m))
    y)
stopped k hashes cs c false b q h s y = inr (λ m. both_ways (not (is_raw_character k c)) (ap not (may_one k c s m)) y)

goes_on : (k : Kind) (hashes cs : List ℕ) (c : ℕ) → is_string k ≡ true → ((c == 34 && begins hashes cs) || not
    (is_raw_character k c)) ≡ false → (r : List ℕ) → IsRawUpTo k hashes cs r → IsRawUpTo k hashes (c ∷ cs) r
goes_on k hashes cs c s n r i = record {
  body = c ∷ i.body;
  text_is = ap (λ z. c ∷ z) i.text_is;
  may_be = one_may k c i.body s (raw (c == 34 && begins hashes cs) (is_raw_character k c) n) i.may_be;
  no_closer = none;
  ends = i.ends;
}
  where
    raw : (a b : Bool) → (a || not b) ≡ false → b ≡ true
    raw true b h = absurd (both_ways true h refl)
    raw false true h = refl
    raw false false h = absurd (both_ways true h refl)

    open_test : (a b : Bool) → (a || not b) ≡ false → a ≡ false
    open_test true b h = absurd (both_ways true h refl)
    open_test false b h = refl

    none : (front after : List ℕ) → c ∷ i.body ≢ front ++ (34 ∷ (hashes ++ after))
    none [] after e =
        let quote : (c == 34) ≡ true = ap (first_passes (λ d. d == 34)) e in
        let tail : i.body ≡ hashes ++ after = ap (drop 1) e in
        let closes : begins hashes cs ≡ true = ap (begins hashes) (i.text_is ∙ ap (λ z. z ++ r) tail
        ∙ append_assoc hashes after r) ∙ begins_front hashes (after ++ r) in
        both_ways (c == 34 && begins hashes cs) (open_test (c == 34 && begins hashes cs) (is_raw_character k c) n)
        (and_from (c == 34) (begins hashes cs) quote closes)
    none (d ∷ ds) after e = i.no_closer ds after (ap (drop 1) e)

nothing_up_to : (k : Kind) (hashes t : List ℕ) → is_string k ≡ true → EndsRaw k hashes t → IsRawUpTo k hashes t t
nothing_up_to k hashes t s ends = record {
  body = [];
  text_is = refl;
  may_be = nothing_may k s;
  no_closer = λ front after. no_front front (hashes ++ after) 34;
  ends = ends;
}

by_test : (k : Kind) (hashes cs : List ℕ) (c : ℕ) → is_string k ≡ true → (r : List ℕ) → IsRawUpTo k hashes cs r
    → (b : Bool) → ((c == 34 && begins hashes cs) || not (is_raw_character k c)) ≡ b
    → IsRawUpTo k hashes (c ∷ cs) (cond b (c ∷ cs) r)
by_test k hashes cs c s r i true h = nothing_up_to k hashes (c ∷ cs) s
    (stopped k hashes cs c (c == 34) (begins hashes cs) refl refl s h)
by_test k hashes cs c s r i false h = goes_on k hashes cs c s h r i

up_to : (k : Kind) (hashes t : List ℕ) → is_string k ≡ true → IsRawUpTo k hashes t (raw_stop k hashes t)
unfolding raw_stop
up_to k hashes [] s = nothing_up_to k hashes [] s tt
up_to k hashes (c ∷ cs) s = by_test k hashes cs c s (raw_stop k hashes cs) (up_to k hashes cs s)
    ((c == 34 && begins hashes cs) || not (is_raw_character k c)) refl

pub raw_up_to : (k : Kind) (hashes t r : List ℕ) → is_string k ≡ true → r ≡ raw_stop k hashes t → IsRawUpTo k hashes t r
raw_up_to k hashes t r s e = subst (IsRawUpTo k hashes t) (sym e) (up_to k hashes t s)
