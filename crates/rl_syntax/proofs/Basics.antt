-- Tests of characters: what one test implies about another.
use Rattle.rl_syntax.proofs.Common.{◌≡◌, ℕ, ◌<◌, ◌≤◌, ◌||◌, ◌&&◌, Bool, true, false, not, eqb, ltb, leb, List, [], ◌∷◌, refl, sym, ap, subst, ◌∙◌, inl, inr, arith, digit_value, is_ascii_digit, is_ascii_hexdigit, is_ascii_alphanumeric, list_all, list_any, eqb-true, ne_eqb, both_ways, and_parts, and_from, or_from, cases_Bool, cases_lt, not_from_false, agree_below, agree_below_at, is_xid_start, is_xid_continue, is_xid_continue-ascii, ◌++◌, scalar, suc, zero, replicate}
use Rattle.std.specs.Int.{is_in_range}
use Rattle.std.proofs.lemmas.Bool.{le-ltb, lt-leb}
use Rattle.unicode_ident.proofs.IdentLemmas.{is_xid_start-is_xid_continue}
use Rattle.rl_syntax.specs.Texts.{xid_ok, first_passes}
use Rattle.std.proofs.Math.Utf8.{scalars}
use Rattle.rl_syntax.specs.Classes.{is_hash}

-- If a test passes one of two characters and fails the other, the characters differ.
pub apart : (test : ℕ → Bool) (c k : ℕ) → test c ≡ true → test k ≡ false → eqb c k ≡ false
apart test c k h n = ne_eqb c k (λ e. both_ways (test k) n (subst (λ x. test x ≡ true) e h))

-- Two tests agree if they agree on ASCII characters and both fail for all other characters.
pub agree : (f g : ℕ → Bool) → agree_below f g 128 ≡ true → ((c : ℕ) → 128 ≤ c → f c ≡ false)
    → ((c : ℕ) → 128 ≤ c → g c ≡ false) → (c : ℕ) → f c ≡ g c
agree f g same f_past g_past c =
    elim (cases_lt c 128) [
      | inl a ↦ agree_below_at f g 128 c same a
      | inr a ↦ f_past c a ∙ sym (g_past c a)
    ]

pub range_past : (lo hi c : ℕ) → hi < 128 → 128 ≤ c → is_in_range lo hi c ≡ false
range_past lo hi c h p =
    let e : leb c hi ≡ false = lt-leb c hi (omega arith) in
    rw e (go (leb lo c))
  where
    go : (b : Bool) → (b && false) ≡ false
    go true = refl
    go false = refl

value_past : (c : ℕ) → 128 ≤ c → digit_value c ≡ 36
value_past c h =
    let a : ltb c 48 ≡ false = le-ltb c 48 (omega arith) in
    let b : ltb c 58 ≡ false = le-ltb c 58 (omega arith) in
    let d : ltb c 65 ≡ false = le-ltb c 65 (omega arith) in
    let e : ltb c 91 ≡ false = le-ltb c 91 (omega arith) in
    let f : ltb c 97 ≡ false = le-ltb c 97 (omega arith) in
    let g : ltb c 123 ≡ false = le-ltb c 123 (omega arith) in
    rw (a, b, d, e, f, g) refl

pub digit_is_ten : (c : ℕ) → is_ascii_digit c ≡ ltb (digit_value c) 10
digit_is_ten = agree is_ascii_digit (λ c. ltb (digit_value c) 10) refl (λ c h. range_past 48 57 c (omega arith) h)
    (λ c h. ap (λ v. ltb v 10) (value_past c h))

pub hex_is_sixteen : (c : ℕ) → is_ascii_hexdigit c ≡ ltb (digit_value c) 16
hex_is_sixteen = agree is_ascii_hexdigit (λ c. ltb (digit_value c) 16) refl
    (λ c h. or_from _ _ (or_from _ _ (range_past 48 57 c (omega arith) h) (range_past 65 70 c (omega arith) h))
    (range_past 97 102 c (omega arith) h)) (λ c h. ap (λ v. ltb v 16) (value_past c h))

-- If one test implies another, a list whose elements pass the first test passes the second.
pub all_weaker : (f g : ℕ → Bool) → ((c : ℕ) → f c ≡ true → g c ≡ true) → (cs : List ℕ) → list_all f cs ≡ true
    → list_all g cs ≡ true
all_weaker f g more [] h = refl
all_weaker f g more (c ∷ cs) h =
    let p = and_parts (f c) (list_all f cs) h in
    and_from (g c) (list_all g cs) (more c p.0) (all_weaker f g more cs p.1)

pub all_same : (f g : ℕ → Bool) → ((c : ℕ) → f c ≡ g c) → (cs : List ℕ) → list_all f cs ≡ list_all g cs
all_same f g same [] = refl
all_same f g same (c ∷ cs) = ap (λ b. b && list_all f cs) (same c) ∙ ap (λ b. g c && b) (all_same f g same cs)

pub any_same : (f g : ℕ → Bool) → ((c : ℕ) → f c ≡ g c) → (cs : List ℕ) → list_any f cs ≡ list_any g cs
any_same f g same [] = refl
any_same f g same (c ∷ cs) = ap (λ b. b || list_any f cs) (same c) ∙ ap (λ b. g c || b) (any_same f g same cs)

pub passes_same : (f g : ℕ → Bool) → ((c : ℕ) → f c ≡ g c) → (cs : List ℕ) → first_passes f cs ≡ first_passes g cs
passes_same f g same [] = refl
passes_same f g same (c ∷ cs) = same c

-- An ASCII character that isn't an identifier character differs from each identifier character.
pub continue_not : (k c : ℕ) → k < 128 → (is_ascii_alphanumeric k || eqb k 95) ≡ false → is_xid_continue c ≡ true
    → eqb c k ≡ false
continue_not k c small not_one h = apart is_xid_continue c k h (is_xid_continue-ascii k small ∙ not_one)

pub start_continues : (c : ℕ) → (eqb c 95 || is_xid_start c) ≡ true → is_xid_continue c ≡ true
start_continues c h =
    elim (cases_Bool (eqb c 95)) [
      | inl a ↦ subst (λ x. is_xid_continue x ≡ true) (sym (eqb-true c 95 a)) (is_xid_continue-ascii 95 (omega arith))
      | inr a ↦ is_xid_start-is_xid_continue c (ap (λ b. b || is_xid_start c) (sym a) ∙ h)
    ]

pub word_continues : (x : List ℕ) → xid_ok x ≡ true → list_all is_xid_continue x ≡ true
word_continues [] h = refl
word_continues (c ∷ cs) h =
    let p = and_parts (eqb c 95 || is_xid_start c) (list_all is_xid_continue cs) h in
    and_from (is_xid_continue c) (list_all is_xid_continue cs) (start_continues c p.0) p.1

pub word_without : (k : ℕ) (x : List ℕ) → k < 128 → (is_ascii_alphanumeric k || eqb k 95) ≡ false → xid_ok x ≡ true
    → list_all (λ c. not (eqb c k)) x ≡ true
word_without k x small not_one h =
    all_weaker is_xid_continue (λ c. not (eqb c k)) (λ c p. not_from_false (eqb c k) (continue_not k c small not_one p))
    x (word_continues x h)

pub false_unless : (b : Bool) → (b ≡ true → ⊥) → b ≡ false
false_unless true h = absurd (h refl)
false_unless false h = refl

-- If two joined lists consist of Unicode scalar values, each of the lists does.
pub scalars_parts : (a b : List ℕ) → scalars (a ++ b) ≡ true → (scalars a ≡ true) × (scalars b ≡ true)
scalars_parts [] b h = (refl, h)
scalars_parts (c ∷ a) b h =
    let first = and_parts (scalar c) (scalars (a ++ b)) h in
    let more = scalars_parts a b first.1 in
    (and_from (scalar c) (scalars a) first.0 more.0, more.1)

pub hashes_all : (n : ℕ) → list_all is_hash (replicate n 35) ≡ true
hashes_all zero = refl
hashes_all (suc n) = hashes_all n
