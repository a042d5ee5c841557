-- The meaning of each part of a rule, in the form that the other proofs use.
use Rattle.rl_syntax.proofs.Common.{◌≡◌, ◌||◌, ℕ, Bool, true, false, not, eqb, List, [], ◌∷◌, ◌++◌, refl, sym, ap, subst, ◌∙◌, inl, inr, append-nil, list_all, flat_map, eqb-true, both_ways, and_parts, and_from, or_left, or_right, or_cases, if◌then◌else◌}
use Rattle.std.proofs.lemmas.Bool.{false_from_ne_true}
use Rattle.rl_syntax.specs.Texts.{first_passes, begins, is_run_part}
use Rattle.rl_syntax.specs.Spelling.{without_underscores}
use Rattle.rl_syntax.proofs.Basics.{apart}
use Rattle.rl_syntax.proofs.StrictNumbers.{begins_front}
use Rattle.rl_theorem.specs.Notation.{Rule, Text, One, Many, Unless, ◌⋅◌, ◌∣◌, Follow, Means}

-- ---- tests of several characters

-- `((a || b) || c) || d`, as definitions write it, and `a || (b || (c || false))`, as `is_among` computes.
abbrev pub ors : Bool → List Bool → Bool
ors a [] = a
ors a (b ∷ bs) = ors (a || b) bs

abbrev pub or_all : List Bool → Bool
or_all [] = false
or_all (b ∷ bs) = b || or_all bs

or_false : (a : Bool) → a ≡ (a || false)
or_false true = refl
or_false false = refl

or_join : (a b c : Bool) → ((a || b) || c) ≡ (a || (b || c))
or_join true b c = refl
or_join false b c = refl

pub or_same : (a : Bool) (bs : List Bool) → ors a bs ≡ (a || or_all bs)
or_same a [] = or_false a
or_same a (b ∷ bs) = or_same (a || b) bs ∙ or_join a b (or_all bs)

-- ---- a text before and after a rule

pub text_then : (t : List ℕ) (a : Rule) (w after value : List ℕ) → Means a w after value
    → Means (Text t ⋅ a) (t ++ w) after value
text_then t a w after value m = (t, w, [], value, refl, refl, (refl, refl), m)

pub then_text : (t : List ℕ) (a : Rule) (text after value : List ℕ) → Means (Text t ⋅ a) text after value
    → (w : List ℕ) × (text ≡ t ++ w) × Means a w after value
then_text t a text after value (u, w, x, y, text_is, value_is, (u_is, x_is), m) =
    (w, text_is ∙ ap (λ k. k ++ w) u_is, subst (λ v. Means a w after v) (sym (value_is ∙ ap (λ k. k ++ y) x_is)) m)

pub close_then : (t : List ℕ) (a : Rule) (u after value : List ℕ) → Means a u (t ++ after) value
    → Means (a ⋅ Text t) (u ++ t) after value
close_then t a u after value m = (u, t, value, [], refl, sym (append-nil value), m, (refl, refl))

pub then_close : (t : List ℕ) (a : Rule) (text after value : List ℕ) → Means (a ⋅ Text t) text after value
    → (u : List ℕ) × (text ≡ u ++ t) × Means a u (t ++ after) value
then_close t a text after value (u, w, x, y, text_is, value_is, m, (w_is, y_is)) = (
  u,
  text_is ∙ ap (λ k. u ++ k) w_is,
  subst (λ v. Means a u (t ++ after) v) (sym (value_is ∙ ap (λ k. x ++ k) y_is ∙ append-nil x))
      (subst (λ z. Means a u (z ++ after) x) w_is m),
)

-- ---- what doesn't follow

-- No text of the rule begins the text.
abbrev pub NoneAt : Rule → List ℕ → Type 0
NoneAt a text = (u w x : List ℕ) → text ≡ u ++ w → Means a u w x → ⊥

pub unless_then : (a b : Rule) (text after value : List ℕ) → Means a text after value → NoneAt b after
    → Means (a ⋅ Unless b) text after value
unless_then a b text after value m none =
    (text, [], value, [], sym (append-nil text), sym (append-nil value), m, (refl, refl, none))

pub then_unless : (a b : Rule) (text after value : List ℕ) → Means (a ⋅ Unless b) text after value
    → Means a text after value × NoneAt b after
then_unless a b text after value (u, w, x, y, text_is, value_is, m, (w_is, y_is, none)) = (
  subst (λ v. Means a text after v) (sym (value_is ∙ ap (λ k. x ++ k) y_is ∙ append-nil x))
      (subst (λ k. Means a k after x) (sym (text_is ∙ ap (λ k. u ++ k) w_is ∙ append-nil u))
      (subst (λ z. Means a u (z ++ after) x) w_is m)),
  none,
)

pub unless_before : (a b : Rule) (text after value : List ℕ) → NoneAt b (text ++ after) → Means a text after value
    → Means (Unless b ⋅ a) text after value
unless_before a b text after value none m = ([], text, [], value, refl, refl, (refl, refl, none), m)

pub before_unless : (a b : Rule) (text after value : List ℕ) → Means (Unless b ⋅ a) text after value
    → NoneAt b (text ++ after) × Means a text after value
before_unless a b text after value (u, w, x, y, text_is, value_is, (u_is, x_is, none), m) =
    let same : text ≡ w = text_is ∙ ap (λ k. k ++ w) u_is in (
      subst (λ k. NoneAt b (k ++ after)) (sym same) none,
      subst (λ v. Means a text after v) (sym (value_is ∙ ap (λ k. k ++ y) x_is)) (subst (λ k. Means a k after y) (sym same) m),
    )

pub none_passes : (test : ℕ → Bool) (text : List ℕ) → first_passes test text ≡ false → NoneAt (One test) text
none_passes test text h u w x e (c, is, u_is, x_is) =
    both_ways (test c) (ap (first_passes test) (sym (e ∙ ap (λ k. k ++ w) u_is)) ∙ h) is

pub passes_none : (test : ℕ → Bool) (text : List ℕ) → NoneAt (One test) text → first_passes test text ≡ false
passes_none test [] none = refl
passes_none test (c ∷ cs) none = false_from_ne_true (test c) (λ is. none (c ∷ []) cs (c ∷ []) refl (c, is, refl, refl))

pub none_begins : (t text : List ℕ) → begins t text ≡ false → NoneAt (Text t) text
none_begins t text h u w x e (u_is, x_is) =
    both_ways (begins t text) h (ap (begins t) (e ∙ ap (λ k. k ++ w) u_is) ∙ begins_front t w)

begun : (t text : List ℕ) → begins t text ≡ true → (w : List ℕ) × (text ≡ t ++ w)
begun [] text h = (text, refl)
begun (p ∷ ps) [] h = absurd (cc)
begun (p ∷ ps) (c ∷ cs) h =
    let (same, more) = and_parts (eqb c p) (begins ps cs) h in
    let (w, e) = begun ps cs more in
    (w, ap (λ k. k ∷ cs) (eqb-true c p same) ∙ ap (λ k. p ∷ k) e)

pub begins_none : (t text : List ℕ) → NoneAt (Text t) text → begins t text ≡ false
begins_none t text none = false_from_ne_true (begins t text) (λ h.
    let (w, e) = begun t text h in none t w [] e (refl, refl))

pub none_of_both : (a b : Rule) (text : List ℕ) → NoneAt a text → NoneAt b text → NoneAt (a ∣ b) text
none_of_both a b text left right u w x e (inl m) = left u w x e m
none_of_both a b text left right u w x e (inr m) = right u w x e m

-- ---- the parts of a literal's rule

-- The rule of the text between two quotes, and the rule that may occur any number of times.
abbrev pub between : Rule → Rule
between (a ⋅ (b ⋅ c)) = b
between a = a

abbrev pub repeated : Rule → Rule
repeated (Many a) = a
repeated a = a

-- ---- rows of items

-- The texts and values of the rule are those of items.
pub record IsRuleOf {T : Type 0} (a : Rule) (text_of value_of : T → List ℕ) (At : T → List ℕ → Type 0) : Type 0 where
  pub to : (i : T) (after : List ℕ) → At i after → Means a (text_of i) after (value_of i)
  pub from : (text after value : List ℕ) → Means a text after value
      → (i : T) × At i after × (text ≡ text_of i) × (value ≡ value_of i)

abbrev pub Row : {T : Type 0} → (T → List ℕ) → (T → List ℕ → Type 0) → List T → List ℕ → Type 0
Row text_of At [] after = Unit
Row text_of At (i ∷ is) after = At i (flat_map text_of is ++ after) × Row text_of At is after

pub many_to : {T : Type 0} (a : Rule) (text_of value_of : T → List ℕ) (At : T → List ℕ → Type 0)
    → IsRuleOf a text_of value_of At → (is : List T) (after : List ℕ) → Row text_of At is after
    → Means (Many a) (flat_map text_of is) after (flat_map value_of is)
many_to a text_of value_of At rule [] after row = ([], (refl, refl))
many_to a text_of value_of At rule (i ∷ is) after row =
    let (parts, follow) = many_to a text_of value_of At rule is after row.1 in (
      (text_of i, value_of i) ∷ parts,
      (flat_map text_of is, flat_map value_of is, refl, refl, rule.to i (flat_map text_of is ++ after) row.0, follow),
    )

follow_from : {T : Type 0} (a : Rule) (text_of value_of : T → List ℕ) (At : T → List ℕ → Type 0)
    → IsRuleOf a text_of value_of At → (parts : List (List ℕ × List ℕ)) (text after value : List ℕ)
    → Follow (Means a) parts text after value
    → (is : List T) × Row text_of At is after × (text ≡ flat_map text_of is) × (value ≡ flat_map value_of is)
follow_from a text_of value_of At rule [] text after value (t, v) = ([], tt, t, v)
follow_from a text_of value_of At rule (p ∷ parts) text after value (rest, more, t, v, m, follow) =
    let (is, row, rest_is, more_is) = follow_from a text_of value_of At rule parts rest after more follow in
    let (i, at, text_is, value_is) = rule.from p.0 (rest ++ after) p.1 m in (
      i ∷ is,
      (subst (λ k. At i (k ++ after)) rest_is at, row),
      t ∙ ap (λ k. k ++ rest) text_is ∙ ap (λ k. text_of i ++ k) rest_is,
      v ∙ ap (λ k. k ++ more) value_is ∙ ap (λ k. value_of i ++ k) more_is,
    )

pub many_from : {T : Type 0} (a : Rule) (text_of value_of : T → List ℕ) (At : T → List ℕ → Type 0)
    → IsRuleOf a text_of value_of At → (text after value : List ℕ) → Means (Many a) text after value
    → (is : List T) × Row text_of At is after × (text ≡ flat_map text_of is) × (value ≡ flat_map value_of is)
many_from a text_of value_of At rule text after value (parts, follow) =
    follow_from a text_of value_of At rule parts text after value follow

pub row_from_all : {T : Type 0} (text_of : T → List ℕ) (test : T → Bool) (is : List T) (after : List ℕ)
    → list_all test is ≡ true → Row text_of (λ i after. test i ≡ true) is after
row_from_all text_of test [] after all = tt
row_from_all text_of test (i ∷ is) after all =
    let (here, more) = and_parts (test i) (list_all test is) all in
    (here, row_from_all text_of test is after more)

pub all_from_row : {T : Type 0} (text_of : T → List ℕ) (test : T → Bool) (is : List T) (after : List ℕ)
    → Row text_of (λ i after. test i ≡ true) is after → list_all test is ≡ true
all_from_row text_of test [] after row = refl
all_from_row text_of test (i ∷ is) after row =
    and_from (test i) (list_all test is) row.0 (all_from_row text_of test is after row.1)

-- ---- characters

abbrev pub one : ℕ → List ℕ
one c = c ∷ []

pub ones : (cs : List ℕ) → flat_map one cs ≡ cs
ones [] = refl
ones (c ∷ cs) = ap (λ k. c ∷ k) (ones cs)

pub character : (test : ℕ → Bool) → IsRuleOf (One test) one one (λ c after. test c ≡ true)
character test = record { to = λ c after h. (c, h, refl, refl); from = λ text after value m. m }

pub run_to : (test : ℕ → Bool) (cs after : List ℕ) → list_all test cs ≡ true → Means (Many (One test)) cs after cs
run_to test cs after all =
    subst (λ k. Means (Many (One test)) k after k) (ones cs)
    (many_to (One test) one one (λ c after. test c ≡ true) (character test) cs after (row_from_all one test cs after all))

pub run_from : (test : ℕ → Bool) (text after value : List ℕ) → Means (Many (One test)) text after value
    → (list_all test text ≡ true) × (value ≡ text)
run_from test text after value m =
    let (cs, row, text_is, value_is) = many_from (One test) one one (λ c after. test c ≡ true) (character test) text after value m in
    let same : text ≡ cs = text_is ∙ ones cs in
    (ap (list_all test) same ∙ all_from_row one test cs after row, value_is ∙ ones cs ∙ sym same)

pub all_pass : (cs : List ℕ) → list_all (λ (c : ℕ). true) cs ≡ true
all_pass [] = refl
all_pass (c ∷ cs) = all_pass cs

-- ---- digits and underscores

abbrev pub part : (ℕ → Bool) → Rule
part test = One test ∣ Text (95 ∷ [])

abbrev pub kept : ℕ → List ℕ
kept c = without_underscores (c ∷ [])

pub kept_digit : (c : ℕ) → eqb c 95 ≡ false → kept c ≡ c ∷ []
kept_digit c e = subst (λ b. (if not b then c ∷ [] else []) ≡ c ∷ []) (sym e) refl

pub kept_all : (cs : List ℕ) → flat_map kept cs ≡ without_underscores cs
kept_all [] = refl
kept_all (c ∷ cs) = ap (λ k. kept c ++ k) (kept_all cs) ∙ go (eqb c 95)
  where
    go : (b : Bool) → (if not b then c ∷ [] else []) ++ without_underscores cs ≡ (if not b then c ∷ without_underscores cs else without_underscores cs)
    go true = refl
    go false = refl

pub digit_part : (test : ℕ → Bool) → test 95 ≡ false → IsRuleOf (part test) one kept (λ c after. is_run_part test c ≡ true)
digit_part test fails = record { to = to; from = from }
  where
    to : (c : ℕ) (after : List ℕ) → is_run_part test c ≡ true → Means (part test) (one c) after (kept c)
    to c after h =
        elim (or_cases (test c) (eqb c 95) h) [
          | inl d ↦ inl (c, d, refl, kept_digit c (apart test c 95 d fails))
          | inr u ↦ inr (ap one (eqb-true c 95 u), ap kept (eqb-true c 95 u))
        ]

    from : (text after value : List ℕ) → Means (part test) text after value
        → (c : ℕ) × (is_run_part test c ≡ true) × (text ≡ one c) × (value ≡ kept c)
    from text after value (inl (c, is, t, v)) =
        (c, or_left (test c) (eqb c 95) is, t, v ∙ sym (kept_digit c (apart test c 95 is fails)))
    from text after value (inr (t, v)) = (95, or_right (test 95) true refl, t, v)

pub parts_to : (test : ℕ → Bool) → test 95 ≡ false → (cs after : List ℕ) → list_all (is_run_part test) cs ≡ true
    → Means (Many (part test)) cs after (without_underscores cs)
parts_to test fails cs after all =
    subst (λ v. Means (Many (part test)) cs after v) (kept_all cs)
    (subst (λ k. Means (Many (part test)) k after (flat_map kept cs)) (ones cs)
    (many_to (part test) one kept (λ c after. is_run_part test c ≡ true) (digit_part test fails) cs after
    (row_from_all one (is_run_part test) cs after all)))

pub parts_from : (test : ℕ → Bool) → test 95 ≡ false → (text after value : List ℕ) → Means (Many (part test)) text after value
    → (list_all (is_run_part test) text ≡ true) × (value ≡ without_underscores text)
parts_from test fails text after value m =
    let (cs, row, text_is, value_is) = many_from (part test) one kept (λ c after. is_run_part test c ≡ true) (digit_part test fails) text after value m in
    let same : text ≡ cs = text_is ∙ ones cs in (
      ap (list_all (is_run_part test)) same ∙ all_from_row one (is_run_part test) cs after row,
      value_is ∙ kept_all cs ∙ ap without_underscores (sym same),
    )
